-- Each process of a light image responds within a share for each.
use Rattle.std.proofs.Common.{◌≡◌, ◌*◌, ◌-◌, ℕ, Some, arith, ap, sym, subst, ◌∙◌}
use Rattle.std.specs.Prelude.{slice_get}
use Rattle.machine_semantics.specs.Image.{Image, Process}
use Rattle.sched_response.specs.declared.tasks.Task.{Task}
use Rattle.sched_response.specs.Demand.{task_at}
use Rattle.valid_image.specs.Tasks.{task_of, tasks_of}
use Rattle.code_measures.specs.Whole.{HasRanks}
use Rattle.load_law.specs.Light.{IsLight, LightImagesRespond}
use Rattle.load_law.proofs.Sharing.{IsLightTask, light_tasks_respond}
use Rattle.load_law.proofs.Stays.{needed_low}
use Rattle.load_law.proofs.Levels.{as_many, each_level, level_low, own_task}

light_task : (count share stay : ℕ) (m : Image) → IsLight count share stay m → HasRanks m → (k : ℕ) (p : Process) → slice_get m.processes k ≡ Some p → IsLightTask (count * share) share stay (task_of (Some p))
light_task count share stay m light has k p at =
    let own = light.each k p at in
    record {
      frame = omega (arith, own.deadline, own.frame);
      block = omega (arith, has.blocks k p at, needed_low m stay light.stays p.rank);
      asks = own.asks;
    }

pub respond : LightImagesRespond
respond count share stay m light has some some_share few k p at =
    light_tasks_respond count share stay (tasks_of m) (p.rank - 1) some_share (as_many m ∙ light.many)
    (omega (arith, level_low m has.ranks k p at, light.many))
    (λ j low.
    let l = each_level m has.ranks j (omega (arith, low, light.many)) in
    subst (λ (t : Task). IsLightTask (count * share) share stay t) (sym l.task) (light_task count share stay m light has l.k l.q l.at))
    (let due : (task_at (tasks_of m) (p.rank - 1)).deadline ≡ p.deadline = ap (λ (t : Task). t.deadline) (own_task m has.ranks k p at) in
    let own = light.each k p at in
    omega (arith, due, own.deadline))
