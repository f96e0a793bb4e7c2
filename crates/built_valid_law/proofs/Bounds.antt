-- Least bounds are bounds: the task of a rank is that of the process that has it.
use Rattle.std.proofs.Common.{◌≡◌, ◌≤◌, ◌<◌, ◌+◌, ◌-◌, ℕ, zero, suc, length, Option, Some, None, arith, ap, sym, ◌∙◌, false, Bool}
use Rattle.std.specs.Prelude.{slice_get, slice_index_or}
use Rattle.sched_response.specs.declared.tasks.Task.{Task}
use Rattle.sched_response.specs.Demand.{Solves, task_at}
use Rattle.machine_semantics.specs.Image.{Image, Process}
use Rattle.valid_image.specs.Tasks.{process_at, task_of, tasks_from, tasks_of}
use Rattle.valid_image.specs.Times.{rank_fault}
use Rattle.code_measures.specs.Whole.{HasRanks}
use Rattle.valid_image_law.proofs.Ranking.{ranked, one_each}
use Rattle.built_valid_law.specs.Made.{LeastBoundsAreBounds}
use Rattle.code_measures.proofs.Valid.{no_rank_fault}
use Rattle.valid_image_law.proofs.Timing.{search}

-- ---- ranks

no_less : {a b : ℕ} → a ≡ b → b ≤ a
no_less e = omega (arith, e)

-- ---- tasks in the order of ranks

tasks_at : (m : Image) (j n i : ℕ) (d : Task) → i < n → slice_index_or (tasks_from m j n) i d ≡ task_of (slice_get m.processes (process_at m (j + i)))
tasks_at m j zero i d low = absurd (omega (arith, low))
tasks_at m j (suc n) zero d low =
    let z : j ≡ j + 0 = omega arith in ap (λ (x : ℕ). task_of (slice_get m.processes (process_at m x))) z
tasks_at m j (suc n) (suc i) d low =
    let z : suc j + i ≡ j + suc i = omega arith in
    tasks_at m (suc j) n i d (omega (arith, low)) ∙ ap (λ (x : ℕ). task_of (slice_get m.processes (process_at m x))) z

own_task : (m : Image) → HasRanks m → (k : ℕ) (p : Process) → slice_get m.processes k ≡ Some p
    → task_at (tasks_of m) (p.rank - 1) ≡ task_of (Some p)
own_task m has k p at =
    let none : rank_fault m ≡ None = no_rank_fault m has in
    let r = ranked m none k p at in
    let rank : suc (p.rank - 1) ≡ p.rank = omega (arith, r.0) in
    let place : process_at m (p.rank - 1) ≡ 0 + k =
    search (suc (p.rank - 1)) 0 k m.processes p at (sym rank) (λ l q there of. one_each m none l k q p there at (of ∙ rank)) in
    let z : 0 + (p.rank - 1) ≡ p.rank - 1 = omega arith in
    let y : 0 + k ≡ k = omega arith in
    let here : process_at m (0 + (p.rank - 1)) ≡ k = ap (λ n. process_at m n) z ∙ (place ∙ y) in
    tasks_at m 0 (length m.processes) (p.rank - 1) _ (omega (arith, r.0, r.1)) ∙ ap (λ o. task_of o) (ap (λ n. slice_get m.processes n) here ∙ at)

pub least_bounds_are_bounds : LeastBoundsAreBounds
least_bounds_are_bounds m has least k p at =
    let s : Solves (tasks_of m) (p.rank - 1) p.bound = (least k p at).solves in
    let own : task_at (tasks_of m) (p.rank - 1) ≡ task_of (Some p) = own_task m has k p at in
    record { meets = s.met; timely = omega (arith, s.within, ap (λ (t : Task). t.deadline) own) }
