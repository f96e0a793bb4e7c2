-- Each rank of a valid image has a bound.
use Rattle.std.proofs.Common.{◌≡◌, ◌≤◌, ◌<◌, ◌+◌, ◌-◌, ◌∙◌, ℕ, List, length, Option, Some, None, get_or, map, refl, sym, ap, subst, arith}
use Rattle.std.specs.Prelude.{slice_get}
use Rattle.std.proofs.lemmas.List.{get_or-set_same}
use Rattle.std.proofs.lemmas.List.Elements.{All-get_or}
use Rattle.std.proofs.lemmas.Option.{slice_get-get_or}
use Rattle.base.proofs.Lists.{map_get, some_at}
use Rattle.machine_semantics.specs.Image.{Image, Process}
use Rattle.image.specs.Raw.{image_of, process_of}
use Rattle.image.specs.declared.raw.RawImage.{RawImage}
use Rattle.image.specs.declared.raw.RawProcess.{RawProcess}
use Rattle.sched_response.specs.declared.tasks.Task.{Task}
use Rattle.sched_response.specs.Demand.{task_at, deadline_at, AreTasks, IsTask, Solves}
use Rattle.sched_sensitivity.specs.Slack.{with_more, IsTimely}
use Rattle.sched_sensitivity.proofs.Lighter.{nobody, run_within}
use Rattle.sched_sensitivity.proofs.More.{length_more}
use Rattle.sched_table.proofs.Onto.{onto}
use Rattle.valid_image.specs.Tasks.{tasks_of}
use Rattle.valid_image.specs.Times.{rank_fault}
use Rattle.valid_image.specs.Valid.{HasLimits, IsValid, Ranks}
use Rattle.valid_image_law.specs.ValidLaw.{ValidMeetsPremises}
use Rattle.valid_image_law.proofs.Ranking.{ranked, one_each}
use Rattle.loader.proofs.InOrder.{are_tasks, tasks_long}
use Rattle.command_programs.specs.Levels.{AreTimelyTasks, HaveLevels}

abbrev rank_some : Option Process → ℕ
rank_some None = 0
rank_some (Some p) = p.rank

-- the process of each level
with_level : (m : Image) → rank_fault m ≡ None → (level : ℕ) → level < length m.processes → (k : ℕ) × (p : Process) × (slice_get m.processes k ≡ Some p) × (p.rank - 1 ≡ level)
with_level m none level below =
    let found = onto (length m.processes) (λ k. rank_some (slice_get m.processes k) - 1)
    (λ k low. let p = some_at m.processes k low in let r = ranked m none k p.0 p.1 in let e = ap (λ o. rank_some o) p.1 in omega (arith, e, r.0, r.1))
    (λ j k low_j low_k same.
    let p = some_at m.processes j low_j in
    let q = some_at m.processes k low_k in
    let r = ranked m none j p.0 p.1 in
    let s = ranked m none k q.0 q.1 in
    let e = ap (λ o. rank_some o) p.1 in
    let f = ap (λ o. rank_some o) q.1 in
    one_each m none j k p.0 q.0 p.1 q.1 (omega (arith, e, f, same, r.0, s.0)))
    level below in
    let p = some_at m.processes found.0 found.1 in
    let e = ap (λ o. rank_some o) p.1 in
    (found.0, p.0, p.1, omega (arith, e, found.2))

pub timely_tasks : ValidMeetsPremises → (m : Image) → HasLimits m → IsValid m → (tasks : List Task) → tasks ≡ tasks_of m → AreTimelyTasks m tasks
timely_tasks premises m limits valid tasks is = subst (AreTimelyTasks m) (sym is) (record {
  is = refl;
  sound = are_tasks m limits none;
  timely = λ level below. (let found = with_level m none level (omega (arith, below, long)) in (found.1.bound, subst (λ (l : ℕ). Solves (tasks_of m) l found.1.bound) found.3 (solved found.0 found.1 found.2)));
  levels = λ k p at. (let r = ranked m none k p at in omega (arith, r.0, r.1, long));
}) where
  none : rank_fault m ≡ None
  none = valid Ranks

  long : length (tasks_of m) ≡ length m.processes
  long = tasks_long m 0 (length m.processes)

  solved : (k : ℕ) (p : Process) → slice_get m.processes k ≡ Some p → Solves (tasks_of m) (p.rank - 1) p.bound
  solved k p at =
      let meets = premises m limits valid in
      subst (λ (i : Image). slice_get i.processes k ≡ Some p → Solves (tasks_of i) (p.rank - 1) p.bound) meets.of (meets.timed.solved k p) at

-- ---- a level that runs for more ticks

-- in a timely set its run is no longer than the greatest deadline
pub more_within : (ts : List Task) (level extra : ℕ) → level < length ts → AreTasks ts → IsTimely (with_more ts level extra) → (task_at ts level).run + extra ≤ 1000000001
more_within ts level extra below sound timely =
    let at : task_at (with_more ts level extra) level ≡ record (task_at ts level) { run = (task_at ts level).run + extra } =
    get_or-set_same ts level (record (task_at ts level) { run = (task_at ts level).run + extra }) nobody below in
    let due : deadline_at (with_more ts level extra) level ≡ deadline_at ts level = ap (λ (t : Task). t.deadline) at in
    let run : (task_at (with_more ts level extra) level).run ≡ (task_at ts level).run + extra = ap (λ (t : Task). t.run) at in
    let own : IsTask (task_at ts level) = All-get_or IsTask ts level nobody below sound.each in
    let solved = timely level (omega (arith, below, length_more ts level extra)) in
    let held = run_within (with_more ts level extra) level solved.0 (omega (arith, due, own.deadline_high, own.frame_high)) solved.1 in
    omega (arith, run, held, solved.1.within, due, own.deadline_high, own.frame_high)

pub levels_more : (ps : List Process) (ts : List Task) (level extra : ℕ) → HaveLevels ps ts → HaveLevels ps (with_more ts level extra)
levels_more ps ts level extra levels k p at = omega (arith, levels k p at, length_more ts level extra)

-- ---- the process of a number

pub became_at : (ps : List RawProcess) (k : ℕ) (p : RawProcess) → k < length ps → p ≡ get_or ps k p → slice_get (map process_of ps) k ≡ Some (process_of p)
became_at ps k p low at = map_get process_of ps k p (slice_get-get_or ps k p low ∙ ap (λ (x : RawProcess). Some x) (sym at))

pub level_at : (ps : List RawProcess) (ts : List Task) (k level : ℕ) (p : RawProcess) → HaveLevels (map process_of ps) ts → k < length ps → p ≡ get_or ps k p → level ≡ p.rank - 1 → level < length ts
level_at ps ts k level p levels low at rank =
    let there : p.rank - 1 < length ts = levels k (process_of p) (became_at ps k p low at) in
    omega (arith, there, rank)

pub process_there : (image : RawImage) (ps : List RawProcess) (k : ℕ) (p : RawProcess) → ps ≡ image.processes → k < length ps → p ≡ get_or ps k p → slice_get (image_of image).processes k ≡ Some (process_of p)
process_there image ps k p same low at =
    let there : k < length image.processes = omega (arith, low, ap (λ (xs : List RawProcess). length xs) same) in
    map_get process_of image.processes k p (slice_get-get_or image.processes k p there ∙ ap (λ (x : RawProcess). Some x) (sym (at ∙ ap (λ (xs : List RawProcess). get_or xs k p) same)))

-- ---- what is asked of the set, once it is as before

module _ (m : Image) (old now : List Task) (kept : now ≡ old) (tasks : AreTimelyTasks m old) (level : ℕ) (below : level < length old) where
  pub level_kept : level < length now
  level_kept = omega (arith, below, ap (λ (us : List Task). length us) kept)

  pub room_kept : (extra : ℕ) → IsTimely (with_more old level extra) → (task_at now level).run + extra ≤ 1000000001
  room_kept extra fits = subst (λ (us : List Task). (task_at us level).run + extra ≤ 1000000001) (sym kept) (more_within old level extra below tasks.sound fits)

pub timely_kept : (old now : List Task) → now ≡ old → (level extra : ℕ) → IsTimely (with_more old level extra) → IsTimely (with_more now level extra)
timely_kept old now kept level extra fits = subst (λ (us : List Task). IsTimely (with_more us level extra)) (sym kept) fits

pub levels_kept : (m : Image) (old now : List Task) → now ≡ old → AreTimelyTasks m old → (ps : List Process) → ps ≡ m.processes → HaveLevels ps now
levels_kept m old now kept tasks ps same = subst (λ (us : List Task). HaveLevels ps us) (sym kept) (subst (λ (qs : List Process). HaveLevels qs old) (sym same) tasks.levels)

pub level_there : (image : RawImage) (ts : List Task) (ps : List RawProcess) (k level : ℕ) (p : RawProcess) → AreTimelyTasks (image_of image) ts → ps ≡ image.processes → k < length image.processes → p ≡ get_or ps k p
    → level ≡ p.rank - 1 → level < length ts
level_there image ts ps k level p tasks same low at rank =
    let here = process_there image ps k p same (omega (arith, low, ap (λ (xs : List RawProcess). length xs) same)) at in
    let there : p.rank - 1 < length ts = tasks.levels k (process_of p) here in
    omega (arith, there, rank)
