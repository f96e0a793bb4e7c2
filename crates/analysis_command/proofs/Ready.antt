-- What an image has to have for what fits to be found.
use Rattle.std.specs.Prelude.{◌≡◌, ◌<◌, ◌-◌, ℕ, List, All, None, Some, length, slice_get}
use Rattle.std.proofs.Common.{sym, ◌∙◌, arith}
use Rattle.std.proofs.lemmas.List.{length-map}
use Rattle.std.proofs.lemmas.Option.{slice_get_within}
use Rattle.base.proofs.Lists.{all_of, map_get, one_some, some_at}
use Rattle.image.specs.declared.raw.RawImage.{RawImage}
use Rattle.image.specs.Raw.{image_of, process_of}
use Rattle.valid_image.specs.Tasks.{tasks_of}
use Rattle.valid_image.specs.Times.{rank_fault}
use Rattle.valid_image_law.proofs.Ranking.{ranked}
use Rattle.code_measures.proofs.Valid.{no_rank_fault}
use Rattle.sched_response.specs.declared.tasks.Task.{Task}
use Rattle.sched_response.specs.Demand.{AreTasks}
use Rattle.sched_sensitivity.specs.Overhead.{with_dispatches, with_overhead}
use Rattle.loader.proofs.InOrder.{are_tasks, tasks_long}
use Rattle.analysis_command.specs.Fitted.{levels_of, CanFit}

module _ (raw : RawImage) (can : CanFit raw) where
  none : rank_fault (image_of raw) ≡ None
  none = no_rank_fault (image_of raw) can.ranks

  many : length (image_of raw).processes ≡ length raw.processes
  many = length-map raw.processes process_of

  pub sound : AreTasks (tasks_of (image_of raw))
  sound = are_tasks (image_of raw) can.limits none

  pub levels_many : length (levels_of raw) ≡ length raw.names.processes
  levels_many = length-map raw.processes (λ p. (process_of p).rank - 1) ∙ sym can.named

  pub as_long : (over : ℕ) → length (with_overhead (tasks_of (image_of raw)) over) ≡ length raw.processes
  as_long over = length-map (tasks_of (image_of raw)) (with_dispatches over) ∙ (tasks_long (image_of raw) 0 (length (image_of raw).processes) ∙ many)

  -- each level is that of a task
  pub levels_low : (ts : List Task) → length ts ≡ length raw.processes → All (λ level. level < length ts) (levels_of raw)
  levels_low ts long = all_of (λ level. level < length ts) (levels_of raw) each where
    each : (k level : ℕ) → slice_get (levels_of raw) k ≡ Some level → level < length ts
    each k level at =
        let low : k < length raw.processes = (let w = slice_get_within (levels_of raw) k level at in omega (arith, w, length-map raw.processes (λ p. (process_of p).rank - 1))) in
        let p = some_at raw.processes k low in
        let there : slice_get (image_of raw).processes k ≡ Some (process_of p.0) = map_get process_of raw.processes k p.0 p.1 in
        let value : level ≡ (process_of p.0).rank - 1 = one_some at (map_get (λ q. (process_of q).rank - 1) raw.processes k p.0 p.1) in
        let r = ranked (image_of raw) none k (process_of p.0) there in
        omega (arith, r.0, r.1, value, long, many)
