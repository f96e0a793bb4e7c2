use Rattle.std.proofs.Common.{◌≡◌, ◌<◌, ◌-◌, ◌∙◌, ℕ, List, All, ap, length, map, subst, sym}
use Rattle.image.specs.Raw.{process_of}
use Rattle.image.specs.declared.raw.RawProcess.{RawProcess}
use Rattle.sched_response.specs.declared.tasks.Task.{Task}
use Rattle.sched_response.specs.Demand.{AreTasks}
use Rattle.sched_sensitivity.specs.Overhead.{with_overhead}
use Rattle.analysis_command.proofs.Ready as ready
use Rattle.analysis_command.proofs.fit.rows.Goals as goal

pub with_overhead-requires-clause-tasks : goal.with_overhead-requires-clause-tasks
with_overhead-requires-clause-tasks c = subst (λ (ts : List Task). AreTasks ts) (sym c.requires.tasks) (ready.sound c.args.image.now c.requires.ready)

pub process_fits-requires-clause-order : goal.process_fits-requires-clause-order
process_fits-requires-clause-order c =
    let raw = c.args.image.now in
    let long : length c.in_ok-set.set ≡ length raw.processes =
    ap (λ (ts : List Task). length ts) c.in_ok-set.ensures ∙ (ap (λ (ts : List Task). length (with_overhead ts c.args.over)) c.requires.tasks ∙ ready.as_long raw c.requires.ready c.args.over) in
    subst (λ (ls : List ℕ). All (λ level. level < length c.in_ok-set.set) ls)
    (sym (c.as_slice-2.ensures.value ∙ (c.in_ok-order.ensures ∙ ap (λ (ps : List RawProcess). map (λ p. (process_of p).rank - 1) ps) c.as_slice.ensures)))
    (ready.levels_low raw c.requires.ready c.in_ok-set.set long)
