use Rattle.std.proofs.Common.{List, subst, sym}
use Rattle.sched_response.specs.declared.tasks.Task.{Task}
use Rattle.sched_response.specs.Demand.{AreTasks}
use Rattle.sched_sensitivity.proofs.Overheads.{are_tasks}
use Rattle.sched_sensitivity.proofs.overhead.with_overhead.Goals as goal

pub unreachable-requires : goal.unreachable-requires
unreachable-requires c =
    c.in-None.ensures (subst (λ (ts : List Task). AreTasks ts) (sym c.in_ok-tasks_with.ensures) (are_tasks c.args.tasks.now c.args.over c.requires.tasks))
