use Rattle.std.proofs.Common.{◌≡◌, take}
use Rattle.sched_sensitivity.specs.Overhead.{with_overhead}
use Rattle.sched_sensitivity.proofs.overhead.tasks_with.Given as goal

abbrev pub invariant-loop-task : goal.invariant-loop-task
invariant-loop-task l = l.all.items ≡ with_overhead (take l.task-index l.tasks) l.over
