use Rattle.std.proofs.Common.{◌≡◌, ◌≤◌, ◌*◌, take}
use Rattle.sched_demand.specs.Demand.{asked}
use Rattle.sched_demand.proofs.looking.asked_in.Given as goal

abbrev pub invariant-loop-task : goal.invariant-loop-task
invariant-loop-task l = record {
  value : l.total ≡ asked (take l.task-index l.tasks) l.r;
  range : l.total ≤ l.task-index * 100000000100000000;
}
