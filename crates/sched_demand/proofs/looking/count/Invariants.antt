use Rattle.std.proofs.Common.{◌≡◌, ◌≤◌, ◌*◌, take}
use Rattle.sched_demand.specs.Demand.{points}
use Rattle.sched_demand.proofs.looking.count.Given as goal

abbrev pub invariant-loop-task : goal.invariant-loop-task
invariant-loop-task l = record {
  value : l.total ≡ points (take l.task-index l.tasks) l.reach;
  range : l.total ≤ l.task-index * 100000000;
}
