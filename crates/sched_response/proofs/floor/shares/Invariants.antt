use Rattle.std.proofs.Common.{◌≤◌, ◌*◌, ℕ, take}
use Rattle.sched_response.specs.Demand.{asked}
use Rattle.sched_response.proofs.floor.shares.Given as goal

abbrev pub invariant-loop-task : goal.invariant-loop-task
invariant-loop-task l = record {
  less : (r : ℕ) → l.total * r ≤ 17179869184 * asked l.block r (take l.task-index l.tasks);
  range : l.total ≤ l.task-index * 17179869184;
}
