use Rattle.std.proofs.Common.{◌≡◌, ◌≤◌, ◌*◌, take}
use Rattle.sched_demand.specs.Demand.{dbf, block_of, IsNext}
use Rattle.sched_demand.proofs.looking.look_at.Given as goal

abbrev pub invariant-loop-task : goal.invariant-loop-task
invariant-loop-task l = record {
  value : l.total ≡ dbf (take l.task-index l.tasks) l.t;
  range : l.total ≤ l.task-index * 100000000100000000;
  block : l.block ≡ block_of l.tasks l.t l.task-index;
  small : l.block ≤ 1000000001;
  next : IsNext l.tasks l.t l.task-index l.next;
}
