use Rattle.std.proofs.Common.{◌≡◌, ◌≤◌, ◌<◌, ℕ, length}
use Rattle.sched_demand.specs.Demand.{task_at}
use Rattle.sched_demand.proofs.looking.most_block.Given as goal

abbrev pub invariant-loop-task : goal.invariant-loop-task
invariant-loop-task l = record {
  here : (level : ℕ) × (level < length l.tasks) × ((task_at l.tasks level).block ≡ l.most);
  most : (j : ℕ) → j < l.task-index → (task_at l.tasks j).block ≤ l.most;
  range : l.most ≤ 1000000001;
}
