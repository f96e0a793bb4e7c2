use Rattle.std.proofs.Common.{◌≤◌, ◌<◌, ◌+◌, ◌-◌, ℕ}
use Rattle.sched_demand.specs.Demand.{demand_at, IsPoint, IsTurn}
use Rattle.sched_demand.proofs.judging.judge_row.Given as goal

abbrev pub invariant-loop-at : goal.invariant-loop-at
invariant-loop-at l = record {
  turn : IsTurn l.tasks l.at;
  seen : (t : ℕ) → IsPoint l.tasks l.row.reach t → t < l.at → demand_at l.tasks t ≤ t;
}

abbrev pub decreases-loop-at : goal.decreases-loop-at
decreases-loop-at l = l.row.reach + 1 - l.at
