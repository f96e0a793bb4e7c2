use Rattle.std.proofs.Common.{◌≡◌, ◌≤◌, ◌+◌, ◌-◌}
use Rattle.sched_demand.specs.Demand.{asked, points, NoneCovers}
use Rattle.sched_demand.proofs.reaching.find_span.Given as goal

abbrev pub invariant-loop-points : goal.invariant-loop-points
invariant-loop-points l = record {
  above : 1 ≤ l.reach;
  within : l.reach ≤ 1000000000;
  asked_is : l.asked ≡ l.block + asked l.tasks l.reach;
  count : l.points ≡ points l.tasks l.reach;
  none_covers : NoneCovers l.tasks l.reach;
}

abbrev pub decreases-loop-points : goal.decreases-loop-points
decreases-loop-points l = 1000000000 - l.reach
