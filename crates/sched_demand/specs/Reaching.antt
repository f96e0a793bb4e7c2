-- The row that has to be tested, as it is found.
use Rattle.std.specs.Prelude.{◌≡◌, ◌≤◌, List}
use Rattle.sched_demand.specs.declared.tasks.DemandTask.{DemandTask}
use Rattle.sched_demand.specs.declared.reaching.Span.{Span}
use Rattle.sched_demand.specs.Demand.{points, IsReach}

pub record IsSpan (ts : List DemandTask) (s : Span) : Type 0 where
  pub is_reach : IsReach ts s.reach
  pub count : s.points ≡ points ts s.reach
  pub few : s.points ≤ 1000000
