-- Two processes that meet the premise, although fixed ranks refuse them.
use Rattle.std.specs.Prelude.{◌≤◌, ℕ, zero, suc, List, [], ◌∷◌}
use Rattle.machine_semantics.specs.Image.{Script}
use Rattle.machine_semantics.specs.Walk.{Where}
use Rattle.machine_semantics.specs.Safe.{Parts, ImageFits}
use Rattle.machine_safety.specs.Example.{cost, own_part}
use Rattle.sched_demand.specs.declared.tasks.DemandTask.{DemandTask}
use Rattle.edf_semantics.specs.Safe.{IsWaitless}
use Rattle.edf_semantics.specs.Example.{two}
use Rattle.edf_semantics.specs.InTime.{AreDemandsOf, IsJudgedFeasible, MeetsDeadlines}

abbrev pub two_place : Where
two_place = record { image = two; parts = λ r. own_part 1 0 0; costs = λ r. cost 0 0 0; part = own_part 1 0 0 }

-- 11 ticks and 22 ticks, without the END
abbrev pub body_cost : ℕ → ℕ
body_cost zero = 11
body_cost (suc k) = 22

abbrev pub two_parts : ℕ → Parts
two_parts k = record { body = own_part 1 0 0; handler = own_part 1 0 0; body_cost = cost (body_cost k) 0 0; handler_cost = cost 0 0 0 }

abbrev pub two_tasks : List DemandTask
two_tasks = record { frame = 30; deadline = 30; cost = 15; block = 0 } ∷ record { frame = 52; deadline = 52; cost = 26; block = 0 } ∷ []

pub record TwoMeetPremise : Type 0 where
  pub fits : ImageFits two_place two_parts
  pub waitless : IsWaitless two_place two_parts
  pub demands : AreDemandsOf two_place two_parts two_tasks (λ j. j)
  pub judged : IsJudgedFeasible two_tasks 41

abbrev pub TwoMeetDeadlines : Type 0
TwoMeetDeadlines = (script : Script) → script.end_tick ≤ 1000000000 → MeetsDeadlines two script
