-- A number below which no response of a level meets the recurrence.
use Rattle.std.specs.Prelude.{◌≤◌, ℕ, List}
use Rattle.sched_response.specs.declared.tasks.Task.{Task}
use Rattle.sched_response.specs.Demand.{deadline_at, Solves}

-- no response that meets the recurrence is below this number, which is within the deadline
pub record IsFloor (ts : List Task) (level floor : ℕ) : Type 0 where
  pub above : 1 ≤ floor
  pub within : floor ≤ deadline_at ts level
  pub below : (r : ℕ) → Solves ts level r → floor ≤ r
