-- What fits: the greatest number that can stand in the place of one number of a task while each
-- level has a bound.
use Rattle.std.specs.Prelude.{◌≤◌, ℕ, List, Option, Some, None}
use Rattle.sched_response.specs.declared.tasks.Task.{Task}
use Rattle.sched_response.specs.Demand.{with_run, with_susp}
use Rattle.sched_sensitivity.specs.Slack.{IsTimely}
use Rattle.sched_sensitivity.specs.declared.fitting.Varied.{Varied}
use Rattle.sched_sensitivity.specs.declared.fitting.Varied.TheVariants.{Cost, Suspension}

-- the same tasks, but for that number of the level
abbrev pub with_number : Varied → List Task → (level ticks : ℕ) → List Task
with_number Cost ts level ticks = with_run ts level ticks
with_number Suspension ts level ticks = with_susp ts level ticks

-- x is the greatest number with which each level has a bound
pub record IsGreatestFit (number : Varied) (ts : List Task) (level x : ℕ) : Type 0 where
  pub fits : IsTimely (with_number number ts level x)
  pub greatest : (y : ℕ) → IsTimely (with_number number ts level y) → y ≤ x

-- what fits; nothing exactly where 0 does not
abbrev pub IsFit : Varied → List Task → (level : ℕ) → Option ℕ → Type 0
IsFit number ts level None = ¬ IsTimely (with_number number ts level 0)
IsFit number ts level (Some x) = IsGreatestFit number ts level x
