-- Which overhead fits: the ticks of one dispatch, of which each activation and each wait brings two.
use Rattle.std.specs.Prelude.{◌≤◌, ◌+◌, ◌*◌, ℕ, List, Option, Some, None, map}
use Rattle.base.specs.Capped.{cap}
use Rattle.sched_response.specs.declared.tasks.Task.{Task}
use Rattle.sched_sensitivity.specs.Slack.{IsTimely}

-- a task with its dispatches
abbrev pub with_dispatches : (over : ℕ) → Task → Task
with_dispatches over t = record t { run = cap (t.run + 2 * over * (1 + t.waits)) }

-- tasks whose costs hold no dispatch yet, with an overhead
abbrev pub with_overhead : List Task → (over : ℕ) → List Task
with_overhead ts over = map (with_dispatches over) ts

-- the greatest overhead that is asked for
abbrev pub greatest_overhead : ℕ
greatest_overhead = 1000

-- x is the greatest overhead of these with which each level has a bound
pub record IsGreatestOverhead (ts : List Task) (x : ℕ) : Type 0 where
  pub in_range : x ≤ greatest_overhead
  pub fits : IsTimely (with_overhead ts x)
  pub greatest : (y : ℕ) → y ≤ greatest_overhead → IsTimely (with_overhead ts y) → y ≤ x

-- which overhead fits; none exactly where 0 does not
abbrev pub IsOverheadFit : List Task → Option ℕ → Type 0
IsOverheadFit ts None = ¬ IsTimely (with_overhead ts 0)
IsOverheadFit ts (Some x) = IsGreatestOverhead ts x
