-- What the timing argument gives of a run.
use Rattle.std.specs.Prelude.{◌≡◌, ◌≤◌, ◌<◌, ◌+◌, ℕ, suc, true, List, length}
use Rattle.sched_response.specs.declared.tasks.Task.{Task}
use Rattle.sched_response.specs.Demand.{deadline_at, Solves}
use Rattle.sched_theorem.specs.Stretches.{Trace, IsStretch}
use Rattle.sched_theorem.specs.Ranked.{EndsWithin}

-- each level has a bound: a number within its deadline that meets its recurrence; the least such is
-- one of them
abbrev pub AreBounds : List Task → (ℕ → ℕ) → Type 0
AreBounds ts bounds = (level : ℕ) → level < length ts → Solves ts level (bounds level)

-- a run is in time, as far as it goes
pub record IsInTime (ts : List Task) (bounds : ℕ → ℕ) (end : ℕ) (t : Trace) : Type 0 where
  -- no stretch of a level is longer than its bound
  pub stretches : (level start ticks : ℕ) → level < length ts → IsStretch (suc level) t start ticks → start + ticks ≤ end → ticks ≤ bounds level
  -- each release finds its process idle
  pub idle : (k j : ℕ) → j < length ts → k < end → t.released k j ≡ true → (t.before k j).run_left ≡ 0
  -- each activation ends within its bound, where the bound is within the run
  pub ends : (k j : ℕ) → j < length ts → k + bounds j ≤ end → t.released k j ≡ true → EndsWithin t j k (bounds j)

-- each activation ends within its deadline, where the bound is within the run
abbrev pub MeetsDeadlines : List Task → (ℕ → ℕ) → ℕ → Trace → Type 0
MeetsDeadlines ts bounds end t = (k j : ℕ) → j < length ts → k + bounds j ≤ end → t.released k j ≡ true → EndsWithin t j k (deadline_at ts j)
