-- What fits of a process.
use Rattle.std.specs.Prelude.{◌≡◌, ◌<◌, ℕ, List, [], Option, Some, None, length, slice_get, slice_index, slice_index_or}
use Rattle.sched_response.specs.declared.tasks.Task.{Task}
use Rattle.sched_response.specs.Demand.{task_at}
use Rattle.sched_sensitivity.specs.declared.fitting.Varied.TheVariants.{Cost, Suspension}
use Rattle.sched_sensitivity.specs.Fit.{IsFit}
use Rattle.sched_sensitivity.specs.declared.rows.SuspensionFit.{SuspensionFit}
use Rattle.sched_sensitivity.specs.declared.rows.ProcessFit.{ProcessFit}

-- a suspension as it is, and what fits in its place
pub record IsSuspensionFit (ts : List Task) (level : ℕ) (s : SuspensionFit) : Type 0 where
  pub waits : 0 < (task_at ts level).waits
  pub ticks : s.ticks ≡ (task_at ts level).susp
  pub fits : IsFit Suspension ts level s.fits

-- of a level that waits; of another there is none
abbrev pub IsSuspensionOf : List Task → (level : ℕ) → Option SuspensionFit → Type 0
IsSuspensionOf ts level None = (task_at ts level).waits ≡ 0
IsSuspensionOf ts level (Some s) = IsSuspensionFit ts level s

-- what fits of the process of that name and level, one number changed at a time
pub record IsFitOf (ts : List Task) (level : ℕ) (name : List ℕ) (fit : ProcessFit) : Type 0 where
  pub is_name : fit.name ≡ name
  pub cost : fit.cost ≡ (task_at ts level).run
  pub cost_fits : IsFit Cost ts level fit.cost_fits
  pub suspension : IsSuspensionOf ts level fit.suspension

-- of each process of these names and levels
pub record AreFitsOf (ts : List Task) (order : List ℕ) (names : List (List ℕ)) (fits : List ProcessFit) : Type 0 where
  pub one_each : length fits ≡ length names
  pub each : (k : ℕ) (fit : ProcessFit) → slice_get fits k ≡ Some fit → IsFitOf ts (slice_index order k) (slice_index_or names k []) fit
