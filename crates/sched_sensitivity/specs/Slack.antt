-- How many ticks a level can spare.
use Rattle.std.specs.Prelude.{◌≤◌, ◌<◌, ◌+◌, ℕ, zero, suc, List, length, take}
use Rattle.sched_response.specs.declared.tasks.Task.{Task}
use Rattle.sched_response.specs.Demand.{task_at, deadline_at, starts_in, with_run, Solves}
use Rattle.sched_sensitivity.specs.declared.spare.Spare.{Spare}

-- each level has a response within its deadline that meets the recurrence
abbrev pub IsTimely : List Task → Type 0
IsTimely ts = (level : ℕ) → level < length ts → (r : ℕ) × Solves ts level r

-- the same tasks, but that the one of the level runs for x ticks more
abbrev pub with_more : List Task → ℕ → ℕ → List Task
with_more ts level x = with_run ts level ((task_at ts level).run + x)

-- x is the greatest number of ticks that the run of the level can grow by
pub record IsSlack (ts : List Task) (level x : ℕ) : Type 0 where
  pub fits : IsTimely (with_more ts level x)
  pub greatest : (y : ℕ) → IsTimely (with_more ts level y) → y ≤ x

-- the level has no response that meets the recurrence, and each before it has one
pub record IsFirstFailing (ts : List Task) (level : ℕ) : Type 0 where
  pub within : level < length ts
  pub fails : (r : ℕ) → ¬ Solves ts level r
  pub before : (other : ℕ) → other < level → (r : ℕ) × Solves ts other r

-- what a level of a timely set can spare, and the first level that fails with one tick more
pub record IsSpare (ts : List Task) (level : ℕ) (spare : Spare) : Type 0 where
  pub timely : IsTimely ts
  pub extra : IsSlack ts level spare.extra
  pub fails : IsFirstFailing (with_more ts level (spare.extra + 1)) spare.fails

-- the most evaluations of the demand that it takes to find the bound of a level
abbrev pub evaluations_at : List Task → ℕ → ℕ
evaluations_at ts level = 2 + starts_in (deadline_at ts level) (take (level + 1) ts)

-- and at each of the first n levels
abbrev pub evaluations : List Task → ℕ → ℕ
evaluations ts zero = 0
evaluations ts (suc n) = evaluations ts n + evaluations_at ts n

-- ---- what is found level by level

-- the level has a response within its deadline that meets the recurrence
abbrev pub Responds : List Task → ℕ → Type 0
Responds ts level = (r : ℕ) × Solves ts level r

-- with so many ticks more each level from this one on has a response; with one more some level has
-- none
pub record IsSpareFrom (ts : List Task) (level from : ℕ) (spare : Spare) : Type 0 where
  pub fits : (other : ℕ) → from ≤ other → other < length ts → Responds (with_more ts level spare.extra) other
  pub within : spare.fails < length ts
  pub fails : ¬ Responds (with_more ts level (spare.extra + 1)) spare.fails
