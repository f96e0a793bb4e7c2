-- A run of processes in the order of their ranks, in which each busy tick of each level has a
-- charge.
use Rattle.std.specs.Prelude.{◌≡◌, ◌≤◌, ◌<◌, ◌+◌, ℕ, suc, List, length}
use Rattle.sched_response.specs.declared.tasks.Task.{Task}
use Rattle.sched_response.specs.Demand.{task_at}
use Rattle.sched_theorem.specs.Charges.{ChargedCost}
use Rattle.sched_theorem.specs.Stretches.{Trace, IsRun, AreCharged, Spaced}

-- the most that one activation of a rank takes
abbrev pub cost_at : List Task → ℕ → ChargedCost
cost_at ts j = record { run = (task_at ts j).run; susp = (task_at ts j).susp; waits = (task_at ts j).waits }

-- at first all are idle, releases stand a frame apart, and at each level each busy tick has a
-- charge; `stay level k` is what is left before tick k of the stay that holds up the level
pub record IsRanked (ts : List Task) (end : ℕ) (t : Trace) (stay : ℕ → ℕ → ℕ) : Type 0 where
  pub idle_first : (j : ℕ) → j < length ts → (t.before 0 j).run_left ≡ 0
  pub run : IsRun (length ts) (cost_at ts) end t
  pub spaced : (j : ℕ) → j < length ts → Spaced (task_at ts j).frame end (λ k. t.released k j)
  pub charged : (level : ℕ) → level < length ts → AreCharged (suc level) (task_at ts level).block end t (stay level)

-- the activation of a process ends in the tick
pub record EndsAt (t : Trace) (j tick : ℕ) : Type 0 where
  pub active : 1 ≤ (t.after tick j).run_left
  pub idle : (t.before (suc tick) j).run_left ≡ 0

-- the activation that is released at a tick goes on until it ends, within so many ticks, the tick
-- of the release counted
pub record EndsWithin (t : Trace) (j release bound : ℕ) : Type 0 where
  pub tick : ℕ
  pub since : release ≤ tick
  pub soon : tick < release + bound
  pub ends : EndsAt t j tick
  pub goes_on : (k : ℕ) → release < k → k ≤ tick → 1 ≤ (t.before k j).run_left
