-- A run under earliest deadline first with ceilings, in facts of one tick each, but for the frames;
-- and what it promises.
use Rattle.std.specs.Prelude.{◌≡◌, ◌≤◌, ◌<◌, ◌+◌, ℕ, suc, Bool, true, List, length, Option, Some, None}
use Rattle.sched_demand.specs.declared.tasks.DemandTask.{DemandTask}
use Rattle.sched_demand.specs.Demand.{task_at}
use Rattle.sched_theorem.specs.Stretches.{Spaced}
use Rattle.sched_theorem.specs.Dispatched.{Stay, KeepsStays}
use Rattle.sched_demand.specs.Activations.{Activation, Starts, Moves, Chooses}

-- the activations by tick and place, before the start events of the tick and after them; the
-- releases; who is chosen in each tick; and who is inside a monitor before it
pub record Run : Type 0 where
  pub before : ℕ → ℕ → Activation
  pub after : ℕ → ℕ → Activation
  pub released : ℕ → ℕ → Bool
  pub picked : ℕ → Option ℕ
  pub inside : ℕ → ℕ → Option Stay

-- the deadline of the process of a place, from its release on
abbrev pub deadline_at : List DemandTask → (ℕ → ℕ) → ℕ → ℕ
deadline_at ts rank p = (task_at ts (rank p)).deadline

-- the stay of a process with a later deadline, in a monitor whose ceiling is the level's or a
-- higher rank, is no longer than the level's block
abbrev pub AreShort : List DemandTask → (ℕ → ℕ) → (ℕ → Option Stay) → Type 0
AreShort ts rank inside = (level p : ℕ) (s : Stay) → level < length ts → p < length ts → inside p ≡ Some s → (task_at ts level).deadline < (task_at ts (rank p)).deadline → s.ceiling ≤ level → s.left ≤ (task_at ts level).block

-- a run by places, while the tasks stand in the order of ranks
pub record IsEarliest (ts : List DemandTask) (rank : ℕ → ℕ) (end : ℕ) (r : Run) : Type 0 where
  -- at first all are idle, and nobody is inside a monitor
  pub idle_first : (p : ℕ) → p < length ts → (r.before 0 p).left ≡ 0
  pub free_first : (p : ℕ) → p < length ts → r.inside 0 p ≡ None
  -- the start events of a tick
  pub opens : (k p : ℕ) → k < end → p < length ts → Starts k (r.released k p) (task_at ts (rank p)).cost (r.before k p) (r.after k p)
  -- the rest of it
  pub acts : (k : ℕ) → k < end → Moves (length ts) (r.picked k) (r.after k) (r.before (suc k))
  -- two releases of a process stand at least its frame apart
  pub spaced : (p : ℕ) → p < length ts → Spaced (task_at ts (rank p)).frame end (λ k. r.released k p)
  -- the choice
  pub chooses : (k : ℕ) → k < end → Chooses (length ts) rank (deadline_at ts rank) (r.inside k) (r.after k) (r.picked k)
  -- only who runs enters and leaves, and its stay falls
  pub keeps : (k : ℕ) → k < end → KeepsStays (length ts) (r.picked k) (r.inside k) (r.inside (suc k))
  -- who is inside a monitor has an activation
  pub active : (k p : ℕ) (s : Stay) → k ≤ end → p < length ts → r.inside k p ≡ Some s → 1 ≤ (r.before k p).left
  -- stays are within the blocks
  pub short : (k : ℕ) → k ≤ end → AreShort ts rank (r.inside k)

-- the activation of a place that is released at a tick goes on until it ends, within so many ticks,
-- the tick of the release counted
pub record EndsWithin (r : Run) (p release bound : ℕ) : Type 0 where
  pub tick : ℕ
  pub since : release ≤ tick
  pub soon : tick < release + bound
  pub active : 1 ≤ (r.after tick p).left
  pub idle : (r.before (suc tick) p).left ≡ 0
  pub goes_on : (k : ℕ) → release < k → k ≤ tick → 1 ≤ (r.before k p).left

-- each release finds its process idle, and each activation ends by its deadline, where that is
-- within the run
pub record MeetsDeadlines (ts : List DemandTask) (rank : ℕ → ℕ) (end : ℕ) (r : Run) : Type 0 where
  pub idle : (k p : ℕ) → p < length ts → k < end → r.released k p ≡ true → (r.before k p).left ≡ 0
  pub ends : (k p : ℕ) → p < length ts → k + deadline_at ts rank p ≤ end → r.released k p ≡ true → EndsWithin r p k (deadline_at ts rank p)
