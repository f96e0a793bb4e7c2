-- A run under immediate priority ceilings whose processes stand in any order of places, each with
-- its rank: the boundary between a machine and the timing argument.
use Rattle.std.specs.Prelude.{◌≡◌, ◌≤◌, ◌<◌, ◌+◌, ◌⊎◌, ℕ, suc, true, List, length, Option, Some, None}
use Rattle.sched_response.specs.declared.tasks.Task.{Task}
use Rattle.sched_theorem.specs.Stretches.{Life, Trace, IsLife, Opens, Acts, Spaced, IsStretch}
use Rattle.sched_response.specs.Demand.{task_at, deadline_at}
use Rattle.sched_theorem.specs.Ranked.{cost_at, EndsWithin}
use Rattle.sched_theorem.specs.Dispatched.{Stay, Dispatch, IsReady, active_rank, KeepsStays}

-- each of n places has one rank, and each rank one place
pub record AreRanks (n : ℕ) (rank place : ℕ → ℕ) : Type 0 where
  pub rank_below : (p : ℕ) → p < n → rank p < n
  pub place_below : (j : ℕ) → j < n → place j < n
  pub there : (j : ℕ) → j < n → rank (place j) ≡ j
  pub back : (p : ℕ) → p < n → place (rank p) ≡ p

-- the process of place p is of least active rank, as a number, among those that are ready, and runs
-- for the tick: a is before it, b after it
pub record RunsLeastAt (n : ℕ) (rank : ℕ → ℕ) (inside : ℕ → Option Stay) (a b : ℕ → Life) (p : ℕ) : Type 0 where
  pub of_these : p < n
  pub least : (q : ℕ) → q < n → IsReady (a q) → active_rank (rank p) (inside p) ≤ active_rank (rank q) (inside q)
  pub falls : (b p).run_left + 1 ≤ (a p).run_left

-- one of least active rank runs, and nobody only where nobody is ready
abbrev pub PicksAt : ℕ → (ℕ → ℕ) → (ℕ → Option Stay) → (ℕ → Life) → (ℕ → Life) → Option ℕ → Type 0
PicksAt n rank inside a b None = (q : ℕ) → q < n → IsReady (a q) → ⊥
PicksAt n rank inside a b (Some p) = RunsLeastAt n rank inside a b p

-- who may be inside monitors before a tick
pub record AreStaysAt (ts : List Task) (rank : ℕ → ℕ) (inside : ℕ → Option Stay) : Type 0 where
  -- no ceiling is, as a number, above the rank of who is inside
  pub above : (p : ℕ) (s : Stay) → p < length ts → inside p ≡ Some s → s.ceiling ≤ rank p
  -- of two processes inside monitors, one has a rank that is, as a number, below the ceiling of the
  -- other's monitor
  pub apart : (p q : ℕ) (s t : Stay) → p < length ts → q < length ts → (p ≡ q → ⊥) → inside p ≡ Some s → inside q ≡ Some t → (rank p < t.ceiling) ⊎ (rank q < s.ceiling)
  -- the stay of a process below a level, in a monitor whose ceiling is the level's or a higher
  -- rank, is no longer than the level's block
  pub short : (level p : ℕ) (s : Stay) → level < rank p → p < length ts → inside p ≡ Some s → s.ceiling ≤ level → s.left ≤ (task_at ts level).block

-- a run by places, while the tasks stand in the order of ranks, in facts of one tick each, but for
-- the frames
pub record IsPlaced (ts : List Task) (rank : ℕ → ℕ) (end : ℕ) (t : Trace) (d : Dispatch) : Type 0 where
  -- at first all are idle
  pub idle_first : (p : ℕ) → p < length ts → (t.before 0 p).run_left ≡ 0
  -- an idle process has nothing left
  pub whole : (k p : ℕ) → k ≤ end → p < length ts → IsLife (t.before k p)
  -- the start events of a tick: a release gives at most the cost of an activation, and nobody ends
  pub opens : (k p : ℕ) → k < end → p < length ts → Opens (t.released k p) (cost_at ts (rank p)) (t.before k p) (t.after k p)
  -- the rest of a tick: who waits has a tick of suspension fewer after it, and who begins to wait a
  -- wait fewer
  pub acts : (k p : ℕ) → k < end → p < length ts → Acts (t.after k p) (t.before (suc k) p)
  -- two releases of a process stand at least its frame apart
  pub spaced : (p : ℕ) → p < length ts → Spaced (task_at ts (rank p)).frame end (λ k. t.released k p)
  -- one of least active rank runs
  pub picks : (k : ℕ) → k < end → PicksAt (length ts) rank (d.inside k) (t.after k) (t.before (suc k)) (d.picked k)
  -- only who runs enters and leaves, and its stay falls
  pub keeps : (k : ℕ) → k < end → KeepsStays (length ts) (d.picked k) (d.inside k) (d.inside (suc k))
  -- ceilings keep those inside apart, and stays are within the blocks
  pub stays : (k : ℕ) → k ≤ end → AreStaysAt ts rank (d.inside k)

-- the same run by ranks
abbrev pub by_rank : (ℕ → ℕ) → Trace → Trace
by_rank place t = record { before = λ k j. t.before k (place j); after = λ k j. t.after k (place j); released = λ k j. t.released k (place j) }

-- a run by places is in time, as far as it goes
pub record IsInTimeAt (ts : List Task) (rank place bounds : ℕ → ℕ) (end : ℕ) (t : Trace) : Type 0 where
  -- no stretch of a level is longer than its bound
  pub stretches : (level start ticks : ℕ) → level < length ts → IsStretch (suc level) (by_rank place t) start ticks → start + ticks ≤ end → ticks ≤ bounds level
  -- each release finds its process idle
  pub idle : (k p : ℕ) → p < length ts → k < end → t.released k p ≡ true → (t.before k p).run_left ≡ 0
  -- each activation ends within the bound of its rank, where the bound is within the run
  pub ends : (k p : ℕ) → p < length ts → k + bounds (rank p) ≤ end → t.released k p ≡ true → EndsWithin t p k (bounds (rank p))

-- each activation ends within its deadline, where the bound of its rank is within the run
abbrev pub MeetsDeadlinesAt : List Task → (rank bounds : ℕ → ℕ) → ℕ → Trace → Type 0
MeetsDeadlinesAt ts rank bounds end t = (k p : ℕ) → p < length ts → k + bounds (rank p) ≤ end → t.released k p ≡ true → EndsWithin t p k (deadline_at ts (rank p))
