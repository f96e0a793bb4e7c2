-- A run as a dispatcher with immediate priority ceilings makes it: who is picked, and who is inside
-- a monitor. The processes stand in the order of their ranks.
use Rattle.std.specs.Prelude.{◌≡◌, ◌≤◌, ◌<◌, ◌+◌, ◌⊎◌, ℕ, suc, List, length, Option, Some, None}
use Rattle.sched_response.specs.declared.tasks.Task.{Task}
use Rattle.sched_theorem.specs.Stretches.{Life, Trace, IsRun, Spaced}
use Rattle.sched_response.specs.Demand.{task_at}
use Rattle.sched_theorem.specs.Ranked.{cost_at}

-- a stay in a monitor: the monitor's ceiling, which is a rank, and the ticks left of the stay
pub record Stay : Type 0 where
  pub ceiling : ℕ
  pub left : ℕ

-- who is picked in each tick to run, and by tick and process who is inside a monitor before the
-- tick
pub record Dispatch : Type 0 where
  pub picked : ℕ → Option ℕ
  pub inside : ℕ → ℕ → Option Stay

-- ready: active, and not waiting
pub record IsReady (a : Life) : Type 0 where
  pub active : 1 ≤ a.run_left
  pub free : a.waiting ≡ 0

-- the active rank of a process: the ceiling of the monitor that it is inside, else its rank j
abbrev pub active_rank : ℕ → Option Stay → ℕ
active_rank j None = j
active_rank j (Some s) = s.ceiling

-- a process of least active rank, as a number, among those that are ready runs for the tick: a is
-- before it, b after it
pub record RunsLeast (n : ℕ) (inside : ℕ → Option Stay) (a b : ℕ → Life) (p : ℕ) : Type 0 where
  pub of_these : p < n
  pub least : (q : ℕ) → q < n → IsReady (a q) → active_rank p (inside p) ≤ active_rank q (inside q)
  pub falls : (b p).run_left + 1 ≤ (a p).run_left

-- one of least active rank runs, and nobody only where nobody is ready
abbrev pub PicksOf : ℕ → (ℕ → Option Stay) → (ℕ → Life) → (ℕ → Life) → Option ℕ → Type 0
PicksOf n inside a b None = (q : ℕ) → q < n → IsReady (a q) → ⊥
PicksOf n inside a b (Some p) = RunsLeast n inside a b p

-- what a tick of who runs does to its own stay: inside a monitor it takes one from what is left, or
-- ends the stay; outside it may enter any
abbrev pub TakesOne : Option Stay → Option Stay → Type 0
TakesOne None t = Unit {0}
TakesOne (Some s) None = 1 ≤ s.left
TakesOne (Some s) (Some t) = (t.ceiling ≡ s.ceiling) × (t.left + 1 ≤ s.left)

-- who runs takes from its own stay, and nobody else's changes
pub record KeepsStays (n : ℕ) (picked : Option ℕ) (inside inside_after : ℕ → Option Stay) : Type 0 where
  pub takes : (p : ℕ) → p < n → picked ≡ Some p → TakesOne (inside p) (inside_after p)
  pub others : (q : ℕ) → q < n → (picked ≡ Some q → ⊥) → inside_after q ≡ inside q

-- of two processes inside monitors, one has a rank that is, as a number, below the ceiling of the
-- other's monitor
abbrev pub AreApart : ℕ → (ℕ → Option Stay) → Type 0
AreApart n inside = (p q : ℕ) (s t : Stay) → p < q → q < n → inside p ≡ Some s → inside q ≡ Some t → (p < t.ceiling) ⊎ (q < s.ceiling)

-- where p is outside monitors, its rank is above each ceiling of those inside: so it is where, of
-- two of one active rank, the one inside is picked
abbrev pub RunsAbove : ℕ → (ℕ → Option Stay) → ℕ → Type 0
RunsAbove n inside p = inside p ≡ None → (q : ℕ) (s : Stay) → q < n → inside q ≡ Some s → p < s.ceiling

-- who may be inside monitors before a tick
pub record AreStays (ts : List Task) (inside : ℕ → Option Stay) : Type 0 where
  -- no ceiling is, as a number, above the rank of who is inside
  pub above : (j : ℕ) (s : Stay) → j < length ts → inside j ≡ Some s → s.ceiling ≤ j
  pub apart : AreApart (length ts) inside
  -- the stay of a process below a level, in a monitor whose ceiling is the level's or a higher
  -- rank, is no longer than the level's block
  pub short : (level j : ℕ) (s : Stay) → level < j → j < length ts → inside j ≡ Some s → s.ceiling ≤ level → s.left ≤ (task_at ts level).block

-- a run under immediate priority ceilings, in facts of one tick each, but for the frames
pub record IsDispatched (ts : List Task) (end : ℕ) (t : Trace) (d : Dispatch) : Type 0 where
  -- at first all are idle
  pub idle_first : (j : ℕ) → j < length ts → (t.before 0 j).run_left ≡ 0
  -- no activation takes more than its cost
  pub run : IsRun (length ts) (cost_at ts) end t
  -- two releases of a process stand at least its frame apart
  pub spaced : (j : ℕ) → j < length ts → Spaced (task_at ts j).frame end (λ k. t.released k j)
  -- one of least active rank runs
  pub picks : (k : ℕ) → k < end → PicksOf (length ts) (d.inside k) (t.after k) (t.before (suc k)) (d.picked k)
  -- only who runs enters and leaves, and its stay falls
  pub keeps : (k : ℕ) → k < end → KeepsStays (length ts) (d.picked k) (d.inside k) (d.inside (suc k))
  -- ceilings keep those inside apart, and stays are within the blocks
  pub stays : (k : ℕ) → k ≤ end → AreStays ts (d.inside k)
