-- What the choice keeps from tick to tick: those that have begun stand in a stack, of which the top
-- runs.
use Rattle.std.specs.Prelude.{◌≡◌, ◌≤◌, ◌<◌, ◌⊎◌, ℕ, Option, Some}
use Rattle.sched_theorem.specs.Dispatched.{Stay}
use Rattle.sched_demand.specs.Activations.{Activation, IsBefore, IsBegun}

-- of two that are there, the one before the other was released later where the other has begun, and
-- is above its ceiling where it is inside a monitor
pub record AreStacked (n : ℕ) (rank deadline : ℕ → ℕ) (now : ℕ) (a : ℕ → Activation) (inside : ℕ → Option Stay) : Type 0 where
  -- each was released before this tick
  pub past : (p : ℕ) → p < n → 1 ≤ (a p).left → (a p).release < now
  -- who is inside a monitor has begun
  pub begun : (q : ℕ) (s : Stay) → q < n → inside q ≡ Some s → IsBegun (a q)
  -- who is before one that has begun was released later
  pub later : (p q : ℕ) → p < n → q < n → 1 ≤ (a p).left → IsBegun (a q) → IsBefore rank deadline a p q → (a q).release < (a p).release
  -- who has begun, and is before one that is inside a monitor, is above its ceiling
  pub above : (p q : ℕ) (s : Stay) → p < n → q < n → IsBegun (a p) → inside q ≡ Some s → IsBefore rank deadline a p q → rank p < s.ceiling

-- each of n places has a rank of its own
abbrev pub AreDistinct : ℕ → (ℕ → ℕ) → Type 0
AreDistinct n rank = (p q : ℕ) → p < n → q < n → rank p ≡ rank q → p ≡ q

-- of two processes inside monitors, one has a rank that is, as a number, below the ceiling of the
-- other's monitor
abbrev pub AreApart : ℕ → (ℕ → ℕ) → (ℕ → Option Stay) → Type 0
AreApart n rank inside = (p q : ℕ) (s t : Stay) → p < n → q < n → (p ≡ q → ⊥) → inside p ≡ Some s → inside q ≡ Some t → (rank p < t.ceiling) ⊎ (rank q < s.ceiling)
