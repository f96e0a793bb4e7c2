-- A run under earliest deadline first, seen by tick and process. Each process has a place; ranks
-- are numbers by place, the least is the highest.
use Rattle.std.specs.Prelude.{◌≡◌, ◌≤◌, ◌<◌, ◌+◌, ◌⊎◌, ℕ, Bool, true, false, Option, Some, None}
use Rattle.sched_theorem.specs.Dispatched.{Stay}

-- what is left of an activation in ticks of execution (0 exactly in an idle process), the tick of
-- its release, and how many ticks it has had
pub record Activation : Type 0 where
  pub left : ℕ
  pub release : ℕ
  pub had : ℕ

-- a number of a process is before another's: its deadline is sooner, or the same and its rank is a
-- higher one
abbrev pub IsSooner : (deadline rank other_deadline other_rank : ℕ) → Type 0
IsSooner d r e s = (d < e) ⊎ ((d ≡ e) × (r < s))

-- the process of place p is before that of place q in the order of earliest deadlines
abbrev pub IsBefore : (rank deadline : ℕ → ℕ) → (ℕ → Activation) → ℕ → ℕ → Type 0
IsBefore rank deadline a p q = IsSooner ((a p).release + deadline p) (rank p) ((a q).release + deadline q) (rank q)

-- the process has an activation that has had a tick
pub record IsBegun (a : Activation) : Type 0 where
  pub active : 1 ≤ a.left
  pub had : 1 ≤ a.had

-- the process of place p is the first of those that have an activation, or of those whose
-- activation has had a tick
abbrev pub IsFirst : ℕ → (rank deadline : ℕ → ℕ) → (ℕ → Activation) → ℕ → Type 0
IsFirst n rank deadline a p = (q : ℕ) → q < n → (p ≡ q → ⊥) → 1 ≤ (a q).left → IsBefore rank deadline a p q

abbrev pub IsFirstBegun : ℕ → (rank deadline : ℕ → ℕ) → (ℕ → Activation) → ℕ → Type 0
IsFirstBegun n rank deadline a p = (q : ℕ) → q < n → (p ≡ q → ⊥) → IsBegun (a q) → IsBefore rank deadline a p q

-- a process of the rank is above the ceilings of all monitors that somebody is inside
abbrev pub IsAbove : ℕ → (ℕ → Option Stay) → ℕ → Type 0
IsAbove n inside rank = (q : ℕ) (s : Stay) → q < n → inside q ≡ Some s → rank < s.ceiling

-- the process of place p has an activation, has not begun it, and a ceiling holds it back
pub record IsHeldBack (n : ℕ) (rank : ℕ → ℕ) (inside : ℕ → Option Stay) (a : ℕ → Activation) (p : ℕ) : Type 0 where
  pub of_these : p < n
  pub active : 1 ≤ (a p).left
  pub not_begun : (a p).had ≡ 0
  pub holder : ℕ
  pub holder_of_these : holder < n
  pub stay : Stay
  pub is_inside : inside holder ≡ Some stay
  pub ceiling : stay.ceiling ≤ rank p

-- the first is held back, and p is the first of those that have begun
pub record IsSecond (n : ℕ) (rank deadline : ℕ → ℕ) (inside : ℕ → Option Stay) (a : ℕ → Activation) (p : ℕ) : Type 0 where
  pub begun : 1 ≤ (a p).had
  pub first_begun : IsFirstBegun n rank deadline a p
  pub front : ℕ
  pub is_first : IsFirst n rank deadline a front
  pub held_back : IsHeldBack n rank inside a front

-- the first, which has begun or is above the ceilings
pub record IsTaken (n : ℕ) (rank deadline : ℕ → ℕ) (inside : ℕ → Option Stay) (a : ℕ → Activation) (p : ℕ) : Type 0 where
  pub first : IsFirst n rank deadline a p
  pub may_go : (1 ≤ (a p).had) ⊎ IsAbove n inside (rank p)

-- the choice: the first, unless it has not begun and a ceiling holds it back; then the first of
-- those that have begun
pub record IsChosen (n : ℕ) (rank deadline : ℕ → ℕ) (inside : ℕ → Option Stay) (a : ℕ → Activation) (p : ℕ) : Type 0 where
  pub of_these : p < n
  pub active : 1 ≤ (a p).left
  pub choice : IsTaken n rank deadline inside a p ⊎ IsSecond n rank deadline inside a p

-- nobody is chosen only where nobody has an activation
abbrev pub Chooses : ℕ → (rank deadline : ℕ → ℕ) → (ℕ → Option Stay) → (ℕ → Activation) → Option ℕ → Type 0
Chooses n rank deadline inside a None = (q : ℕ) → q < n → 1 ≤ (a q).left → ⊥
Chooses n rank deadline inside a (Some p) = IsChosen n rank deadline inside a p

-- the start events of a tick, for a process that is a before them and b after them: a release
-- begins an activation of at most the cost in an idle process, and changes nothing in any other
pub record Starts (tick : ℕ) (released : Bool) (cost : ℕ) (a b : Activation) : Type 0 where
  pub keeps : 1 ≤ a.left → b ≡ a
  pub rests : a.left ≡ 0 → released ≡ false → b.left ≡ 0
  pub starts : a.left ≡ 0 → released ≡ true → 1 ≤ b.left
  pub costs : a.left ≡ 0 → released ≡ true → b.left ≤ cost
  pub since : a.left ≡ 0 → released ≡ true → b.release ≡ tick
  pub fresh : a.left ≡ 0 → released ≡ true → b.had ≡ 0

-- the rest of a tick, for the process that is chosen: it has a tick less left
pub record Runs (a b : Activation) : Type 0 where
  pub falls : b.left + 1 ≤ a.left
  pub same : 1 ≤ b.left → b.release ≡ a.release
  pub begins : 1 ≤ b.left → 1 ≤ b.had

-- the rest of a tick: who is chosen runs, and all others are as they were
pub record Moves (n : ℕ) (picked : Option ℕ) (a b : ℕ → Activation) : Type 0 where
  pub runs : (p : ℕ) → p < n → picked ≡ Some p → Runs (a p) (b p)
  pub others : (q : ℕ) → q < n → (picked ≡ Some q → ⊥) → b q ≡ a q

-- what the stack needs of that: the activation that runs is the same one, and has begun
pub record Continues (a b : Activation) : Type 0 where
  pub same : 1 ≤ b.left → b.release ≡ a.release
  pub begins : 1 ≤ b.left → 1 ≤ b.had

pub record Passes (n : ℕ) (picked : Option ℕ) (a b : ℕ → Activation) : Type 0 where
  pub runs : (p : ℕ) → p < n → picked ≡ Some p → Continues (a p) (b p)
  pub others : (q : ℕ) → q < n → (picked ≡ Some q → ⊥) → b q ≡ a q

-- who runs and is inside a monitor after the tick was outside before it, or inside one of the same
-- ceiling; nobody else's place changes
pub record KeepsCeilings (n : ℕ) (picked : Option ℕ) (inside inside_after : ℕ → Option Stay) : Type 0 where
  pub was : (p : ℕ) (s : Stay) → p < n → picked ≡ Some p → inside_after p ≡ Some s → (inside p ≡ None) ⊎ ((t : Stay) × (inside p ≡ Some t) × (t.ceiling ≡ s.ceiling))
  pub others : (q : ℕ) → q < n → (picked ≡ Some q → ⊥) → inside_after q ≡ inside q
