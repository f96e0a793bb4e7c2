-- Rules that fail at places, and the first of them.
use Rattle.std.specs.Prelude.{◌≡◌, ℕ, ◌<◌, Bool, ◌&&◌, ◌||◌, ◌⊎◌, Option, Some, None, if◌then◌else◌, nat_eq, nat_lt}
use Rattle.syntax_tree.specs.declared.place.Place.{Place}
use Rattle.static_rule.specs.declared.violation.Violation.{Violation}

-- which rule, by its number, fails at which place
abbrev pub Failures : Type 1
Failures = ℕ → Place → Type 0

-- the place comes first in the text, or the places are one and the number is less
abbrev pub Before : ℕ → Place → ℕ → Place → Type 0
Before m p n q = (p.line < q.line) ⊎ (((p.line ≡ q.line) × (p.col < q.col)) ⊎ ((p ≡ q) × (m < n)))

-- the rule fails there, and none before it
pub record IsFirst (fails : ℕ → Place → Type 0) (b : Violation) : Type 0 where
  pub broken : fails b.number b.place
  pub none_before : (m : ℕ) (p : Place) → fails m p → ¬ Before m p b.number b.place

-- it is the first failure, if there is any
abbrev pub IsFirstOf : (ℕ → Place → Type 0) → Option Violation → Type 0
IsFirstOf fails None = (m : ℕ) (p : Place) → ¬ fails m p
IsFirstOf fails (Some b) = IsFirst fails b

-- one rule or the other fails there
abbrev pub Either : (ℕ → Place → Type 0) → (ℕ → Place → Type 0) → ℕ → Place → Type 0
Either one other number place = one number place ⊎ other number place

-- by line, then column, then number
abbrev pub comes_before : Violation → Violation → Bool
comes_before x y = nat_lt x.place.line y.place.line || (nat_eq x.place.line y.place.line && (nat_lt x.place.col y.place.col || (nat_eq x.place.col y.place.col && nat_lt x.number y.number)))

-- the one of two failures that comes first, if there is any
abbrev pub sooner : Option Violation → Option Violation → Option Violation
sooner None y = y
sooner (Some b) None = Some b
sooner (Some b) (Some c) = if comes_before b c then Some b else Some c
