-- Rules that are tests of the single parts of a program.
use Rattle.std.specs.Prelude.{◌≡◌, ℕ, ◌⊎◌, List, [], ◌∷◌, Option, Some, None}
use Rattle.syntax_tree.specs.declared.place.Place.{Place}
use Rattle.static_rule.specs.declared.violation.Violation.{Violation}
use Rattle.static_rule.specs.First.{sooner}

-- a rule by its number, and where it fails of a part, if it does
pub record Rule (X : Type 0) : Type 0 where
  pub number : ℕ
  pub fails : X → Option Place

-- the rule of that number fails of the part, at the place
abbrev pub FailsOf : {X : Type 0} → List (Rule X) → X → ℕ → Place → Type 0
FailsOf [] x number place = ⊥
FailsOf (r ∷ rs) x number place = ((r.number ≡ number) × (r.fails x ≡ Some place)) ⊎ FailsOf rs x number place

-- the rule of that number fails of one of the parts, at the place
abbrev pub FailsAmong : {X : Type 0} → List (Rule X) → List X → ℕ → Place → Type 0
FailsAmong rs [] number place = ⊥
FailsAmong rs (x ∷ xs) number place = FailsOf rs x number place ⊎ FailsAmong rs xs number place

-- the first failure that is known, once it is known whether the rule of that number fails
abbrev pub blame : Option Violation → ℕ → Option Place → Option Violation
blame first number None = first
blame first number (Some place) = sooner (Some (record { number = number; place = place })) first

-- once the rules are tried on a part
abbrev pub note : {X : Type 0} → List (Rule X) → Option Violation → X → Option Violation
note [] first x = first
note (r ∷ rs) first x = note rs (blame first r.number (r.fails x)) x

-- once the rules are tried on parts
abbrev pub noted : {X : Type 0} → List (Rule X) → Option Violation → List X → Option Violation
noted rs first [] = first
noted rs first (x ∷ xs) = noted rs (note rs first x) xs
