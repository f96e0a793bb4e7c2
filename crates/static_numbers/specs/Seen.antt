-- What contracts see of what the code keeps, and of its passes.
use Rattle.std.specs.Prelude.{◌≡◌, ℕ, ◌-◌, ◌^◌, min, List, Option, ℤ, unwrap_or}
use Rattle.std.specs.Ordering.{int_eq}
use Rattle.std.specs.List.{list_any}
use Rattle.std.specs.Map.{lookup}
use Rattle.syntax_tree.specs.Placed.{Constant, placed_constant}
use Rattle.syntax_tree.specs.declared.place.Place.{Place}
use Rattle.static_rule.specs.declared.violation.Violation.{Violation}
use Rattle.static_rule.specs.Parts.{Rule, noted}
use Rattle.static_names.specs.Findings.{Key, same_key, key_of}
use Rattle.static_declarations.specs.Values.{Worth}
use Rattle.static_numbers.specs.declared.bounds.Bounds as code_bounds
use Rattle.static_numbers.specs.Types.{Bounds}
use Rattle.static_numbers.specs.Processes.{has_value}

-- a state changes from one to the other where a part of the tree is visited, by what is found once
-- it has visited all that is left too
abbrev pub Visited : {S X Found : Type 0} → (found : S → List X → Found) → S → (List X → List X) → S → Type 0
Visited {X} found old part new = (more : List X) → found new more ≡ found old (part more)

-- the first failure changes from one to the other, where the rules are tried on a part of the tree
abbrev pub Tries : {X : Type 0} → List (Rule X) → Option Violation → (List X → List X) → Option Violation → Type 0
Tries rules = Visited (noted rules)

abbrev pub bounds_of : code_bounds.Bounds → Bounds
bounds_of b = record { of_array = b.of_array; low = placed_constant b.low.now; high = placed_constant b.high.now }

-- a sum that stays at the greatest number of 64 bits
abbrev pub held : ℕ → ℕ
held n = min n (2 ^ 64 - 1)

-- how many uses of an event the table knows
abbrev pub known_uses : List (Key × ℕ) → Place → ℕ
known_uses entries e = unwrap_or (lookup (same_key (key_of e)) entries) 0

-- the set has just the values of the numbers
abbrev pub HasValues : Worth → List ℤ → List (Constant Place) → Type 0
HasValues worth keys before = (v : ℤ) → list_any (int_eq v) keys ≡ has_value worth v before
