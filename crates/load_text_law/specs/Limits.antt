-- The load and the rules for declarations.
use Rattle.std.specs.Prelude.{◌≡◌, ◌≤◌, ℕ}
use Rattle.syntax_tree.specs.declared.place.Place.{Place}
use Rattle.syntax_tree.specs.Placed.{Prog}
use Rattle.syntax_tree.specs.Bare.{bare}
use Rattle.static_numbers.specs.Rules.{LimitFails}
use Rattle.load.specs.Program.{load_program}

abbrev pub KeepsLimits : Type 0
KeepsLimits =
    (key count : ℕ) → 1 ≤ count → count ≤ 64 → (g : Prog Place) → bare g ≡ load_program key count
    → (number : ℕ) (place : Place) → ¬ LimitFails g number place
