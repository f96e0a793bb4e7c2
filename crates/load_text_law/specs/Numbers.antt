-- The load and the numbers in its statements.
use Rattle.std.specs.Prelude.{◌≡◌, ◌⊎◌, ℕ}
use Rattle.syntax_tree.specs.declared.place.Place.{Place}
use Rattle.syntax_tree.specs.Placed.{Prog}
use Rattle.syntax_tree.specs.Bare.{bare}
use Rattle.static_types.specs.Rules.{StatementFails}
use Rattle.load.specs.Program.{load_program}

-- of the rules for statements none but those for types, for what may stand where, and for the
-- direction of devices
abbrev pub KeepsNumbers : Type 0
KeepsNumbers =
    (key count : ℕ) (g : Prog Place) → bare g ≡ load_program key count → (number : ℕ) (place : Place)
    → StatementFails g number place → (number ≡ 30) ⊎ ((number ≡ 34) ⊎ (number ≡ 38))
