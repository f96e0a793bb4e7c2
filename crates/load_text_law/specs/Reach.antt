-- The load and the rules for what is reached by calls.
use Rattle.std.specs.Prelude.{◌≡◌, ℕ}
use Rattle.syntax_tree.specs.declared.place.Place.{Place}
use Rattle.syntax_tree.specs.Placed.{Prog}
use Rattle.syntax_tree.specs.Bare.{bare}
use Rattle.static_calls.specs.Reaching.{ReachFails}
use Rattle.load.specs.Program.{load_program}

abbrev pub KeepsReach : Type 0
KeepsReach =
    (key count : ℕ) (g : Prog Place) → bare g ≡ load_program key count
    → (number : ℕ) (place : Place) → ¬ ReachFails g number place
