-- A text has at most one fault.
use Rattle.std.specs.Prelude.{◌≡◌, ℕ, List}
use Rattle.syntax_tree.specs.declared.place.Place.{Place}
use Rattle.front_end.specs.Program.{IsProgramFault}

-- two faults of a text have one number and one place
abbrev pub HasOneFault : Type 0
HasOneFault =
    (text : List ℕ) (number other : ℕ) (place there : Place)
    → IsProgramFault text number place → IsProgramFault text other there
    → (number ≡ other) × (place ≡ there)
