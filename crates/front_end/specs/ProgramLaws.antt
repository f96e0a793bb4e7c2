-- What holds of the programs and the faults of every text.
use Rattle.std.specs.Prelude.{◌≡◌, ℕ, List}
use Rattle.syntax_tree.specs.declared.place.Place.{Place}
use Rattle.syntax_tree.specs.Placed.{Prog}
use Rattle.front_end.specs.Source.{IsTreeOf}
use Rattle.front_end.specs.Program.{IsProgramOf, IsProgramFault}

-- a text has at most one tree
abbrev pub HasOneTree : Type 0
HasOneTree = (text : List ℕ) (g h : Prog Place) → IsTreeOf text g → IsTreeOf text h → g ≡ h

-- a text is that of at most one program
abbrev pub HasOneProgram : Type 0
HasOneProgram = (text : List ℕ) (g h : Prog Place) → IsProgramOf text g → IsProgramOf text h → g ≡ h

-- a program text has no fault
abbrev pub HasProgramOrFault : Type 0
HasProgramOrFault =
    (text : List ℕ) (g : Prog Place) (number : ℕ) (place : Place)
    → IsProgramOf text g → IsProgramFault text number place → ⊥
