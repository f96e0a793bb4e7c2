-- Something is found exactly where one of the two rules fails.
use Rattle.std.specs.Prelude.{◌≡◌, ℕ, true, ◌⊎◌, ◌↔◌, Some, None, is_some, if◌then◌else◌}
use Rattle.syntax_tree.specs.Placed.{Prog}
use Rattle.syntax_tree.specs.declared.place.Place.{Place}
use Rattle.static_declarations.specs.Parts.{Part}
use Rattle.static_types.specs.Sorts.{Named}
use Rattle.static_types.specs.Conduct.{misplaced, misdirected}
use Rattle.static_types.specs.Rules.{StatementFails}
use Rattle.message_conduct.specs.Faults.{conduct_fault, direction_fault}
use Rattle.message_conduct.specs.Conduct.{part_place, conduct_sentence}

-- a part stands where it may not exactly where something is found of that
abbrev pub FindsMisplaced : Type 0
FindsMisplaced = (named : Named) (x : Part) → misplaced named x ≡ (if is_some (conduct_fault named x) then Some (part_place x) else None)

-- a device has the other direction exactly where something is found of that
abbrev pub FindsMisdirected : Type 0
FindsMisdirected = (named : Named) (x : Part) → misdirected named x ≡ (if is_some (direction_fault named x) then Some (part_place x) else None)

-- one of the two rules fails at a place of a program exactly where there is a sentence for it
abbrev pub TellsEach : Type 0
TellsEach = (g : Prog Place) (number : ℕ) (place : Place) → ((number ≡ 34) ⊎ (number ≡ 38)) → (StatementFails g number place ↔ (is_some (conduct_sentence g number place) ≡ true))
