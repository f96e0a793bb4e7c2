-- What the texts of the load come to.
use Rattle.std.specs.Prelude.{◌≡◌, ◌≤◌, ◌+◌, ◌*◌, ◌/◌, ℕ, List, length}
use Rattle.syntax_tree.specs.declared.place.Place.{Place}
use Rattle.image.specs.Named.{NamedImage}
use Rattle.script.specs.Scripts.{IsScript}
use Rattle.command_due.specs.Source.{IsTextFault, Style, IsTimelyText, IsLateText}
use Rattle.load.specs.Program.{program_text}
use Rattle.load.specs.Script.{load_end, script_text}
use Rattle.load_text_law.specs.Lines.{load_lines}

-- the text of the program has no fault
abbrev pub IsFaultless : Type 0
IsFaultless =
    (key count : ℕ) → 1 ≤ count → count ≤ 64 → (number : ℕ) (place : Place) → ¬ IsTextFault (program_text key count) number place

-- nor is its program late
abbrev pub IsNeverLate : Type 0
IsNeverLate =
    (key count : ℕ) → 1 ≤ count → count ≤ 64 → (show : Style) (report : List ℕ) → ¬ IsLateText show 0 (program_text key count) report

-- the text of the script is one for the names of the image, with the lines that were drawn
abbrev pub HasScript : Type 0
HasScript =
    (key count : ℕ) → 1 ≤ count → count ≤ 64 → (n : NamedImage) → IsTimelyText 0 (program_text key count) n
    → IsScript n.names (script_text key count) (load_lines 0 key count) (load_end count)

-- the image has so many instructions
abbrev pub HasInstructions : Type 0
HasInstructions =
    (key count : ℕ) → 1 ≤ count → count ≤ 64 → (n : NamedImage) → IsTimelyText 0 (program_text key count) n
    → length n.image.code ≡ 11 + 24 * count + count / 2
