-- A program with a monitor's word, and its image.
use Rattle.source_semantics_law.specs.Example.{three_ranks}
use Rattle.machine_safety.specs.SmallImages.{adders, low_ceiling}
use Rattle.code_lifting.specs.Related.{Whole}
use Rattle.code_lifting.specs.Image.{IsImageOf, AreRight, whole}

-- three processes; two of them add to a monitor's word
abbrev pub adding : Whole
adding = whole adders three_ranks

abbrev pub AddingIsImage : Type 0
AddingIsImage = IsImageOf adding

abbrev pub AddingIsRight : Type 0
AddingIsRight = AreRight adding

-- the same code with another ceiling is no image of the program
abbrev pub LowCeilingIsNone : Type 0
LowCeilingIsNone = IsImageOf (whole low_ceiling three_ranks) → ⊥
