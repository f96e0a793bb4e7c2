-- The law of the generator: what it makes of a well-formed program that is not too large is the
-- code of the program.
use Rattle.std.specs.Prelude.{◌≡◌, ◌≤◌, length}
use Rattle.syntax_tree.specs.Plain.{Program}
use Rattle.machine_semantics.specs.Image as image
use Rattle.code_spec.specs.Compiled.{IsCodeOf}
use Rattle.code_cost_spec.specs.Levels.{code_length}
use Rattle.static_semantics.specs.WellFormed.{IsWellFormed}
use Rattle.codegen_law.specs.Ruled.{NamesApart}
use Rattle.codegen_spec.specs.Parts.{program_made}
use Rattle.codegen_spec.specs.Held.{Holds}
use Rattle.codegen_law.specs.Fitting.{FramesFit}

-- what the static rules give of a program, and that it is not too large
pub record IsSmall (g : Program) : Type 0 where
  pub form : IsWellFormed g
  pub names : NamesApart g
  pub frames : FramesFit g
  pub code : code_length g ≤ 65535

-- The law: an image that holds what is made of it is its code.
abbrev pub GeneratedIsCode : Type 0
GeneratedIsCode = (g : Program) (m : image.Image) → IsSmall g → Holds g (program_made g) m
    → IsCodeOf g m

-- The law: what is made has as many instructions as the text says, however many they are.
abbrev pub GeneratedHasItsLength : Type 0
GeneratedHasItsLength = (g : Program) → IsWellFormed g → NamesApart g
    → length (program_made g).instrs ≡ code_length g
