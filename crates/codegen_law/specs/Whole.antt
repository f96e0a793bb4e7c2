-- The law: an image that holds what the generator makes of a program is the code of the program.
use Rattle.std.specs.Prelude.{◌≡◌, length}
use Rattle.syntax_tree.specs.Plain.{Program}
use Rattle.machine_semantics.specs.Image as image
use Rattle.source_semantics_law.specs.Example.{signalled_wait}
use Rattle.machine_safety.specs.ValidImages.{meeting}
use Rattle.code_spec.specs.Compiled.{IsCodeOf}
use Rattle.code_cost_spec.specs.Levels.{code_length}
use Rattle.code_measures.specs.Declared.{IsSound}
use Rattle.codegen_spec.specs.Parts.{program_made}
use Rattle.codegen_law.specs.MadeWholeFits.{ProgramFits}
use Rattle.codegen_spec.specs.Held.{Holds}

-- Names mean what they should, and no number is cut off.
abbrev pub MadeIsCode : Type 0
MadeIsCode = (g : Program) (m : image.Image) → IsSound g → ProgramFits g
    → Holds g (program_made g) m → IsCodeOf g m

-- What is made of a program has as many instructions as its text says, however many they are.
abbrev pub MadeHasItsLength : Type 0
MadeHasItsLength = (g : Program) → IsSound g → length (program_made g).instrs ≡ code_length g

-- A program with a monitor, a wait, a signal and a handler meets the premises, and its image
-- written by hand holds what is made of it.
pub record ExampleHolds : Type 0 where
  pub sound : IsSound signalled_wait
  pub fits : ProgramFits signalled_wait
  pub holds : Holds signalled_wait (program_made signalled_wait) meeting
