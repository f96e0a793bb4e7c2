-- What is made of a checked program, in an image.
use Rattle.std.specs.Prelude.{◌≡◌, ◌≤◌, Some, slice_get}
use Rattle.syntax_tree.specs.Placed.{Prog, plain}
use Rattle.syntax_tree.specs.declared.place.Place.{Place}
use Rattle.source_semantics.specs.Names.{processes}
use Rattle.machine_semantics.specs.Image as image
use Rattle.static_semantics.specs.Static.{IsChecked}
use Rattle.code_spec.specs.Compiled.{IsCodeOf}
use Rattle.code_cost_spec.specs.Levels.{code_length}
use Rattle.code_spec.specs.Boundary.{Compiled}
use Rattle.codegen_spec.specs.Parts.{program_made}
use Rattle.codegen_spec.specs.Held.{Holds}
use Rattle.codegen_law.specs.Fitting.{FramesFit}

-- a checked program that is not too large: at most 65,535 instructions, and no frame of a routine
-- longer than the greatest operand
pub record IsSmallEnough (g : Prog Place) : Type 0 where
  pub checked : IsChecked g
  pub frames : FramesFit (plain g)
  pub code : code_length (plain g) ≤ 65535

-- the image holds what is made of the program
abbrev pub HoldsMade : Prog Place → image.Image → Type 0
HoldsMade g m = Holds (plain g) (program_made (plain g)) m

-- The law: it is the code of the program.
abbrev pub CheckedCodeIsCode : Type 0
CheckedCodeIsCode = (g : Prog Place) (m : image.Image) → IsSmallEnough g → HoldsMade g m
    → IsCodeOf (plain g) m

-- process c of the program and of the image
pub record IsProcessOf (g : Prog Place) (m : image.Image) (c : Compiled) : Type 0 where
  pub program : c.program ≡ plain g
  pub image : c.image ≡ m
  pub text : slice_get (processes (plain g)) c.number ≡ Some c.text
  pub process : slice_get m.processes c.number ≡ Some c.process
