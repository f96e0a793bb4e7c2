-- The law: no number of a well-formed program is cut off, where its code and the frames of its
-- routines are not too large.
use Rattle.std.specs.Prelude.{◌≡◌, ◌≤◌, ℕ, Some, slice_get}
use Rattle.syntax_tree.specs.Plain.{Program}
use Rattle.code_spec.specs.Layout.{routine_words}
use Rattle.code_spec.specs.Numbering.{Text, numbered}
use Rattle.code_cost_spec.specs.Levels.{code_length}
use Rattle.source_semantics_law.specs.Example.{signalled_wait}
use Rattle.static_semantics.specs.WellFormed.{IsWellFormed}
use Rattle.codegen_law.specs.MadeWholeFits.{ProgramFits}

-- the last word of each routine's frame has a number that is an operand
abbrev pub FramesFit : Program → Type 0
FramesFit g = (r : ℕ) (t : Text) → slice_get (numbered g) r ≡ Some t
    → routine_words g t.routine ≤ 2147483647

abbrev pub WellFormedProgramsFit : Type 0
WellFormedProgramsFit = (g : Program) → IsWellFormed g → FramesFit g
    → code_length g ≤ 65535 → ProgramFits g

-- A program with a monitor, a wait, a signal and a handler meets the premises.
pub record ExampleFits : Type 0 where
  pub form : IsWellFormed signalled_wait
  pub frames : FramesFit signalled_wait
  pub code : code_length signalled_wait ≤ 65535
