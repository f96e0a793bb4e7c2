-- What the code of a program calls is what its text calls, told by tests on routines.
use Rattle.std.specs.Prelude.{◌≡◌, ℕ, Bool, Some, slice_get}
use Rattle.syntax_tree.specs.Plain.{Process, Program}
use Rattle.source_semantics.specs.Names.{processes}
use Rattle.machine_semantics.specs.Image as image
use Rattle.valid_image.specs.Pieces.{called, piece_number}
use Rattle.valid_image.specs.Tables.{some_of}
use Rattle.code_spec.specs.Layout.{by_process}
use Rattle.code_spec.specs.Numbering.{Text, called_text, routine_calls, numbered, number_of}
use Rattle.code_spec.specs.Compiled.{IsCodeOf}
use Rattle.code_measures.specs.Declared.{IsSound}
use Rattle.sched_program.specs.Tasks.{some_called, process_calls}

-- the text's number passes
abbrev pub by_number : Program → (ℕ → Bool) → Text → Bool
by_number g test t = test (number_of g t)

-- The law: the piece of a routine calls one that passes a test just where its text does.
abbrev pub RoutinesCallTheirTexts : Type 0
RoutinesCallTheirTexts = (g : Program) (m : image.Image) → IsCodeOf g m → IsSound g
    → (test : ℕ → Bool) (r : ℕ) (t : Text) → slice_get (numbered g) r ≡ Some t
    → some_of test (called m r) ≡ some_called (by_number g test) (called_text g t.owner) (routine_calls t.routine)

-- The law: and so does that of a process.
abbrev pub ProcessesCallTheirTexts : Type 0
ProcessesCallTheirTexts = (g : Program) (m : image.Image) → IsCodeOf g m → IsSound g
    → (test : ℕ → Bool) (k : ℕ) (p : Process) → slice_get (processes g) k ≡ Some p
    → some_of test (called m (piece_number m k)) ≡ some_called (by_number g test) (called_text g (by_process k)) (process_calls p)
