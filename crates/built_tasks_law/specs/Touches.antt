-- The monitors that texts come to by their calls.
use Rattle.std.specs.Prelude.{◌≡◌, ◌||◌, ℕ, zero, suc, Bool, false, Some, nat_eq, slice_get}
use Rattle.syntax_tree.specs.Plain.{Process, Program}
use Rattle.source_semantics.specs.Names.{processes, routine_count}
use Rattle.source_semantics.specs.Ranks.{includes, monitors_of}
use Rattle.machine_semantics.specs.Image.{Image}
use Rattle.valid_image.specs.Times.{enters}
use Rattle.code_spec.specs.Layout.{Owner, by_program, by_process, by_monitor}
use Rattle.code_spec.specs.Numbering.{Text, called_text, routine_calls}
use Rattle.code_spec.specs.Compiled.{IsCodeOf}
use Rattle.static_semantics.specs.WellFormed.{IsWellFormed}
use Rattle.codegen_law.specs.Ruled.{NamesApart}
use Rattle.sched_program.specs.Tasks.{some_called, process_calls}

-- whose text it is: an entry of the monitor
abbrev pub is_entry_of : (monitor : ℕ) → Owner → Bool
is_entry_of j by_program = false
is_entry_of j (by_process k) = false
is_entry_of j (by_monitor m) = nat_eq m j

-- a text passes the test, or comes to one that does by calls that are nested at most so deep
unfoldable pub comes_to_one : (depth : ℕ) → Program → (Text → Bool) → Text → Bool
comes_to_one zero g test t = test t
comes_to_one (suc n) g test t = test t || some_called (comes_to_one n g test) (called_text g t.owner) (routine_calls t.routine)

-- the body or the handler of process k comes to one; calls are nested at most as deep as there are
-- routines
abbrev pub process_comes_to_one : Program → (Text → Bool) → (k : ℕ) → Process → Bool
process_comes_to_one g test k p = some_called (comes_to_one (routine_count g) g test) (called_text g (by_process k)) (process_calls p)

-- the test is to be an entry of the monitor
abbrev pub touches : (depth : ℕ) → Program → (monitor : ℕ) → Text → Bool
touches n g j = comes_to_one n g (λ t. is_entry_of j t.owner)

abbrev pub process_touches : Program → (monitor k : ℕ) → Process → Bool
process_touches g j k p = process_comes_to_one g (λ t. is_entry_of j t.owner) k p

-- The law: the code of a process reaches an entry of a monitor just where its text comes to one.
abbrev pub CodeEntersWhatTextsTouch : Type 0
CodeEntersWhatTextsTouch = (g : Program) (m : Image) → IsWellFormed g → NamesApart g → IsCodeOf g m
    → (k : ℕ) (p : Process) → slice_get (processes g) k ≡ Some p → (j : ℕ) → enters m k j ≡ process_touches g j k p

-- The law: a monitor is among those that a process uses just where its text comes to an entry of
-- it.
abbrev pub TextsUseWhatTheyTouch : Type 0
TextsUseWhatTheyTouch = (g : Program) → IsWellFormed g → NamesApart g
    → (k : ℕ) (p : Process) → slice_get (processes g) k ≡ Some p → (j : ℕ) → includes j (monitors_of g p) ≡ process_touches g j k p
