-- What the static rules give of a whole program, and what its image declares.
use Rattle.std.specs.Prelude.{◌≡◌, ◌≤◌, ◌<◌, ℕ, Some, length, slice_get}
use Rattle.syntax_tree.specs.Plain.{Process, Program}
use Rattle.base.specs.Capped.{cap}
use Rattle.source_semantics.specs.Names.{processes, routine_count}
use Rattle.machine_semantics.specs.Image as image
use Rattle.valid_image.specs.Found.{capped}
use Rattle.valid_image.specs.Sizes.{with_dispatch}
use Rattle.code_spec.specs.Numbering.{Text, numbered, number_of}
use Rattle.code_cost_spec.specs.Names.{Calls}
use Rattle.code_cost_spec.specs.Heights.{routine_height}
use Rattle.code_cost_spec.specs.Levels.{calls_of, cost_of_routine, stay_of_entry, cost_of_process, stack_of_process}
use Rattle.code_measures.specs.Sound.{SoundRoutine, SoundProcess}

-- ---- what the static rules and the numbering give

-- a routine that has its number, which is below this one
pub record IsBelow (g : Program) (r : ℕ) (t : Text) : Type 0 where
  pub low : number_of g t < r
  pub there : slice_get (numbered g) (number_of g t) ≡ Some t

-- Names mean what they should, and each routine calls those with lower numbers alone.
pub record IsSound (g : Program) : Type 0 where
  pub few : length (numbered g) ≤ routine_count g
  pub routines : (r : ℕ) (t : Text) → slice_get (numbered g) r ≡ Some t → SoundRoutine g (λ y. IsBelow g r y) t
  pub bodies : (k : ℕ) (p : Process) → slice_get (processes g) k ≡ Some p → SoundProcess g (λ y. IsBelow g (length (numbered g)) y) k p

-- ---- what the image declares

-- the cost of a routine is that of the text, capped; so is the stay of an entry
pub record DeclaresRoutine (g : Program) (t : Text) (x : image.Routine) : Type 0 where
  pub run : x.run ≡ cap (cost_of_routine g t).run
  pub susp : x.susp ≡ cap (cost_of_routine g t).susp
  pub waits : x.waits ≡ cap (cost_of_routine g t).waits
  pub stay : x.stay ≡ cap (stay_of_entry g t)

-- the cost of a process, with its dispatches, and its stack
pub record DeclaresProcess (g : Program) (over k : ℕ) (p : Process) (x : image.Process) : Type 0 where
  pub run : x.run ≡ cap (with_dispatch over (cost_of_process g k p))
  pub susp : x.susp ≡ cap (cost_of_process g k p).susp
  pub waits : x.waits ≡ cap (cost_of_process g k p).waits
  pub stack : x.stack ≡ stack_of_process g k p

pub record Declares (g : Program) (m : image.Image) : Type 0 where
  pub routines : (r : ℕ) (t : Text) (x : image.Routine) → slice_get (numbered g) r ≡ Some t → slice_get m.routines r ≡ Some x → DeclaresRoutine g t x
  pub bodies : (k : ℕ) (p : Process) (x : image.Process) → slice_get (processes g) k ≡ Some p → slice_get m.processes k ≡ Some x → DeclaresProcess g m.over k p x

-- what the table of an image that declares so knows of routines
abbrev pub declared_calls : Program → Calls
declared_calls g = record { cost = λ t. capped (cost_of_routine g t); height = λ t. routine_height g t.owner (calls_of g) t.routine }
