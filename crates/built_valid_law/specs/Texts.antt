-- The operands of each instruction of a text are in range.
use Rattle.std.specs.Prelude.{◌≤◌, ℕ}
use Rattle.syntax_tree.specs.Plain.{Process, Program}
use Rattle.machine_semantics.specs.Image.{Image}
use Rattle.valid_image.specs.Operands.{Whose}
use Rattle.code_spec.specs.Layout.{by_process, home_of, routine_words, frame_words}
use Rattle.code_spec.specs.Numbering.{Text}
use Rattle.static_semantics.specs.WellFormed.{RoutineFits, ProcessFits}
use Rattle.code_measures.specs.Sound.{SoundRoutine, SoundProcess}
use Rattle.built_valid_law.specs.Has.{RoutineHas, ProcessHas}
use Rattle.built_valid_law.specs.Fine.{IsFine, MayCall, Stands}

-- The law of routines: where the frame has room, and what is called may be called.
abbrev pub RoutinesAreFine : Type 0
RoutinesAreFine = (g : Program) (m : Image) (w : Whose) (p : Process) (t : Text) → Stands g m w t.owner → routine_words g t.routine ≤ w.locals
    → SoundRoutine g (MayCall g m w) t → RoutineFits g p (home_of t.owner) t.routine → RoutineHas (IsFine m w) g t

-- The law of processes.
abbrev pub ProcessesAreFine : Type 0
ProcessesAreFine = (g : Program) (m : Image) (w : Whose) (k : ℕ) (p : Process) → Stands g m w (by_process k) → frame_words p ≤ w.locals
    → SoundProcess g (MayCall g m w) k p → ProcessFits g p → ProcessHas (IsFine m w) g k p
