-- The runs of the image of a program are source runs of it, and in time.
use Rattle.std.specs.Prelude.{◌≡◌, ℕ, Some, slice_get}
use Rattle.syntax_tree.specs.Plain.{Program}
use Rattle.syntax_tree.specs.Plain as tree
use Rattle.source_semantics.specs.Names.{processes}
use Rattle.source_semantics.specs.Starts.{Script}
use Rattle.source_semantics.specs.Source.{IsSourceRun}
use Rattle.machine_semantics.specs.Run.{events}
use Rattle.machine_semantics.specs.Walk.{Where}
use Rattle.machine_semantics.specs.Safe.{Parts, ImageFits}
use Rattle.machine_semantics.specs.Image.{Process}
use Rattle.code_spec.specs.Memory.{Order}
use Rattle.codegen_law.specs.Kept.{NamesDiffer}
use Rattle.code_correct.specs.Kept.{KeepsRules}
use Rattle.code_correct.specs.Process.{setting_of}
use Rattle.static_semantics.specs.WellFormed.{IsWellFormed}
use Rattle.codegen_law.specs.Ruled.{NamesApart}
use Rattle.code_lifting.specs.Related.{Whole}
use Rattle.code_lifting.specs.Compiled.{IsFrom, script_of}
use Rattle.code_lifting.specs.Image.{IsImageOf, AreRight, compiled_of, whole}
use Rattle.sched_timing.specs.Timed.{ImageIsTimed, RespectsFrames, IsInTime}

-- The names of routines differ, and each process keeps to the static rules where its code stands,
-- with the routines and entries that it runs;
-- `orders` tells for each process the levels of its routines, which are above those of the routines
-- that they call, and which it runs.
pub record IsProper (w : Whole) (orders : ℕ → Order) : Type 0 where
  pub names : NamesDiffer w.program
  pub rules : (k : ℕ) (p : Process) (text : tree.Process) → slice_get w.image.processes k ≡ Some p → slice_get (processes w.program) k ≡ Some text → KeepsRules (setting_of (compiled_of w k p text) (orders k))

-- The law: the code of a program that keeps to the static rules is right.
abbrev pub ProperCodeIsRight : Type 0
ProperCodeIsRight = (w : Whole) (orders : ℕ → Order) → IsImageOf w → IsProper w orders → AreRight w

-- The law: the code of a well-formed program is right.
abbrev pub WellFormedCodeIsRight : Type 0
WellFormedCodeIsRight = (w : Whole) → IsImageOf w → IsWellFormed w.program → NamesApart w.program → AreRight w

-- The law: each run of the image of a well-formed program, over a script that respects its frames,
-- is a run of the program and in time.
abbrev pub WellFormedProgramsRun : Type 0
WellFormedProgramsRun = (e : Where) (ps : ℕ → Parts) (g : Program) (script : Script) → ImageFits e ps → ImageIsTimed e ps → IsImageOf (whole e.image g) → IsWellFormed g → NamesApart g
    → IsFrom 0 script.lines → RespectsFrames e.image (script_of script)
    → IsSourceRun g script (events e.image (script_of script)) × IsInTime e.image (script_of script)

-- The law: each run of the image of such a program, over a script that respects its frames, is a
-- run of the program and in time.
abbrev pub ProgramsRunRightAndInTime : Type 0
ProgramsRunRightAndInTime = (e : Where) (ps : ℕ → Parts) (g : Program) (orders : ℕ → Order) (script : Script) → ImageFits e ps → ImageIsTimed e ps → IsImageOf (whole e.image g) → IsProper (whole e.image g) orders
    → IsFrom 0 script.lines → RespectsFrames e.image (script_of script)
    → IsSourceRun g script (events e.image (script_of script)) × IsInTime e.image (script_of script)

-- The law: the image is valid, as far as safety and time go, and that of the program; the code of
-- each process is right; the script has its lines in order and respects the frames. Then the events
-- of the run are a source run of the program, and the run is in time: no overrun, and every
-- activation ends within its declared bound.
abbrev pub RunsAreRightAndInTime : Type 0
RunsAreRightAndInTime = (e : Where) (ps : ℕ → Parts) (g : Program) (script : Script) → ImageFits e ps → ImageIsTimed e ps → IsImageOf (whole e.image g) → AreRight (whole e.image g)
    → IsFrom 0 script.lines → RespectsFrames e.image (script_of script)
    → IsSourceRun g script (events e.image (script_of script)) × IsInTime e.image (script_of script)
