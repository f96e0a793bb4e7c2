-- What the static rules give to the laws of code, of validity and of runs.
use Rattle.std.specs.Prelude.{ℕ}
use Rattle.syntax_tree.specs.Placed.{Prog, plain}
use Rattle.syntax_tree.specs.declared.place.Place.{Place}
use Rattle.source_semantics.specs.Starts.{Script}
use Rattle.source_semantics.specs.Source.{IsSourceRun}
use Rattle.machine_semantics.specs.Run.{events}
use Rattle.machine_semantics.specs.Walk.{Where}
use Rattle.machine_semantics.specs.Safe.{Parts, ImageFits}
use Rattle.static_semantics.specs.Static.{IsChecked}
use Rattle.code_lifting.specs.Compiled.{IsFrom, script_of}
use Rattle.code_lifting.specs.Image.{IsImageOf, whole}
use Rattle.sched_timing.specs.Timed.{ImageIsTimed, RespectsFrames, IsInTime}

-- The law: each run of the image of a checked program, over a script that respects its frames, is a
-- run of the program, and in time.
abbrev pub CheckedProgramsRun : Type 0
CheckedProgramsRun = (e : Where) (ps : ℕ → Parts) (g : Prog Place) (script : Script) → ImageFits e ps → ImageIsTimed e ps → IsImageOf (whole e.image (plain g)) → IsChecked g
    → IsFrom 0 script.lines → RespectsFrames e.image (script_of script)
    → IsSourceRun (plain g) script (events e.image (script_of script)) × IsInTime e.image (script_of script)
