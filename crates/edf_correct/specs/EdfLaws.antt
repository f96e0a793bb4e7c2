-- The image of a program without waits, under earliest deadline first: what holds of its runs.
use Rattle.std.specs.Prelude.{◌≤◌, ℕ, List}
use Rattle.syntax_tree.specs.declared.place.Place.{Place}
use Rattle.syntax_tree.specs.Placed.{Prog, plain}
use Rattle.syntax_tree.specs.Plain as plain_of
use Rattle.source_semantics.specs.Starts.{Script}
use Rattle.source_semantics.specs.Any.{IsAnySourceRun}
use Rattle.machine_semantics.specs.Walk.{Where}
use Rattle.machine_semantics.specs.Safe.{Parts, ImageFits}
use Rattle.code_lifting.specs.Compiled.{IsFrom, script_of}
use Rattle.sched_timing.specs.Timed.{RespectsFrames}
use Rattle.sched_demand.specs.declared.judging.Judgement.TheVariants as judgement
use Rattle.edf_semantics.specs.Run.{events}
use Rattle.edf_semantics.specs.Safe.{IsWaitless}
use Rattle.edf_semantics.specs.Runs.{HasNoOverrun}
use Rattle.command_answers.specs.Runs.{IsEdfRun}
use Rattle.command_due.specs.Image.{IsEdfImage}
use Rattle.command_due.specs.Tasks.{IsAnswer}
use Rattle.code_lifting.specs.Image.{IsImageOf, AreRight, whole}
use Rattle.image.specs.Named.{NamedImage}
use Rattle.script.specs.declared.script.ScriptLine.{ScriptLine}
use Rattle.script.specs.Scripts.{IsScript}
use Rattle.command_due.specs.Source.{IsWritten}
use Rattle.script.specs.Meaning.{said}
use Rattle.edf_correct.specs.Waits.{HasNoWait}

-- The law: the events of each run, without overrun, of the image of a program whose code is right
-- are a run of the program in which any ready process may act. The image fits its trees and waits
-- nowhere.
abbrev pub CompiledRunsAreRuns : Type 0
CompiledRunsAreRuns = (e : Where) (ps : ℕ → Parts) (g : plain_of.Program) (script : Script) → ImageFits e ps → IsWaitless e ps → IsImageOf (whole e.image g) → AreRight (whole e.image g)
    → IsFrom 0 script.lines → HasNoOverrun e.image (script_of script) → IsAnySourceRun g script (events e.image (script_of script))

-- The law: where a text is that of a program that keeps to all rules, is not too large and has no
-- wait, and the test answers that the demand of its image is feasible, so is each run over a script
-- whose lines are in order, that respects the frames and ends by tick 1,000,000,000.
abbrev pub EdfRunsAreRight : Type 0
EdfRunsAreRight = (text : List ℕ) (g : Prog Place) (n : NamedImage) (count : ℕ) (script : Script) → IsWritten text g → HasNoWait (plain g) → IsEdfImage (plain g) n → IsAnswer n.image (judgement.Feasible count)
    → IsFrom 0 script.lines → RespectsFrames n.image (script_of script) → script.end_tick ≤ 1000000000 → IsEdfRun (plain g) n.image script

-- The law: so is each run over a script that is written for its names.
abbrev pub EdfImagesKeepTheirWord : Type 0
EdfImagesKeepTheirWord = (text : List ℕ) (g : Prog Place) (n : NamedImage) (count : ℕ) → IsWritten text g → HasNoWait (plain g) → IsEdfImage (plain g) n → IsAnswer n.image (judgement.Feasible count)
    → (script : List ℕ) (lines : List ScriptLine) (end : ℕ) → IsScript n.names script lines end → IsEdfRun (plain g) n.image (said lines end)
