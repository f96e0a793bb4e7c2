-- What is due of `edf`.
use Rattle.std.specs.Prelude.{◌≡◌, ◌++◌, ℕ, List, Option, Some}
use Rattle.syntax_tree.specs.declared.place.Place.{Place}
use Rattle.syntax_tree.specs.Placed.{Prog, plain}
use Rattle.image.specs.Named.{NamedImage}
use Rattle.event_log.specs.Line.{log_of}
use Rattle.script.specs.declared.script.ScriptLine.{ScriptLine}
use Rattle.script.specs.declared.fault.ScriptFault.{ScriptFault}
use Rattle.script.specs.Scripts.{IsScript}
use Rattle.command_due.specs.Source.{IsWritten, IsTextFault, fault_line}
use Rattle.command_due.specs.Script.{run_of}
use Rattle.command_due.specs.CommandsDue.{Outcome, told, bad_script, IsScriptFault}
use Rattle.sched_demand.specs.declared.judging.Judgement.{Judgement}
use Rattle.sched_demand.specs.declared.judging.Judgement.TheVariants as judgement
use Rattle.edf_semantics.specs.Run.{events}
use Rattle.command_due.specs.Image.{IsEdfImage}
use Rattle.command_due.specs.Tasks.{IsAnswer}
use Rattle.command_due.specs.Waits.{HasNoWait, IsFirstWait}
use Rattle.command_due.specs.Report.{edf_report}

-- the text is that of a program without a wait statement; this is its image, and this is what the
-- test of the demand says of it
pub record IsJudgedText (text : List ℕ) (n : NamedImage) (answer : Judgement) : Type 0 where
  pub tree : Prog Place
  pub written : IsWritten text tree
  pub waitless : HasNoWait tree
  pub image : IsEdfImage (plain tree) n
  pub answered : IsAnswer n.image answer

-- the demand is met at each point, of so many
abbrev pub IsFeasibleText : List ℕ → NamedImage → ℕ → Type 0
IsFeasibleText text n points = IsJudgedText text n (judgement.Feasible points)

-- it is not, or there are too many points to tell
abbrev pub IsUnfit : Judgement → Type 0
IsUnfit answer = (points : ℕ) → ¬ (answer ≡ judgement.Feasible points)

-- the log of the run under earliest deadline first
abbrev pub edf_log : NamedImage → List ScriptLine → ℕ → List ℕ
edf_log n lines end = log_of n.names (events n.image (run_of lines end))

-- By the texts of the program and the script: the line of the first one's fault, or of its first
-- wait statement; the report, where its demand is not met; the line of the script's fault; else the
-- report, and the log of the run.
pub data IsEdfDue (program script : Option (List ℕ)) (outcome : Outcome) : Type 0 where
  edf_faulty : (text : List ℕ) (number : ℕ) (place : Place) → program ≡ Some text → IsTextFault text number place
      → outcome ≡ told 2 (fault_line number place) → IsEdfDue program script outcome
  edf_waits : (text : List ℕ) (g : Prog Place) (place : Place) → program ≡ Some text → IsWritten text g → IsFirstWait g place
      → outcome ≡ told 2 (fault_line 48 place) → IsEdfDue program script outcome
  edf_unfit : (text : List ℕ) (n : NamedImage) (answer : Judgement) → program ≡ Some text → IsJudgedText text n answer → IsUnfit answer
      → outcome ≡ told 3 (edf_report n answer) → IsEdfDue program script outcome
  edf_bad_script : (text other : List ℕ) (n : NamedImage) (points : ℕ) (fault : ScriptFault) → program ≡ Some text → IsFeasibleText text n points
      → script ≡ Some other → IsScriptFault n other fault → outcome ≡ bad_script fault → IsEdfDue program script outcome
  edf_ran : (text other : List ℕ) (n : NamedImage) (points : ℕ) (lines : List ScriptLine) (end : ℕ) → program ≡ Some text → IsFeasibleText text n points
      → script ≡ Some other → IsScript n.names other lines end
      → outcome ≡ told 0 (edf_report n (judgement.Feasible points) ++ edf_log n lines end) → IsEdfDue program script outcome
