-- Programs whose demand was judged, and what is due of them.
use Rattle.std.specs.Prelude.{◌≡◌, ◌++◌, ℕ, List, Option, Some}
use Rattle.syntax_tree.specs.declared.place.Place.{Place}
use Rattle.syntax_tree.specs.Placed.{Prog}
use Rattle.image.specs.Named.{NamedImage}
use Rattle.image_loaded.specs.Shape.{IsShape}
use Rattle.script.specs.declared.script.ScriptLine.{ScriptLine}
use Rattle.script.specs.declared.fault.ScriptFault.{ScriptFault}
use Rattle.script.specs.Scripts.{IsScript}
use Rattle.sched_demand.specs.declared.judging.Judgement.{Judgement}
use Rattle.sched_demand.specs.declared.judging.Judgement.TheVariants as judgement
use Rattle.command_due.specs.Source.{IsWritten, IsTextFault}
use Rattle.command_due.specs.CommandsDue.{Outcome, told, bad_script, IsScriptFault}
use Rattle.compile.specs.declared.read_text.ProgramTextFault.{ProgramTextFault}
use Rattle.compile.specs.declared.read_text.ProgramTextFault.TheVariants as fault
use Rattle.command_due.specs.EdfDue.{IsJudgedText, IsUnfit, edf_log}
use Rattle.command_due.specs.Report.{edf_report}
use Rattle.command_due.specs.Waits.{IsFirstWait}
use Rattle.outside.specs.Outside.{FilesState}
use Rattle.command_answers.specs.declared.prepare_error.PrepareError.{PrepareError}
use Rattle.command_answers.specs.declared.prepare_error.PrepareError.TheVariants as unready
use Rattle.command_answers.specs.Prepared.{IsReadError}
use Rattle.edf_command.specs.declared.judged.Judged.{Judged}

-- the text is that of a program without waits, this is its image, which is valid but for its bounds,
-- and what the test says of it
pub record IsSubjectOf (text : List ℕ) (s : Judged) : Type 0 where
  pub judged : IsJudgedText text s.image s.answer
  pub valid : IsShape s.image

-- of some text
abbrev pub IsSubject : Judged → Type 0
IsSubject s = (text : List ℕ) × IsSubjectOf text s

-- the fault of a text, or that its program waits
pub data IsStopped (text : List ℕ) (number : ℕ) (place : Place) : Type 0 where
  faulty : IsTextFault text number place → IsStopped text number place
  waits : (g : Prog Place) → IsWritten text g → IsFirstWait g place → number ≡ 48 → IsStopped text number place

-- want of memory says nothing of the text
abbrev pub Stops : List ℕ → ProgramTextFault → Type 0
Stops text (fault.Text number place) = IsStopped text number place
Stops text (fault.Memory _) = Unit {0}

-- the demand is met at each point
abbrev pub IsMet : Judgement → Type 0
IsMet (judgement.Feasible points) = Unit {0}
IsMet other = ⊥

-- the line of the script's fault, or the report and the log of the run
pub data IsScriptDue (n : NamedImage) (answer : Judgement) (text : List ℕ) (outcome : Outcome) : Type 0 where
  misspelled : (why : ScriptFault) → IsScriptFault n text why → outcome ≡ bad_script why → IsScriptDue n answer text outcome
  ran : (lines : List ScriptLine) (end : ℕ) → IsScript n.names text lines end
      → outcome ≡ told 0 (edf_report n answer ++ edf_log n lines end) → IsScriptDue n answer text outcome

-- the report alone, where the demand is not met; else what is due of the script
pub data IsSubjectDue (n : NamedImage) (answer : Judgement) (script : Option (List ℕ)) (outcome : Outcome) : Type 0 where
  unfit : IsUnfit answer → outcome ≡ told 3 (edf_report n answer) → IsSubjectDue n answer script outcome
  scripted : (text : List ℕ) → IsMet answer → script ≡ Some text → IsScriptDue n answer text outcome → IsSubjectDue n answer script outcome

-- why the script could not be read, which is read only where the demand is met
abbrev pub IsScriptError : Judgement → List ℕ → (before now : FilesState) → PrepareError → Type 0
IsScriptError answer name before now (unready.Unread failed) = IsReadError name before now (unready.Unread failed) × IsMet answer
IsScriptError answer name before now (unready.Memory _) = Unit {0}
