-- What is due of `replay`.
use Rattle.std.specs.Prelude.{◌≡◌, ◌≢◌, ◌++◌, ℕ, List, [], length, Option, Some, codes, decimal}
use Rattle.out_of_memory.specs.Refused.{refused}
use Rattle.syntax_tree.specs.declared.place.Place.{Place}
use Rattle.syntax_tree.specs.Placed.{Prog, plain}
use Rattle.base.specs.declared.event.Event.{Event}
use Rattle.source_semantics.specs.Config.{start}
use Rattle.source_semantics.specs.Source.{IsSourceRun}
use Rattle.script.specs.declared.script.ScriptLine.{ScriptLine}
use Rattle.script.specs.declared.fault.ScriptFault.{ScriptFault}
use Rattle.script.specs.declared.fault.ScriptFault.TheVariants as script_fault
use Rattle.script.specs.Scripts.{IsScript}
use Rattle.script.specs.Faults as scripts
use Rattle.built_image.specs.Named.{names_of}
use Rattle.event_log.specs.declared.fault.LogFault.{LogFault}
use Rattle.event_log.specs.declared.fault.LogFault.TheVariants as log_fault
use Rattle.event_log.specs.Logs.{IsFault, IsLog}
use Rattle.command_due.specs.Source.{IsWritten, IsTextFault, fault_line}
use Rattle.script.specs.Meaning.{said}
use Rattle.command_due.specs.CommandsDue.{Outcome, told, bad_script}
use Rattle.source_semantics.specs.Verdicts.{IsRefusedAt}

-- ---- lines

-- a text that is no log; want of memory has no line
abbrev pub log_fault_line : LogFault → List ℕ
log_fault_line (log_fault.Line line) = codes "L1 " ++ (decimal line ++ codes "\n")
log_fault_line log_fault.Long = codes "L2 0\n"
log_fault_line (log_fault.Memory _) = []

-- a log whose event on this line is refused, the first line being 1
abbrev pub refused_line : ℕ → List ℕ
refused_line line = codes "L3 " ++ (decimal line ++ codes "\n")

-- a log of so many events that is that of a run
abbrev pub run_line : ℕ → List ℕ
run_line count = codes "run " ++ (decimal count ++ codes "\n")

-- ---- what is due

-- the files hold the text of the program, and that of a script for its names
pub record IsRecorded (program script : Option (List ℕ)) (g : Prog Place) (lines : List ScriptLine) (end : ℕ) : Type 0 where
  pub text : List ℕ
  pub is_held : program ≡ Some text
  pub written : IsWritten text g
  pub other : List ℕ
  pub script_held : script ≡ Some other
  pub script_written : IsScript (names_of (plain g)) other lines end

-- they hold some program, and some script for it
abbrev pub IsRecordedFor : (program script : Option (List ℕ)) → Type 0
IsRecordedFor program script = (g : Prog Place) × (lines : List ScriptLine) × (end : ℕ) × IsRecorded program script g lines end

-- A log of a program over a script: the line of its text's fault, the line that is refused, or how
-- many events there are, where they are a run.
pub data IsJudged (g : Prog Place) (lines : List ScriptLine) (end : ℕ) (text : List ℕ) (outcome : Outcome) : Type 0 where
  misread : (fault : LogFault) → IsFault (names_of (plain g)) text fault → outcome ≡ told 9 (log_fault_line fault) → IsJudged g lines end text outcome
  is_refused : (events : List Event) (line : ℕ) → IsLog (names_of (plain g)) text events
      → IsRefusedAt (plain g) (said lines end) (start (plain g)) events line → outcome ≡ told 9 (refused_line line) → IsJudged g lines end text outcome
  is_run : (events : List Event) → IsLog (names_of (plain g)) text events → IsSourceRun (plain g) (said lines end) events
      → outcome ≡ told 0 (run_line (length events)) → IsJudged g lines end text outcome

-- By the texts of the program, the script and the log: the line of the first one's fault, and where
-- the first two have none what the log comes to.
pub data IsReplayDue (program script log : Option (List ℕ)) (outcome : Outcome) : Type 0 where
  replay_faulty : (text : List ℕ) (number : ℕ) (place : Place) → program ≡ Some text → IsTextFault text number place
      → outcome ≡ told 2 (fault_line number place) → IsReplayDue program script log outcome
  replay_bad_script : (text other : List ℕ) (g : Prog Place) (fault : ScriptFault) → program ≡ Some text → IsWritten text g
      → script ≡ Some other → scripts.IsFault (names_of (plain g)) other fault → fault ≢ script_fault.Memory refused
      → outcome ≡ bad_script fault → IsReplayDue program script log outcome
  replay_judged : (g : Prog Place) (lines : List ScriptLine) (end : ℕ) (text : List ℕ) → IsRecorded program script g lines end
      → log ≡ Some text → IsJudged g lines end text outcome → IsReplayDue program script log outcome
