-- Logs of accepted programs, replayed.
use Rattle.std.specs.Prelude.{◌≡◌, ◌≤◌, ℕ, List, Option, Some, length}
use Rattle.syntax_tree.specs.declared.place.Place.{Place}
use Rattle.syntax_tree.specs.Placed.{Prog, plain}
use Rattle.base.specs.declared.event.Event.{Event}
use Rattle.machine_semantics.specs.Run.{events}
use Rattle.image.specs.Named.{NamedImage}
use Rattle.script.specs.declared.script.ScriptLine.{ScriptLine}
use Rattle.script.specs.Scripts.{IsScript}
use Rattle.built_image.specs.Named.{names_of}
use Rattle.event_log.specs.Logs.{IsLog, longest_text}
use Rattle.command_due.specs.Script.{run_of}
use Rattle.command_due.specs.CommandsDue.{log, told}
use Rattle.command_due.specs.Runs.{IsAccepted, IsDone}
use Rattle.command_due.specs.ReplayDue.{IsReplayDue, run_line}

-- the events of the run of an image over a script
abbrev pub run_events : NamedImage → List ScriptLine → ℕ → List Event
run_events n lines end = events n.image (run_of lines end)

-- The law: what is put of a run of the image of an accepted program is the log of its events, by
-- the names of the program, where it is not too long.
abbrev pub LogsOfRunsAreLogs : Type 0
LogsOfRunsAreLogs =
    (over : ℕ) (program : Option (List ℕ)) (g : Prog Place) (n : NamedImage) (text : List ℕ) (lines : List ScriptLine) (end : ℕ)
    → IsAccepted over program g n → IsScript n.names text lines end → length (log n lines end) ≤ longest_text
    → IsLog (names_of (plain g)) (log n lines end) (run_events n lines end)

-- the files hold the text of a program that is accepted, a script for it, and the log of its run
-- over the script, which is not too long
pub record IsHeld (over : ℕ) (program script log_file : Option (List ℕ)) (g : Prog Place) (n : NamedImage) (lines : List ScriptLine) (end : ℕ) : Type 0 where
  pub accepted : IsAccepted over program g n
  pub text : List ℕ
  pub script_held : script ≡ Some text
  pub script_written : IsScript n.names text lines end
  pub log_held : log_file ≡ Some (log n lines end)
  pub short : length (log n lines end) ≤ longest_text

-- The law: what is due of `replay` of these is the number of its events.
abbrev pub LogsOfAcceptedProgramsAreRuns : Type 0
LogsOfAcceptedProgramsAreRuns =
    (over : ℕ) (program script log_file : Option (List ℕ)) (g : Prog Place) (n : NamedImage) (lines : List ScriptLine) (end : ℕ)
    → IsHeld over program script log_file g n lines end → IsReplayDue program script log_file (told 0 (run_line (length (run_events n lines end))))

-- The law: so it is of the log that a call of `go` has put behind the report, where it answers 0 and
-- the log is not too long.
abbrev pub LogsOfGoAreRuns : Type 0
LogsOfGoAreRuns =
    (over : ℕ) (program script log_file : Option (List ℕ)) (put : List ℕ) (image : Option (List ℕ)) (done : IsDone over program script put image)
    → log_file ≡ Some (log done.built done.lines done.end) → length (log done.built done.lines done.end) ≤ longest_text
    → IsReplayDue program script log_file (told 0 (run_line (length (run_events done.built done.lines done.end))))
