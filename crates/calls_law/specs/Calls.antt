-- Two calls with their files in between. What is due of the later one is told by what the files
-- hold when the earlier one has returned; memory and faults of devices are left aside.
use Rattle.std.specs.Prelude.{◌≡◌, ◌++◌, ℕ, List, [], Some}
use Rattle.outside.specs.Outside.{Outside}
use Rattle.sched_table.specs.Report.{report_text}
use Rattle.script.specs.declared.script.ScriptLine.{ScriptLine}
use Rattle.script.specs.Scripts.{IsScript}
use Rattle.command_due.specs.Source.{report_of}
use Rattle.command_due.specs.CommandsDue.{IsMigrateDue, IsRunDue, Outcome, log, told}
use Rattle.command_answers.specs.Promise.{HasCompiled, HasGone}

-- The law: after `go`, where the script is what it was, `run` of the image and the script is to
-- answer 0 and to put what `go` has put behind its report.
abbrev pub RunAfterGo : Type 0
RunAfterGo = (over : ℕ) (program image script : List ℕ) (before now : Outside) (gone : HasGone over program image script before now) (outcome : Outcome)
    → now.files.held script ≡ before.files.held script → IsRunDue (now.files.held image) (now.files.held script) outcome
    → (outcome.status ≡ 0) × (gone.text ≡ report_of report_text gone.done.built ++ outcome.text)

-- The law: after `compile`, `run` of the image over a script for its names is to answer 0 and to put
-- the log of the image.
abbrev pub RunAfterCompile : Type 0
RunAfterCompile = (over : ℕ) (program image : List ℕ) (before now : Outside) (compiled : HasCompiled over program image before now) (text : List ℕ) (lines : List ScriptLine) (end : ℕ) (outcome : Outcome)
    → IsScript compiled.built.names text lines end → IsRunDue (now.files.held image) (Some text) outcome
    → outcome ≡ told 0 (log compiled.built lines end)

-- The law: after `go`, `migrate` of the image is to answer 0, to put nothing and to store the same
-- bytes.
abbrev pub MigrateAfterGo : Type 0
MigrateAfterGo = (over : ℕ) (program image script : List ℕ) (before now : Outside) (gone : HasGone over program image script before now) (bytes : List ℕ) (outcome : Outcome)
    → now.files.held image ≡ Some bytes → IsMigrateDue bytes outcome
    → outcome ≡ record { status = 0; text = []; image = Some bytes }
