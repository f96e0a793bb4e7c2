-- What is due of calls on what `go` and `compile` have put and stored.
use Rattle.std.specs.Prelude.{◌≡◌, ◌≤◌, ℕ, List, Some, length}
use Rattle.event_log.specs.Logs.{longest_text}
use Rattle.script.specs.declared.fault.ScriptFault.{ScriptFault}
use Rattle.command_due.specs.CommandsDue.{IsCompileDue, IsGoDue, IsMigrateDue, IsRunDue, Outcome, bad_script, told}
use Rattle.command_due.specs.AsmDue.{keeps}
use Rattle.command_due.specs.ReplayDue.{IsReplayDue, run_line}
use Rattle.command.specs.Due.{lines_in}
use Rattle.calls_law.specs.Due.{Goes, IsOnly, gone}

-- the largest overhead that a command takes
abbrev pub most_overhead : ℕ
most_overhead = 1000

-- a report is put, and an image is stored
abbrev pub compiles : (report image : List ℕ) → Outcome
compiles report image = record { status = 0; text = report; image = Some image }

-- what `go` comes to with status 0: this report, this log and this image
pub record IsGone (over : ℕ) (program script : List ℕ) (outcome : Outcome) : Type 0 where
  pub report : List ℕ
  pub log : List ℕ
  pub image : List ℕ
  pub goes : Goes over program script report log image
  pub is : outcome ≡ gone report log image

-- The law: whenever what is due of `go` is status 0, it puts the report that `check` puts, and a log
-- behind it.
abbrev pub GoIsCheckAndLog : Type 0
GoIsCheckAndLog =
    (over : ℕ) (program script : List ℕ) (outcome : Outcome) → IsGoDue over (Some program) (Some script) outcome → outcome.status ≡ 0
    → IsGone over program script outcome

-- The law: `compile` puts this report too, and stores the same image.
abbrev pub CompileIsGo : Type 0
CompileIsGo =
    (over : ℕ) (program script report log image : List ℕ) → Goes over program script report log image
    → IsOnly (IsCompileDue over program) (compiles report image)

-- The law: `go` and then `run` of its image over the same script put the same log.
abbrev pub GoThenRunPutsTheLog : Type 0
GoThenRunPutsTheLog =
    (over : ℕ) (program script report log image : List ℕ) → over ≤ most_overhead → Goes over program script report log image
    → IsOnly (IsRunDue (Some image) (Some script)) (told 0 log)

-- The law: `compile` and then `run` put what `go` puts behind its report, or the line of the
-- script's fault that `go` puts.
abbrev pub CompileThenRunPutsTheLog : Type 0
CompileThenRunPutsTheLog =
    (over : ℕ) (program script report log image other shown : List ℕ) → over ≤ most_overhead
    → IsCompileDue over program (compiles shown image) → Goes over program script report log other
    → IsOnly (IsRunDue (Some image) (Some script)) (told 0 log)

abbrev pub CompileThenRunPutsTheFault : Type 0
CompileThenRunPutsTheFault =
    (over : ℕ) (program script report image : List ℕ) (fault : ScriptFault) → over ≤ most_overhead
    → IsCompileDue over program (compiles report image) → IsGoDue over (Some program) (Some script) (bad_script fault)
    → IsOnly (IsRunDue (Some image) (Some script)) (bad_script fault)

-- The law: `migrate` of what `go` or `compile` has stored stores the same bytes.
abbrev pub GoThenMigrateKeeps : Type 0
GoThenMigrateKeeps =
    (over : ℕ) (program script report log image : List ℕ) → over ≤ most_overhead → Goes over program script report log image
    → IsOnly (IsMigrateDue image) (keeps image)

abbrev pub CompileThenMigrateKeeps : Type 0
CompileThenMigrateKeeps =
    (over : ℕ) (program report image : List ℕ) → over ≤ most_overhead → IsCompileDue over program (compiles report image)
    → IsOnly (IsMigrateDue image) (keeps image)

-- The law: `replay` of the log that `go` puts, where this is no longer than a log may be, counts its
-- lines, one for each event.
abbrev pub GoThenReplayCounts : Type 0
GoThenReplayCounts =
    (over : ℕ) (program script report log image : List ℕ) → Goes over program script report log image → length log ≤ longest_text
    → IsOnly (IsReplayDue (Some program) (Some script) (Some log)) (told 0 (run_line (lines_in log)))
