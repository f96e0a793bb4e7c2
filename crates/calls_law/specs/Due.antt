-- What is due of one call alone.
use Rattle.std.specs.Prelude.{◌≡◌, ◌++◌, ℕ, List, Some}
use Rattle.sched_table.specs.Report.{report_text}
use Rattle.command_due.specs.CommandsDue.{IsGoDue, IsReportDue, Outcome, told}

-- the outcome is due, and no other is
pub record IsOnly (due : Outcome → Type 0) (outcome : Outcome) : Type 0 where
  pub is : due outcome
  pub only : (other : Outcome) → due other → other ≡ outcome

-- a report and a log are put, and an image is stored
abbrev pub gone : (report log image : List ℕ) → Outcome
gone report log image = record { status = 0; text = report ++ log; image = Some image }

-- `go` accepts: it puts the report that `check` puts and a log behind it, and it stores an image
pub record Goes (over : ℕ) (program script report log image : List ℕ) : Type 0 where
  pub checks : IsReportDue report_text over program (told 0 report)
  pub goes : IsGoDue over (Some program) (Some script) (gone report log image)
