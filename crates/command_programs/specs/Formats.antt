-- How reports are written.
use Rattle.std.specs.Prelude.{ℕ, List}
use Rattle.sched_table.specs.Report.{report_text}
use Rattle.sched_table.specs.Json.{report_json}
use Rattle.command_due.specs.Source.{Style}
use Rattle.command_words.specs.Calls.{Call, check, json}
use Rattle.command_programs.specs.declared.programs.Format.{Format}
use Rattle.command_programs.specs.declared.programs.Format.TheVariants as format

abbrev pub shown : Format → Style
shown format.Text = report_text
shown format.Json = report_json

-- the call whose report is written so
abbrev pub report_call : Format → (program : List ℕ) (over : ℕ) → Call
report_call format.Text program over = check program over
report_call format.Json program over = json program over
