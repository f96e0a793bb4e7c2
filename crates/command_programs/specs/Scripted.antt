-- What is due of a script's text, where an image that is built is to be run over it: its report
-- stands before the log, and its bytes are stored.
use Rattle.std.specs.Prelude.{ℕ, List, Option, Some}
use Rattle.image.specs.Raw.{named_of}
use Rattle.sched_table.specs.Report.{report_text}
use Rattle.script.specs.declared.script.Script.{Script}
use Rattle.compile.specs.declared.built.Built.{Built}
use Rattle.command_due.specs.CommandsDue.{Outcome, stored}
use Rattle.command_answers.specs.Scripted.{ran, IsRunOver}

abbrev pub report_on : Built → List ℕ
report_on b = report_text b.image.names b.image.program b.table

abbrev pub bytes_for : Built → Option (List ℕ)
bytes_for b = Some (stored (named_of b.image))

abbrev pub built_run : Built → Script → Outcome
built_run b script = ran (report_on b) (bytes_for b) (named_of b.image) script.lines script.end

abbrev pub IsBuiltRunDue : Built → (text : List ℕ) → Outcome → Type 0
IsBuiltRunDue b = IsRunOver (report_on b) (bytes_for b) (named_of b.image)
