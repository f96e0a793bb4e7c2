-- What verdicts are told by.
use Rattle.std.specs.Prelude.{ℕ, List}
use Rattle.command_answers.specs.declared.status.Status.{Status}
use Rattle.command_answers.specs.declared.status.Status.TheVariants as status
use Rattle.command_due.specs.ReplayDue.{refused_line, run_line}
use Rattle.source_semantics.specs.declared.verdict.Verdict.{Verdict}
use Rattle.source_semantics.specs.declared.verdict.Verdict.TheVariants as verdict

abbrev pub status_of : Verdict → Status
status_of verdict.Run = status.Done
status_of (verdict.Refused line) = status.Log

-- of a log of so many events
abbrev pub line_of : Verdict → (count : ℕ) → List ℕ
line_of verdict.Run count = run_line count
line_of (verdict.Refused line) count = refused_line line
