use Rattle.std.proofs.Common.{ℕ, List, Err}
use Rattle.command_answers.specs.Contents.{IsContent}
use Rattle.command_answers.proofs.Judged.{of_made}
use Rattle.command_due.specs.CommandsDue.{told}
use Rattle.command_due.specs.TableDue.{IsTableDue, table_fault_line}
use Rattle.table_format.specs.Rules.{longest_text}
use Rattle.table_reader.specs.Answer.{Answers}
use Rattle.table_command.proofs.Told.{faulty_table, told_table}
use Rattle.table_command.proofs.prepare.line_of.Goals as goal

pub returns-in_ok-message-in-Bad-clause-due : goal.returns-in_ok-message-in-Bad-clause-due
returns-in_ok-message-in-Bad-clause-due c =
    of_made c.table_fault_line.result (table_fault_line c.in-Bad.number c.in-Bad.line) (λ line. (text : List ℕ) → Answers text (Err c.args.fault) → IsTableDue text (told 2 line))
    c.table_fault_line.ensures (faulty_table c.args.fault c.in-Bad.number c.in-Bad.line c.in-Bad.is)

pub returns-in_ok-message-in-Bad-clause-told : goal.returns-in_ok-message-in-Bad-clause-told
returns-in_ok-message-in-Bad-clause-told c =
    told_table c.args.file.now _ c.in-Bad.number c.in-Bad.line (IsContent longest_text c.args.content.now) c.table_fault_line.result c.table_fault_line.ensures c.in_ok-message-in-Bad.ensures
