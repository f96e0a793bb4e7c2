use Rattle.std.proofs.Common.{sym, subst}
use Rattle.command_answers.specs.declared.act.PreparedCall.{PreparedCall}
use Rattle.command_answers.specs.declared.status.Status.TheVariants as status
use Rattle.command_answers.specs.Acts.{outcome_of}
use Rattle.command_due.specs.TableDue.{IsTableDue}
use Rattle.command_refusals.specs.Told.{IsTableTold}
use Rattle.command_refusals.proofs.Explaining.{of_line}
use Rattle.table_command.proofs.Told.{refused_line}
use Rattle.table_command.proofs.prepare.refuse.Goals as goal

pub returns-clause-due : goal.returns-clause-due
returns-clause-due c =
    λ text answer. subst (λ (act : PreparedCall). IsTableDue text (outcome_of act)) (sym c.put.ensures) (refused_line c.in_ok-line.line text (c.in_ok-line.ensures.due text answer))

pub returns-clause-told : goal.returns-clause-told
returns-clause-told c =
    λ text is. of_line (λ outcome. IsTableTold c.args.file.now text outcome c.line_of.new.message) status.Text c.in_ok-line.line c.put.result c.put.ensures (c.in_ok-line.ensures.told text is)
