use Rattle.std.proofs.Common.{sym, subst}
use Rattle.command_due.specs.SpareDue.{IsSlackDue}
use Rattle.command_answers.specs.declared.act.PreparedCall.{PreparedCall}
use Rattle.command_answers.specs.Acts.{outcome_of}
use Rattle.command_programs.proofs.Refused.{told_slack}
use Rattle.command_programs.proofs.programs.put_slack.Goals as goal

pub returns-clause-due : goal.returns-clause-due
returns-clause-due c =
    λ over text image. subst (λ (act : PreparedCall). IsSlackDue over text (outcome_of act)) (sym c.put.ensures) (told_slack over text c.args.built.now c.in_ok-text.text image c.in_ok-text.ensures)
