use Rattle.std.proofs.Common.{sym, subst}
use Rattle.command_due.specs.AsmDue.{IsDisDue}
use Rattle.command_answers.specs.declared.act.PreparedCall.{PreparedCall}
use Rattle.command_answers.specs.Acts.{outcome_of}
use Rattle.command_images.proofs.PrepareImagesTold.{refused_bytes_line}
use Rattle.command_images.proofs.texts.refuse_bytes.Goals as goal

pub returns-clause-due : goal.returns-clause-due
returns-clause-due c =
    λ bytes answer. subst (λ (act : PreparedCall). IsDisDue bytes (outcome_of act)) (sym c.put.ensures) (refused_bytes_line c.in_ok-line.line bytes (c.in_ok-line.ensures.due bytes answer))
