use Rattle.std.proofs.Common.{sym, subst}
use Rattle.command_due.specs.CommandsDue.{IsImageRefused}
use Rattle.command_answers.specs.declared.act.PreparedCall.{PreparedCall}
use Rattle.command_answers.specs.Acts.{outcome_of}
use Rattle.command_images.proofs.Refused.{refused_line}
use Rattle.command_images.proofs.images.refuse_image.Goals as goal

pub returns-clause-due : goal.returns-clause-due
returns-clause-due c =
    λ bytes answer. subst (λ (act : PreparedCall). IsImageRefused bytes (outcome_of act)) (sym c.put.ensures) (refused_line c.in_ok-line.line bytes (c.in_ok-line.ensures.due bytes answer))
