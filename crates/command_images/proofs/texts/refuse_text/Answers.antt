use Rattle.std.proofs.Common.{sym, subst}
use Rattle.command_due.specs.AsmDue.{IsAsmDue}
use Rattle.command_answers.specs.declared.act.PreparedCall.{PreparedCall}
use Rattle.command_answers.specs.Acts.{outcome_of}
use Rattle.command_images.proofs.PrepareImagesTold.{refused_text_line}
use Rattle.command_images.proofs.texts.refuse_text.Goals as goal

pub returns-clause-due : goal.returns-clause-due
returns-clause-due c =
    λ text answer. subst (λ (act : PreparedCall). IsAsmDue text (outcome_of act)) (sym c.put.ensures) (refused_text_line c.in_ok-line.line text (c.in_ok-line.ensures.due text answer))
