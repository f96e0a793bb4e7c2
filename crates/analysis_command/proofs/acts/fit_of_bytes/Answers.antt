use Rattle.std.proofs.Common.{sym, subst, ap}
use Rattle.std.proofs.lemmas.Result.{IfOk-weaker}
use Rattle.command_due.specs.FitDue.{IsFitDue}
use Rattle.command_due.specs.Source.{fault_line}
use Rattle.command_answers.specs.declared.act.PreparedCall.{PreparedCall}
use Rattle.command_answers.specs.declared.status.Status.TheVariants as status
use Rattle.command_answers.specs.Acting.{puts}
use Rattle.command_answers.specs.Acts.{number_of, outcome_of}
use Rattle.command_answers.proofs.Judged.{of_made}
use Rattle.analysis_command.proofs.Due.{fault_of, fit_fault, fit_told}
use Rattle.analysis_command.proofs.acts.fit_of_bytes.Goals as goal

pub returns-in-Ok-clause-due : goal.returns-in-Ok-clause-due
returns-in-Ok-clause-due c =
    let is = c.in-Ok.ensures.fits in
    subst (λ (act : PreparedCall). IsFitDue c.args.over c.args.text.now (outcome_of act)) (sym c.put.ensures) (fit_told c.args.over c.args.text.now is.tree c.in-Ok.fits is.written is.told)

pub returns-in-Ok-clause-told : goal.returns-in-Ok-clause-told
returns-in-Ok-clause-told c = λ refused. absurd (refused (ap (λ (act : PreparedCall). number_of act.status) c.put.ensures))

pub returns-in-Err-Text-clause-due : goal.returns-in-Err-Text-clause-due
returns-in-Err-Text-clause-due c =
    of_made c.refuse_bytes.result (puts status.Text (fault_line c.in-Err-Text.number c.in-Err-Text.place)) (λ act. IsFitDue c.args.over c.args.text.now (outcome_of act)) c.refuse_bytes.ensures.act
    (fit_fault c.args.over c.args.text.now c.in-Err-Text.number c.in-Err-Text.place
    (fault_of c.in-Err-Text.field-0 c.in-Err-Text.number c.in-Err-Text.place c.in-Err-Text.field-0-is c.args.text.now c.in-Err-Text.ensures.fault))

pub returns-in-Err-Text-clause-told : goal.returns-in-Err-Text-clause-told
returns-in-Err-Text-clause-told c = IfOk-weaker c.refuse_bytes.result _ _ (λ act told refused. told) c.refuse_bytes.ensures.told
