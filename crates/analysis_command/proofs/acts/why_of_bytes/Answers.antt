use Rattle.std.proofs.Common.{inl, inr}
use Rattle.std.proofs.lemmas.Result.{IfOk-weaker}
use Rattle.command_due.specs.Source.{fault_line}
use Rattle.command_due.specs.WhyDue.{IsWhyDue}
use Rattle.command_answers.specs.declared.status.Status.TheVariants as status
use Rattle.command_answers.specs.Acting.{puts}
use Rattle.command_answers.specs.Acts.{outcome_of}
use Rattle.command_answers.proofs.Judged.{of_made}
use Rattle.analysis_command.proofs.Due.{fault_of, why_fault}
use Rattle.analysis_command.proofs.acts.why_of_bytes.Goals as goal

pub returns-in-Ok-clause-due : goal.returns-in-Ok-clause-due
returns-in-Ok-clause-due c = IfOk-weaker c.put_why.result _ _ (λ act due. due c.args.text.now c.in-Ok.ensures.bounds) c.put_why.ensures.due

pub returns-in-Ok-clause-told : goal.returns-in-Ok-clause-told
returns-in-Ok-clause-told c = IfOk-weaker c.put_why.result _ _ (λ act told refused. inr (told c.args.text.now c.in-Ok.ensures.bounds refused)) c.put_why.ensures.told

pub returns-in-Err-Text-clause-due : goal.returns-in-Err-Text-clause-due
returns-in-Err-Text-clause-due c =
    of_made c.refuse_bytes.result (puts status.Text (fault_line c.in-Err-Text.number c.in-Err-Text.place)) (λ act. IsWhyDue c.args.over c.args.text.now (outcome_of act)) c.refuse_bytes.ensures.act
    (why_fault c.args.over c.args.text.now c.in-Err-Text.number c.in-Err-Text.place
    (fault_of c.in-Err-Text.field-0 c.in-Err-Text.number c.in-Err-Text.place c.in-Err-Text.field-0-is c.args.text.now c.in-Err-Text.ensures.fault))

pub returns-in-Err-Text-clause-told : goal.returns-in-Err-Text-clause-told
returns-in-Err-Text-clause-told c = IfOk-weaker c.refuse_bytes.result _ _ (λ act told refused. inl told) c.refuse_bytes.ensures.told
