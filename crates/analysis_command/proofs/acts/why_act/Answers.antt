use Rattle.std.proofs.Common.{List, ℕ, inl, sym, subst}
use Rattle.std.specs.Prelude.{IfOk}
use Rattle.std.proofs.lemmas.Result.{IfOk-weaker}
use Rattle.syntax.specs.Tokens.{longest_text}
use Rattle.front_end.specs.Source.{start}
use Rattle.command_due.specs.WhyDue.{IsWhyDue}
use Rattle.command_due.specs.Source.{fault_line}
use Rattle.command_answers.specs.declared.reading.Content.{Content}
use Rattle.command_answers.specs.declared.status.Status.TheVariants as status
use Rattle.command_answers.specs.Acting.{puts}
use Rattle.command_answers.specs.Acts.{outcome_of}
use Rattle.command_answers.specs.Contents.{IsContent}
use Rattle.command_answers.proofs.Judged.{of_made}
use Rattle.command_refusals.specs.Refusals.{Explains}
use Rattle.command_refusals.specs.Told.{IsProgramTold}
use Rattle.analysis_command.proofs.Due.{long_fault, of_bytes, why_fault}
use Rattle.analysis_command.proofs.acts.why_act.Goals as goal

pub returns-in-Bytes-clause-due : goal.returns-in-Bytes-clause-due
returns-in-Bytes-clause-due c =
    subst (λ (found : Content). IfOk c.why_of_bytes.result (λ act. (text : List ℕ) → IsContent longest_text found text → IsWhyDue c.args.over text (outcome_of act))) (sym c.in-Bytes.is)
    (of_bytes (λ text act. IsWhyDue c.args.over text (outcome_of act)) c.in-Bytes.text.items c.as_slice.result.now c.why_of_bytes.result c.as_slice.ensures.value c.why_of_bytes.ensures.due)

pub returns-in-TooLong-clause-due : goal.returns-in-TooLong-clause-due
returns-in-TooLong-clause-due c =
    of_made c.refuse_text.result (puts status.Text (fault_line 4 start)) (λ act. (text : List ℕ) → IsContent longest_text c.args.content.now text → IsWhyDue c.args.over text (outcome_of act))
    c.refuse_text.ensures.act
    (λ text long. why_fault c.args.over text 4 start (long_fault text (subst (λ (found : Content). IsContent longest_text found text) c.in-TooLong.is long)))

pub returns-in-Bytes-clause-told : goal.returns-in-Bytes-clause-told
returns-in-Bytes-clause-told c =
    subst (λ (found : Content). IfOk c.why_of_bytes.result (λ act. (text : List ℕ) → IsContent longest_text found text → Explains (IsProgramTold c.args.over c.args.file.now text (outcome_of act) c.why_of_bytes.new.message) act)) (sym c.in-Bytes.is)
    (of_bytes (λ text act. Explains (IsProgramTold c.args.over c.args.file.now text (outcome_of act) c.why_of_bytes.new.message) act) c.in-Bytes.text.items c.as_slice.result.now c.why_of_bytes.result c.as_slice.ensures.value
    c.why_of_bytes.ensures.told)

pub returns-in-TooLong-clause-told : goal.returns-in-TooLong-clause-told
returns-in-TooLong-clause-told c = IfOk-weaker c.refuse_text.result _ _ (λ act told text is refused. inl (told text is)) c.refuse_text.ensures.told
