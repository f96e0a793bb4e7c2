use Rattle.std.proofs.Common.{◌∙◌, List, ℕ, subst, sym}
use Rattle.std.proofs.lemmas.Result.{IfOk-weaker}
use Rattle.syntax.specs.Tokens.{longest_text}
use Rattle.command_answers.specs.declared.reading.Content.{Content}
use Rattle.command_answers.specs.Acts.{outcome_of}
use Rattle.command_answers.specs.Contents.{IsContent}
use Rattle.command_refusals.specs.Told.{IsTextTold}
use Rattle.command_refusals.proofs.texts.refuse_text.Goals as goal

pub returns-in-Bytes-clause-told : goal.returns-in-Bytes-clause-told
returns-in-Bytes-clause-told c =
    IfOk-weaker c.refuse_bytes.result _ _ (λ act told bytes content.
    subst (λ (t : List ℕ). IsTextTold c.args.file.now t (outcome_of act) c.refuse_bytes.new.message)
    (c.as_slice.ensures.value ∙ sym (subst (λ (found : Content). IsContent longest_text found bytes) c.in-Bytes.is content)) told)
    c.refuse_bytes.ensures.told

pub returns-in-TooLong-clause-told : goal.returns-in-TooLong-clause-told
returns-in-TooLong-clause-told c =
    IfOk-weaker c.refuse_long.result _ _ (λ act told bytes content. told bytes (subst (λ (found : Content). IsContent longest_text found bytes) c.in-TooLong.is content))
    c.refuse_long.ensures.told
