use Rattle.std.proofs.Common.{◌∙◌, subst}
use Rattle.std.proofs.lemmas.Result.{IfOk-weaker}
use Rattle.script.specs.Scripts.{longest_text}
use Rattle.command_answers.specs.declared.reading.Content.{Content}
use Rattle.command_answers.specs.Contents.{IsContent}
use Rattle.command_refusals.proofs.Long.{long_script}
use Rattle.command_refusals.proofs.scripts.message_of.Goals as goal

pub returns-in-TooLong : goal.returns-in-TooLong
returns-in-TooLong c =
    IfOk-weaker c.long_message.result _ _ (λ message is bytes content.
    is ∙ long_script c.args.file.now bytes c.args.names.now c.args.fault.now (subst (λ (found : Content). IsContent longest_text found bytes) c.in-TooLong.is content))
    c.long_message.ensures
