use Rattle.std.proofs.Common.{◌∙◌, subst}
use Rattle.std.proofs.lemmas.Result.{IfOk-weaker}
use Rattle.command_answers.specs.declared.reading.Content.{Content}
use Rattle.command_answers.specs.Contents.{IsContent}
use Rattle.table_format.specs.Rules.{longest_text}
use Rattle.table_command.proofs.Long.{long_table}
use Rattle.table_command.proofs.prepare.message_of.Goals as goal

pub returns-in-TooLong : goal.returns-in-TooLong
returns-in-TooLong c =
    IfOk-weaker c.long_message.result _ _ (λ message is text content.
    is ∙ long_table c.args.file.now text c.args.number c.args.line (subst (λ (found : Content). IsContent longest_text found text) c.in-TooLong.is content))
    c.long_message.ensures
