use Rattle.std.proofs.Common.{arith, subst}
use Rattle.std.proofs.lemmas.Result.{IfOk-weaker}
use Rattle.event_log.specs.Logs.{longest_text}
use Rattle.command_answers.specs.declared.reading.Content.{Content}
use Rattle.command_answers.specs.Contents.{IsContent}
use Rattle.replay.proofs.judge_log.message_of_refused.Goals as goal

pub returns-in-TooLong : goal.returns-in-TooLong
returns-in-TooLong c =
    IfOk-weaker c.long_message.result _ _ (λ message is log content short.
    let long = subst (λ (found : Content). IsContent longest_text found log) c.in-TooLong.is content in absurd (omega (arith, long, short)))
    c.long_message.ensures
