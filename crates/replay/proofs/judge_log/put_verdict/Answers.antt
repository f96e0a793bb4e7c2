use Rattle.std.proofs.Common.{◌∙◌, ap}
use Rattle.command_answers.specs.declared.status.Status.TheVariants as status
use Rattle.command_answers.proofs.Coming.{put_comes_to}
use Rattle.command_due.specs.CommandsDue.{told}
use Rattle.replay.proofs.Telling.{refused_told}
use Rattle.replay.proofs.judge_log.put_verdict.Goals as goal

pub returns-in_ok-refused_line-in-Refused-clause-told : goal.returns-in_ok-refused_line-in-Refused-clause-told
returns-in_ok-refused_line-in-Refused-clause-told c = λ log content short refused.
    refused_told c.args.names.now c.args.file.now log _ _ c.args.judged.now.finding _ _ c.in-Refused.is
    (put_comes_to status.Log _ c.put-in-Refused.result c.put-in-Refused.ensures ∙ ap (told 9) c.in_ok-refused_line-in-Refused.ensures)
    (c.in_ok-message-in-Refused.ensures log content short)
