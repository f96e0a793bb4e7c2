use Rattle.std.proofs.Common.{◌∙◌, ap}
use Rattle.command_answers.specs.declared.status.Status.TheVariants as status
use Rattle.command_answers.proofs.Coming.{put_comes_to}
use Rattle.command_due.specs.CommandsDue.{told}
use Rattle.replay.proofs.judge_log.refuse_log.Goals as goal

pub returns-in_ok-log_fault_line-in-Line-clause-told : goal.returns-in_ok-log_fault_line-in-Line-clause-told
returns-in_ok-log_fault_line-in-Line-clause-told c = λ log content. record {
  fault = c.args.fault.now;
  put = put_comes_to status.Log _ c.put.result c.put.ensures ∙ ap (told 9) c.in_ok-log_fault_line-in-Line.ensures;
  is = c.in_ok-message.ensures log content;
}
