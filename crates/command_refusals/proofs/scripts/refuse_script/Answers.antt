use Rattle.std.proofs.lemmas.Result.{IfOk-weaker}
use Rattle.command_due.specs.Script.{script_fault_line}
use Rattle.command_answers.specs.declared.status.Status.TheVariants as status
use Rattle.command_answers.proofs.Coming.{put_comes_to}
use Rattle.command_refusals.proofs.scripts.refuse_script.Goals as goal

pub returns-clause-told : goal.returns-clause-told
returns-clause-told c =
    IfOk-weaker c.refuse_script.result _ _ (λ act is bytes content. record {
      fault = c.args.fault.now;
      put = put_comes_to status.Script (script_fault_line c.args.fault.now) act is;
      is = c.in_ok-message.ensures bytes content;
    })
    c.refuse_script.ensures.act
