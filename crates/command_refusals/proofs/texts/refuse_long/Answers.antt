use Rattle.std.proofs.lemmas.Result.{IfOk-weaker}
use Rattle.command_due.specs.Source.{fault_line}
use Rattle.command_answers.specs.declared.status.Status.TheVariants as status
use Rattle.command_answers.proofs.Coming.{put_comes_to}
use Rattle.command_refusals.proofs.Long.{long_program}
use Rattle.command_refusals.proofs.texts.refuse_long.Goals as goal

pub returns-clause-told : goal.returns-clause-told
returns-clause-told c =
    IfOk-weaker c.put_fault.result _ _ (λ act is bytes long. record {
      number = c.args.number;
      place = c.args.place;
      put = put_comes_to status.Text (fault_line c.args.number c.args.place) act is;
      is = long_program c.args.file.now bytes c.args.number c.args.place _ c.in_ok-message.ensures long;
    })
    c.put_fault.ensures.act
