use Rattle.command_due_law.proofs.Told.{dis_is_one}
use Rattle.command_due_law.proofs.one_answer.dis_is_one.Goals as goal

pub returns : goal.returns
returns c = dis_is_one
