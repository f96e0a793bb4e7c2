use Rattle.command_due_law.proofs.Judged.{judged_once}
use Rattle.command_due_law.proofs.one_edf_answer.answers_are_one.Goals as goal

pub returns : goal.returns
returns c = judged_once c.each_set_has_one_reach.ensures.one
