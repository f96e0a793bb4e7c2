use Rattle.command_due_law.proofs.Texts.{timely_texts_are_not_late}
use Rattle.command_due_law.proofs.one_answer.timely_texts_are_not_late.Goals as goal

pub returns : goal.returns
returns c = timely_texts_are_not_late c.written_once.ensures c.timely_or_late.ensures
