use Rattle.command_due_law.proofs.Texts.{timely_texts_are_not_refused}
use Rattle.command_due_law.proofs.one_answer.timely_texts_are_not_refused.Goals as goal

pub returns : goal.returns
returns c = timely_texts_are_not_refused c.written_or_faulty.ensures c.timely_texts_are_not_late.ensures
