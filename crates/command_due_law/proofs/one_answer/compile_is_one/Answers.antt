use Rattle.command_due_law.proofs.Commands.{compile_is_one}
use Rattle.command_due_law.proofs.one_answer.compile_is_one.Goals as goal

pub returns : goal.returns
returns c = compile_is_one c.refusals_are_one.ensures c.timely_texts_are_not_refused.ensures c.timely_texts_have_one_image.ensures
