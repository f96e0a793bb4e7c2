use Rattle.command_due_law.proofs.Commands.{slack_is_one}
use Rattle.command_due_law.proofs.one_answer.slack_is_one.Goals as goal

pub returns : goal.returns
returns c = slack_is_one c.refusals_are_one.ensures c.timely_texts_are_not_refused.ensures c.timely_texts_have_one_image.ensures c.slack_texts_are_one.ensures
