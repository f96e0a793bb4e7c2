use Rattle.command_due_law.proofs.Commands.{reports_are_one}
use Rattle.command_due_law.proofs.one_answer.reports_are_one.Goals as goal

pub returns : goal.returns
returns c = reports_are_one c.refusals_are_one.ensures c.timely_texts_are_not_refused.ensures c.timely_texts_have_one_image.ensures
