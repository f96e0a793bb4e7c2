use Rattle.command_due_law.proofs.DueOnceImages.{image_refusals_are_one}
use Rattle.command_due_law.proofs.one_answer.image_refusals_are_one.Goals as goal

pub returns : goal.returns
returns c = image_refusals_are_one
