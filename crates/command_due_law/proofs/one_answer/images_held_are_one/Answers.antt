use Rattle.command_due_law.proofs.DueOnceImages.{images_held_are_one}
use Rattle.command_due_law.proofs.one_answer.images_held_are_one.Goals as goal

pub returns : goal.returns
returns c = images_held_are_one
