use Rattle.command_due_law.proofs.EdfDueOnceImages.{images_are_one}
use Rattle.command_due_law.proofs.one_edf_answer.edf_images_are_one.Goals as goal

pub returns : goal.returns
returns c = images_are_one c.shapes_agree.ensures
