use Rattle.edf_correct.proofs.Shapes.{answers_are_of_the_image}
use Rattle.edf_correct.proofs.answers_law.answers_are_of_the_image.Goals as goal

pub returns : goal.returns
returns c = answers_are_of_the_image c.shapes_agree.ensures
