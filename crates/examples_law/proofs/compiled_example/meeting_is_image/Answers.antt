use Rattle.code_lifting.proofs.Meeting.{meeting_is_image}
use Rattle.examples_law.proofs.compiled_example.meeting_is_image.Goals as goal

pub returns : goal.returns
returns c = meeting_is_image
