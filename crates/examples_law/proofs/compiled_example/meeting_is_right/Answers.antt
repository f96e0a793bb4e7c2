use Rattle.code_lifting.proofs.MeetingRight.{meeting_is_right}
use Rattle.examples_law.proofs.compiled_example.meeting_is_right.Goals as goal

pub returns : goal.returns
returns c = meeting_is_right
