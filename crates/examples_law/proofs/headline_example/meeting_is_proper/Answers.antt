use Rattle.examples_law.proofs.MeetingProper.{meeting_is_proper}
use Rattle.examples_law.proofs.headline_example.meeting_is_proper.Goals as goal

pub returns : goal.returns
returns c = meeting_is_proper
