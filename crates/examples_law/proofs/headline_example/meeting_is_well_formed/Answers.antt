use Rattle.examples_law.proofs.MeetingFits.{meeting_is_well_formed}
use Rattle.examples_law.proofs.headline_example.meeting_is_well_formed.Goals as goal

pub returns : goal.returns
returns c = meeting_is_well_formed
