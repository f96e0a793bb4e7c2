use Rattle.examples_law.proofs.Headline.{meeting_is_right_and_in_time}
use Rattle.examples_law.proofs.headline_example.meeting_is_right_and_in_time.Goals as goal

pub returns : goal.returns
returns c = meeting_is_right_and_in_time
