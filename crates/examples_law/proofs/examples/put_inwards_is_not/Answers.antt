use Rattle.examples_law.proofs.Small.{put_inwards_does_not}
use Rattle.examples_law.proofs.examples.put_inwards_is_not.Goals as goal

pub returns : goal.returns
returns c = put_inwards_does_not
