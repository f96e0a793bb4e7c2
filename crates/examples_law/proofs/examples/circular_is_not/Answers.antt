use Rattle.examples_law.proofs.Small.{circular_does_not}
use Rattle.examples_law.proofs.examples.circular_is_not.Goals as goal

pub returns : goal.returns
returns c = circular_does_not
