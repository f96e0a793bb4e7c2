use Rattle.examples_law.proofs.Small.{endless_does_not}
use Rattle.examples_law.proofs.examples.endless_is_not.Goals as goal

pub returns : goal.returns
returns c = endless_does_not
