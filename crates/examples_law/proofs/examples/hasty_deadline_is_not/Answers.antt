use Rattle.examples_law.proofs.Small.{hasty_deadline_does_not}
use Rattle.examples_law.proofs.examples.hasty_deadline_is_not.Goals as goal

pub returns : goal.returns
returns c = hasty_deadline_does_not
