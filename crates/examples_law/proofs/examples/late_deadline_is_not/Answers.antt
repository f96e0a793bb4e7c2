use Rattle.examples_law.proofs.Small.{late_deadline_does_not}
use Rattle.examples_law.proofs.examples.late_deadline_is_not.Goals as goal

pub returns : goal.returns
returns c = late_deadline_does_not
