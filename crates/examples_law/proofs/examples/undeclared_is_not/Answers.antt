use Rattle.examples_law.proofs.Small.{undeclared_does_not}
use Rattle.examples_law.proofs.examples.undeclared_is_not.Goals as goal

pub returns : goal.returns
returns c = undeclared_does_not
