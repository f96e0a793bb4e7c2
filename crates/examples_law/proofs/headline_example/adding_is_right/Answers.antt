use Rattle.examples_law.proofs.Adding.{adding_is_right}
use Rattle.examples_law.proofs.headline_example.adding_is_right.Goals as goal

pub returns : goal.returns
returns c = adding_is_right
