use Rattle.examples_law.proofs.QuietExample.{example_reaches}
use Rattle.examples_law.proofs.wait_free_example.an_example_reaches.Goals as goal

pub returns : goal.returns
returns c = example_reaches
