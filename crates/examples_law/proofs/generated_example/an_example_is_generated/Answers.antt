use Rattle.examples_law.proofs.GeneratedLemmas.{example_is_generated}
use Rattle.examples_law.proofs.generated_example.an_example_is_generated.Goals as goal

pub returns : goal.returns
returns c = example_is_generated
