use Rattle.examples_law.proofs.RuledExample.{example_meets}
use Rattle.examples_law.proofs.process_code_example.an_example_meets_the_premises.Goals as goal

pub returns : goal.returns
returns c = λ over. example_meets over
