use Rattle.table_law.proofs.Computed.{example_has_its_ranks}
use Rattle.table_law.proofs.example.an_example_has_its_ranks.Goals as goal

pub returns : goal.returns
returns c = example_has_its_ranks
