use Rattle.table_law.proofs.Computed.{example_is_bounded}
use Rattle.table_law.proofs.example.an_example_has_its_bounds.Goals as goal

pub returns : goal.returns
returns c = example_is_bounded c.an_example_has_its_tasks.ensures
