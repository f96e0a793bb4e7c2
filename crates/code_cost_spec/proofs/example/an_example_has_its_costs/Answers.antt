use Rattle.code_cost_spec.proofs.Computed.{example_is}
use Rattle.code_cost_spec.proofs.example.an_example_has_its_costs.Goals as goal

pub returns : goal.returns
returns c = example_is
