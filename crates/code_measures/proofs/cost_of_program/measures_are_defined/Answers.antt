use Rattle.code_measures.proofs.CostSizes.{measures_defined}
use Rattle.code_measures.proofs.cost_of_program.measures_are_defined.Goals as goal

pub returns : goal.returns
returns c = measures_defined
