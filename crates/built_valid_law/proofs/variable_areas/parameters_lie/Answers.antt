use Rattle.built_valid_law.proofs.AreasLemmas.{parameters_lie}
use Rattle.built_valid_law.proofs.variable_areas.parameters_lie.Goals as goal

pub returns : goal.returns
returns c = parameters_lie
