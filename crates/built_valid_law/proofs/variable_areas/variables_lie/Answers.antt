use Rattle.built_valid_law.proofs.AreasLemmas.{variables_lie}
use Rattle.built_valid_law.proofs.variable_areas.variables_lie.Goals as goal

pub returns : goal.returns
returns c = variables_lie
