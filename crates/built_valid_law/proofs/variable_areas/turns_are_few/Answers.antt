use Rattle.built_valid_law.proofs.AreasLemmas.{turns_are_few}
use Rattle.built_valid_law.proofs.variable_areas.turns_are_few.Goals as goal

pub returns : goal.returns
returns c = turns_are_few
