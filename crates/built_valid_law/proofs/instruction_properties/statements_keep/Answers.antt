use Rattle.built_valid_law.proofs.EmittedLemmas.{statements_keep}
use Rattle.built_valid_law.proofs.instruction_properties.statements_keep.Goals as goal

pub returns : goal.returns
returns c = statements_keep
