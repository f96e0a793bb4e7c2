use Rattle.built_valid_law.proofs.EmittedLemmas.{routines_keep}
use Rattle.built_valid_law.proofs.instruction_properties.routines_keep.Goals as goal

pub returns : goal.returns
returns c = routines_keep
