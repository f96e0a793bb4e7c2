use Rattle.built_valid_law.proofs.EmittedLemmas.{lies_in_routine}
use Rattle.built_valid_law.proofs.instruction_properties.routines_own_their_code.Goals as goal

pub returns : goal.returns
returns c = lies_in_routine
