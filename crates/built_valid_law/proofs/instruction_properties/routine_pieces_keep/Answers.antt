use Rattle.built_valid_law.proofs.EmittedLemmas.{routine_pieces_keep}
use Rattle.built_valid_law.proofs.instruction_properties.routine_pieces_keep.Goals as goal

pub returns : goal.returns
returns c = routine_pieces_keep
