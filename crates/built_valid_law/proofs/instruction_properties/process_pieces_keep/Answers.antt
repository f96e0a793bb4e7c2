use Rattle.built_valid_law.proofs.EmittedLemmas.{process_pieces_keep}
use Rattle.built_valid_law.proofs.instruction_properties.process_pieces_keep.Goals as goal

pub returns : goal.returns
returns c = process_pieces_keep
