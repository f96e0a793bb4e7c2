use Rattle.code_measures.proofs.WholeLength.{code_has_its_length}
use Rattle.code_measures.proofs.declared_images_valid.code_has_its_length.Goals as goal

pub returns : goal.returns
returns c = code_has_its_length
