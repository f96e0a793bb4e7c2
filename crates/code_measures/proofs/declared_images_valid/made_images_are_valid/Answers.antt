use Rattle.code_measures.proofs.Valid.{made_images_are_valid}
use Rattle.code_measures.proofs.declared_images_valid.made_images_are_valid.Goals as goal

pub returns : goal.returns
returns c = made_images_are_valid
