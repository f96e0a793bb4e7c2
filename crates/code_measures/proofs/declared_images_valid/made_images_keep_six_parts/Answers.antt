use Rattle.code_measures.proofs.Valid.{six_parts}
use Rattle.code_measures.proofs.declared_images_valid.made_images_keep_six_parts.Goals as goal

pub returns : goal.returns
returns c = six_parts
