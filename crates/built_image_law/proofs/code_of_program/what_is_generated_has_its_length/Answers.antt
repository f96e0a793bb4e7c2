use Rattle.built_image_law.proofs.GeneratedLemmas.{generated_has_its_length}
use Rattle.built_image_law.proofs.code_of_program.what_is_generated_has_its_length.Goals as goal

pub returns : goal.returns
returns c = generated_has_its_length
