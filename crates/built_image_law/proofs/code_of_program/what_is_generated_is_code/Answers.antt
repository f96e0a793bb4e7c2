use Rattle.built_image_law.proofs.GeneratedLemmas.{generated_is_code}
use Rattle.built_image_law.proofs.code_of_program.what_is_generated_is_code.Goals as goal

pub returns : goal.returns
returns c = generated_is_code
