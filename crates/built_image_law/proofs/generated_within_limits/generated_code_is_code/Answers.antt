use Rattle.built_image_law.proofs.SmallLemmas.{is_code}
use Rattle.built_image_law.proofs.generated_within_limits.generated_code_is_code.Goals as goal

pub returns : goal.returns
returns c = is_code c.programs_that_keep_sizes_are_small.ensures c.what_is_made_of_a_checked_program_is_its_code.ensures
