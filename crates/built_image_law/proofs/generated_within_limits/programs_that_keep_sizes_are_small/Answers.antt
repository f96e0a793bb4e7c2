use Rattle.built_image_law.proofs.SmallLemmas.{small}
use Rattle.built_image_law.proofs.generated_within_limits.programs_that_keep_sizes_are_small.Goals as goal

pub returns : goal.returns
returns c = small c.checked_programs_are_ready.ensures
