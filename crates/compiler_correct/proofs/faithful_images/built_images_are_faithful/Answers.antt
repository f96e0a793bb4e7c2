use Rattle.compiler_correct.proofs.Joined.{built_images_are_faithful}
use Rattle.compiler_correct.proofs.faithful_images.built_images_are_faithful.Goals as goal

pub returns : goal.returns
returns c =
    built_images_are_faithful c.checked_programs_are_ready.ensures c.programs_that_keep_sizes_are_small.ensures c.built_images_are_made.ensures
    c.built_images_are_in_limits.ensures c.made_images_are_faithful.ensures
