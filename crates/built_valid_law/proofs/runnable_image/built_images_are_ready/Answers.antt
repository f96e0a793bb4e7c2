use Rattle.built_valid_law.proofs.BuiltReadyJoined.{built_images_are_ready}
use Rattle.built_valid_law.proofs.runnable_image.built_images_are_ready.Goals as goal

pub returns : goal.returns
returns c =
    built_images_are_ready c.checked_programs_are_ready.ensures c.programs_that_keep_sizes_are_small.ensures c.built_images_are_made.ensures
    c.built_images_are_in_limits.ensures c.checked_images_are_valid.ensures c.valid_operands_are_there.ensures c.valid_meets_premises.ensures
    c.code_has_its_length.ensures c.names_of_texts_are_short.ensures c.names_have_frames.ensures
