use Rattle.built_valid_law.proofs.BuiltMadeJoined.{built_images_are_made}
use Rattle.built_valid_law.proofs.image_of_program.built_images_are_made.Goals as goal

pub returns : goal.returns
returns c =
    built_images_are_made c.checked_programs_are_ready.ensures c.what_is_made_of_a_checked_program_is_its_code.ensures
    c.least_bounds_are_bounds.ensures c.words_are_few.ensures
