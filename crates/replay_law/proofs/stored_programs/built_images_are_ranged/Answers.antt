use Rattle.replay_law.proofs.Joined.{ranged}
use Rattle.replay_law.proofs.stored_programs.built_images_are_ranged.Goals as goal

pub returns : goal.returns
returns c =
    ranged c.checked_programs_are_ready.ensures c.programs_that_keep_sizes_are_small.ensures c.built_images_are_made.ensures c.built_images_are_ready.ensures c.code_has_its_length.ensures
    c.names_of_texts_are_identifiers.ensures c.made_code_has_words.ensures c.names_are_found.ensures c.declarations_are_listed.ensures.names
