use Rattle.replay_law.proofs.Sound.{names_of_programs_are_sound}
use Rattle.replay_law.proofs.names_unambiguous.names_of_programs_are_sound.Goals as goal

pub returns : goal.returns
returns c =
    names_of_programs_are_sound c.names_are_found.ensures c.declarations_are_listed.ensures.names c.names_of_texts_are_identifiers.ensures
    c.names_of_texts_are_words.ensures
