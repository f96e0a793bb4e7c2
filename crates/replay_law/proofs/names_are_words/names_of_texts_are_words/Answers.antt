use Rattle.replay_law.proofs.Named.{names_of_texts_are_words}
use Rattle.replay_law.proofs.names_are_words.names_of_texts_are_words.Goals as goal

pub returns : goal.returns
returns c = names_of_texts_are_words c.names_of_texts_are_identifiers.ensures
