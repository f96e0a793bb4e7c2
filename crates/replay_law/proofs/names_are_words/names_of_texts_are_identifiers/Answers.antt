use Rattle.replay_law.proofs.Identifiers.{names_of_texts_are_identifiers}
use Rattle.replay_law.proofs.names_are_words.names_of_texts_are_identifiers.Goals as goal

pub returns : goal.returns
returns c = names_of_texts_are_identifiers c.tokens_in_order.ensures
