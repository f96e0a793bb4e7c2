use Rattle.built_image_law.proofs.Short.{names_of_texts_are_short}
use Rattle.built_image_law.proofs.names_fit.names_of_texts_are_short.Goals as goal

pub returns : goal.returns
returns c = names_of_texts_are_short c.tokens_in_order.ensures
