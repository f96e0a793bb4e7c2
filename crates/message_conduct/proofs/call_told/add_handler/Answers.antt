use Rattle.message_conduct.specs.Told.{handler_sentence}
use Rattle.message_conduct.proofs.call_told.add_handler.Goals as goal

pub returns : goal.returns
unfolding handler_sentence
returns c = c.add_among.ensures
