use Rattle.message_conduct.specs.Told.{round_sentence}
use Rattle.message_conduct.proofs.call_told.add_round.Goals as goal

pub returns : goal.returns
unfolding round_sentence
returns c = c.add_names.ensures
