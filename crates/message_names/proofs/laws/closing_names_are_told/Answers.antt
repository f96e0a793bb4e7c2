use Rattle.message_names.proofs.Closing.{tells-of-closing}
use Rattle.message_names.proofs.laws.closing_names_are_told.Goals as goal

pub returns : goal.returns
returns c g read = tells-of-closing c.tokens_in_order.ensures g read
