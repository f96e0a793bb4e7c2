use Rattle.message_names.proofs.Programs.{tells-of-declarations}
use Rattle.message_names.proofs.laws.declarations_are_told.Goals as goal

pub returns : goal.returns
returns c g read name place taken at = tells-of-declarations c.tokens_in_order.ensures g read name place taken at
