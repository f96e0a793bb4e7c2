use Rattle.message_names.proofs.Programs.{tells-of-uses}
use Rattle.message_names.proofs.laws.uses_are_told.Goals as goal

pub returns : goal.returns
returns c g read name place want means at alone = tells-of-uses c.tokens_in_order.ensures g read name place want means at alone
