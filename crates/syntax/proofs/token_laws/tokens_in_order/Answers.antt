use Rattle.syntax.proofs.LawLemmas.{stand_in_order}
use Rattle.syntax.proofs.token_laws.tokens_in_order.Goals as goal

pub returns : goal.returns
returns c = stand_in_order
