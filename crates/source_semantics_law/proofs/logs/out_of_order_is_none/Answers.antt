use Rattle.source_semantics_law.proofs.Refused.{out_of_order_is_none}
use Rattle.source_semantics_law.proofs.logs.out_of_order_is_none.Goals as goal

pub returns : goal.returns
returns c = out_of_order_is_none
