use Rattle.source_semantics_law.proofs.Refused.{overrun_is_none}
use Rattle.source_semantics_law.proofs.logs.overrun_is_none.Goals as goal

pub returns : goal.returns
returns c = overrun_is_none
