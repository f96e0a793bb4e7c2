use Rattle.source_semantics_law.proofs.Refused.{last_signalled_is_none}
use Rattle.source_semantics_law.proofs.logs.last_signalled_is_none.Goals as goal

pub returns : goal.returns
returns c = last_signalled_is_none
