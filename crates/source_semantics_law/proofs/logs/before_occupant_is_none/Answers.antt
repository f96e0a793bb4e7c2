use Rattle.source_semantics_law.proofs.Refused.{before_occupant_is_none}
use Rattle.source_semantics_law.proofs.logs.before_occupant_is_none.Goals as goal

pub returns : goal.returns
returns c = before_occupant_is_none
