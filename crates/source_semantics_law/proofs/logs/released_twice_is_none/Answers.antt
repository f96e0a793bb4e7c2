use Rattle.source_semantics_law.proofs.Refused.{released_twice_is_none}
use Rattle.source_semantics_law.proofs.logs.released_twice_is_none.Goals as goal

pub returns : goal.returns
returns c = released_twice_is_none
