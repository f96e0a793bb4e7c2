use Rattle.source_semantics_law.proofs.Refused.{release_missing_is_none}
use Rattle.source_semantics_law.proofs.logs.release_missing_is_none.Goals as goal

pub returns : goal.returns
returns c = release_missing_is_none
