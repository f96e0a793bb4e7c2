use Rattle.source_semantics_law.proofs.Refused.{ends_early_is_none}
use Rattle.source_semantics_law.proofs.logs.ends_early_is_none.Goals as goal

pub returns : goal.returns
returns c = ends_early_is_none
