use Rattle.source_semantics_law.proofs.Refused.{time_out_late_is_none}
use Rattle.source_semantics_law.proofs.logs.time_out_late_is_none.Goals as goal

pub returns : goal.returns
returns c = time_out_late_is_none
