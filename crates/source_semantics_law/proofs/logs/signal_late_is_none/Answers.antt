use Rattle.source_semantics_law.proofs.Refused.{signal_late_is_none}
use Rattle.source_semantics_law.proofs.logs.signal_late_is_none.Goals as goal

pub returns : goal.returns
returns c = signal_late_is_none
