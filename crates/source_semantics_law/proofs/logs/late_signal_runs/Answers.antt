use Rattle.source_semantics_law.proofs.Rows.{late_signal_runs}
use Rattle.source_semantics_law.proofs.logs.late_signal_runs.Goals as goal

pub returns : goal.returns
returns c = late_signal_runs
