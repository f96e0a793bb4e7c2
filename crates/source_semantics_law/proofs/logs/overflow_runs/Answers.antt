use Rattle.source_semantics_law.proofs.Rows.{overflow_runs}
use Rattle.source_semantics_law.proofs.logs.overflow_runs.Goals as goal

pub returns : goal.returns
returns c = overflow_runs
