use Rattle.source_semantics_law.proofs.Rows.{handled_range_runs}
use Rattle.source_semantics_law.proofs.logs.handled_range_runs.Goals as goal

pub returns : goal.returns
returns c = handled_range_runs
