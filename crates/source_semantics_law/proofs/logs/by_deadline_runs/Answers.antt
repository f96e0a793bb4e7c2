use Rattle.source_semantics_law.proofs.Rows.{by_deadline_runs}
use Rattle.source_semantics_law.proofs.logs.by_deadline_runs.Goals as goal

pub returns : goal.returns
returns c = by_deadline_runs
