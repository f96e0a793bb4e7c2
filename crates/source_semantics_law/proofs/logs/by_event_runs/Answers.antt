use Rattle.source_semantics_law.proofs.Rows.{by_event_runs}
use Rattle.source_semantics_law.proofs.logs.by_event_runs.Goals as goal

pub returns : goal.returns
returns c = by_event_runs
