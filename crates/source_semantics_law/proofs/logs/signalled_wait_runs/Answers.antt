use Rattle.source_semantics_law.proofs.Rows.{signalled_wait_runs}
use Rattle.source_semantics_law.proofs.logs.signalled_wait_runs.Goals as goal

pub returns : goal.returns
returns c = signalled_wait_runs
