use Rattle.source_semantics_law.proofs.Larger.{long_wait_runs}
use Rattle.source_semantics_law.proofs.logs.long_wait_runs.Goals as goal

pub returns : goal.returns
returns c = long_wait_runs
