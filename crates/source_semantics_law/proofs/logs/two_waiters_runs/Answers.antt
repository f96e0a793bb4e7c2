use Rattle.source_semantics_law.proofs.Larger.{two_waiters_runs}
use Rattle.source_semantics_law.proofs.logs.two_waiters_runs.Goals as goal

pub returns : goal.returns
returns c = two_waiters_runs
