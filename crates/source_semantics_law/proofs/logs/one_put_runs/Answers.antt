use Rattle.source_semantics_law.proofs.Rows.{one_put_runs}
use Rattle.source_semantics_law.proofs.logs.one_put_runs.Goals as goal

pub returns : goal.returns
returns c = one_put_runs
