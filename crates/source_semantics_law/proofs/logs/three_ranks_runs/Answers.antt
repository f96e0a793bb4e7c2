use Rattle.source_semantics_law.proofs.Rows.{three_ranks_runs}
use Rattle.source_semantics_law.proofs.logs.three_ranks_runs.Goals as goal

pub returns : goal.returns
returns c = three_ranks_runs
