use Rattle.source_semantics_law.proofs.Rows.{raise_inside_runs}
use Rattle.source_semantics_law.proofs.logs.raise_inside_runs.Goals as goal

pub returns : goal.returns
returns c = raise_inside_runs
