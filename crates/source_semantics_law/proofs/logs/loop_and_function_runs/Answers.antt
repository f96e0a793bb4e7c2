use Rattle.source_semantics_law.proofs.Rows.{loop_and_function_runs}
use Rattle.source_semantics_law.proofs.logs.loop_and_function_runs.Goals as goal

pub returns : goal.returns
returns c = loop_and_function_runs
