use Rattle.source_semantics_law.proofs.Rows.{least_word_runs}
use Rattle.source_semantics_law.proofs.logs.least_word_runs.Goals as goal

pub returns : goal.returns
returns c = least_word_runs
