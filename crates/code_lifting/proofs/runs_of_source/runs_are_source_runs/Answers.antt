use Rattle.code_lifting.proofs.Runs.{runs_are_source_runs}
use Rattle.code_lifting.proofs.runs_of_source.runs_are_source_runs.Goals as goal

pub returns : goal.returns
returns c = runs_are_source_runs
