use Rattle.edf_correct.proofs.Runs.{compiled_runs_are_runs}
use Rattle.edf_correct.proofs.text_to_runs.compiled_runs_are_runs.Goals as goal

pub returns : goal.returns
returns c = compiled_runs_are_runs
