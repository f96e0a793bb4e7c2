use Rattle.calls_law.proofs.Running.{one_runs}
use Rattle.calls_law.proofs.charts_show_runs.one_runs.Goals as goal

pub returns : goal.returns
returns c = one_runs
