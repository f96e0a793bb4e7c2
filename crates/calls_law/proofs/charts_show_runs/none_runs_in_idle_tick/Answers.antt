use Rattle.calls_law.proofs.Running.{none_runs_in_idle_tick}
use Rattle.calls_law.proofs.charts_show_runs.none_runs_in_idle_tick.Goals as goal

pub returns : goal.returns
returns c = none_runs_in_idle_tick
