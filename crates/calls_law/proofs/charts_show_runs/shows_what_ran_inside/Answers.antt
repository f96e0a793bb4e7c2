use Rattle.calls_law.proofs.Running.{shows_what_ran_inside}
use Rattle.calls_law.proofs.charts_show_runs.shows_what_ran_inside.Goals as goal

pub returns : goal.returns
returns c = shows_what_ran_inside
