use Rattle.sched_sensitivity.proofs.Laws.{is_slack}
use Rattle.sched_sensitivity.proofs.fit_law.the_cost_that_fits_is_the_cost_and_the_slack.Goals as goal

pub returns : goal.returns
returns c = is_slack
