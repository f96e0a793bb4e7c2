use Rattle.sched_sensitivity.proofs.Laws.{has_none, has_some}
use Rattle.sched_sensitivity.proofs.fit_law.tasks_in_time_have_what_fits.Goals as goal

pub returns-clause-some : goal.returns-clause-some
returns-clause-some c = has_some

pub returns-clause-none : goal.returns-clause-none
returns-clause-none c = has_none
