use Rattle.sched_sensitivity.proofs.Changed.{within_deadline}
use Rattle.sched_sensitivity.proofs.fit_law.what_fits_is_within_the_deadline.Goals as goal

pub returns : goal.returns
returns c = within_deadline
