use Rattle.sched_sensitivity.proofs.Changed.{falls}
use Rattle.sched_sensitivity.proofs.fit_law.less_fits_too.Goals as goal

pub returns : goal.returns
returns c = falls
