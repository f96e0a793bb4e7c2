use Rattle.sched_demand.proofs.Stacking.{kept_by_releases}
use Rattle.sched_demand.proofs.earliest.releases_keep_the_stack.Goals as goal

pub returns : goal.returns
returns c = kept_by_releases
