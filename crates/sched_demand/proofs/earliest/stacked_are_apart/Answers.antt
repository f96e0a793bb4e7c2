use Rattle.sched_demand.proofs.Stacking.{apart_of}
use Rattle.sched_demand.proofs.earliest.stacked_are_apart.Goals as goal

pub returns : goal.returns
returns c = apart_of
