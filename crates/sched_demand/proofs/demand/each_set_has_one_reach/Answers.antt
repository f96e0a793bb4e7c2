use Rattle.sched_demand.proofs.Rising.{one_reach}
use Rattle.sched_demand.proofs.Reached.{reached}
use Rattle.sched_demand.proofs.demand.each_set_has_one_reach.Goals as goal

pub returns-clause-some : goal.returns-clause-some
returns-clause-some c = reached

pub returns-clause-one : goal.returns-clause-one
returns-clause-one c = one_reach
