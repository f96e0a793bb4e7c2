use Rattle.sched_demand.proofs.Missing.{meets}
use Rattle.sched_demand.proofs.earliest.feasible_runs_meet_deadlines.Goals as goal

pub returns : goal.returns
returns c = meets
