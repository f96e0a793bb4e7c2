use Rattle.sched_demand.proofs.Missing.{missed_passes}
use Rattle.sched_demand.proofs.earliest.missed_deadlines_pass_a_point.Goals as goal

pub returns : goal.returns
returns c = λ ts rank place end due reach p r tasks are run short reaches within below active missed. missed_passes ts rank place end due reach r tasks are run short reaches within p below active missed
