use Rattle.sched_theorem.proofs.InTime.{meets_deadlines}
use Rattle.sched_theorem.proofs.Places.{meets_deadlines_at}
use Rattle.sched_theorem.proofs.in_time.activations_meet_deadlines.Goals as goal

pub returns-clause-ranked : goal.returns-clause-ranked
returns-clause-ranked c = meets_deadlines

pub returns-clause-placed : goal.returns-clause-placed
returns-clause-placed c = meets_deadlines_at
