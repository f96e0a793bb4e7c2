use Rattle.sched_program.proofs.Overheads.{added, in_time}
use Rattle.sched_program.proofs.why_law.overheads_are_added.Goals as goal

pub returns-clause-tasks : goal.returns-clause-tasks
returns-clause-tasks c = added

pub returns-clause-in_time : goal.returns-clause-in_time
returns-clause-in_time c = in_time
