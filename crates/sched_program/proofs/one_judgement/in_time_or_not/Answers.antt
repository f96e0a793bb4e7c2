use Rattle.sched_program.proofs.Decided.{in_time_or_not}
use Rattle.sched_program.proofs.one_judgement.in_time_or_not.Goals as goal

pub returns : goal.returns
returns c = in_time_or_not c.tasks_are_there.ensures
