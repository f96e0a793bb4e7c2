use Rattle.sched_program.proofs.Once.{never_in_time_and_not}
use Rattle.sched_program.proofs.one_judgement.never_in_time_and_not.Goals as goal

pub returns : goal.returns
returns c = never_in_time_and_not c.tasks_are_one.ensures
