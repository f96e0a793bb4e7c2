use Rattle.sched_program.proofs.Once.{tasks_are_one}
use Rattle.sched_program.proofs.one_judgement.tasks_are_one.Goals as goal

pub returns : goal.returns
returns c = tasks_are_one
