use Rattle.sched_program.proofs.There.{tasks_are_there}
use Rattle.sched_program.proofs.one_judgement.tasks_are_there.Goals as goal

pub returns : goal.returns
returns c = tasks_are_there
