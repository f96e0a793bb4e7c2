use Rattle.sched_program.proofs.Computed.{example_has_its_tasks}
use Rattle.sched_program.proofs.example.an_example_has_its_tasks.Goals as goal

pub returns : goal.returns
returns c = example_has_its_tasks
