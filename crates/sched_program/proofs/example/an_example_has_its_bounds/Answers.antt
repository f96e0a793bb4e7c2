use Rattle.sched_program.proofs.Bounded.{example_is_bounded}
use Rattle.sched_program.proofs.example.an_example_has_its_bounds.Goals as goal

pub returns : goal.returns
returns c = example_is_bounded c.an_example_has_its_tasks.ensures
