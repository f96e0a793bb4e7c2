use Rattle.built_tasks_law.proofs.Counts.{ranks_are_of_the_meaning}
use Rattle.built_tasks_law.proofs.ranks_and_ceilings.ranks_are_of_the_meaning.Goals as goal

pub returns : goal.returns
returns c = ranks_are_of_the_meaning
