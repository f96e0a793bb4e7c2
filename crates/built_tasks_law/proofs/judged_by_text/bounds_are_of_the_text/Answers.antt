use Rattle.built_tasks_law.proofs.Judged.{bounds_are_of_the_text}
use Rattle.built_tasks_law.proofs.judged_by_text.bounds_are_of_the_text.Goals as goal

pub returns : goal.returns
returns c = bounds_are_of_the_text c.tasks_are_of_the_text.ensures c.ranks_are_of_the_text.ensures
