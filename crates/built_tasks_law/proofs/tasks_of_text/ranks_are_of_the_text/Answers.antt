use Rattle.built_tasks_law.proofs.Tasks.{ranks_are}
use Rattle.built_tasks_law.proofs.tasks_of_text.ranks_are_of_the_text.Goals as goal

pub returns : goal.returns
returns c = ranks_are c.generated_code_is_code.ensures c.ranks_are_of_the_meaning.ensures
