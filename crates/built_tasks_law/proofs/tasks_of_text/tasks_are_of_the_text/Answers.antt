use Rattle.built_tasks_law.proofs.Tasks.{tasks_are}
use Rattle.built_tasks_law.proofs.tasks_of_text.tasks_are_of_the_text.Goals as goal

pub returns : goal.returns
returns c = tasks_are c.checked_programs_are_ready.ensures c.generated_code_is_code.ensures c.ranks_are_of_the_text.ensures c.blocks_are_of_the_text.ensures
