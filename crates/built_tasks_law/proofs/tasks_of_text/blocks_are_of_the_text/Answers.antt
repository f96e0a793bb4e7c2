use Rattle.built_tasks_law.proofs.Blocks.{blocks_are}
use Rattle.built_tasks_law.proofs.tasks_of_text.blocks_are_of_the_text.Goals as goal

pub returns : goal.returns
returns c = blocks_are c.routines_call_their_texts.ensures c.processes_call_their_texts.ensures c.ranks_are_of_the_meaning.ensures c.ceilings_are_of_the_meaning.ensures
