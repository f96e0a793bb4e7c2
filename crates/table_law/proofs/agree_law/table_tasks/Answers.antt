use Rattle.table_law.proofs.Tasks.{tasks_are}
use Rattle.table_law.proofs.agree_law.table_tasks.Goals as goal

pub returns : goal.returns
returns c = tasks_are c.table_costs.ensures.processes c.table_costs.ensures.costs c.table_frames.ensures.frames c.table_frames.ensures.deadlines c.table_ranks.ensures c.table_blocks.ensures
