use Rattle.table_law.proofs.Tasks.{bounds_are}
use Rattle.table_law.proofs.agree_law.table_bounds.Goals as goal

pub returns : goal.returns
returns c = bounds_are c.table_ranks.ensures c.table_tasks.ensures
