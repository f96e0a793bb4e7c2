use Rattle.table_law.proofs.Tasks.{in_time}
use Rattle.table_law.proofs.agree_law.table_in_time.Goals as goal

pub returns : goal.returns
returns c = in_time c.table_tasks.ensures
