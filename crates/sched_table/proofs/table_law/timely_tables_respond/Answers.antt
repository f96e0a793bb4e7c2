use Rattle.sched_table.proofs.Respond.{respond}
use Rattle.sched_table.proofs.table_law.timely_tables_respond.Goals as goal

pub returns : goal.returns
returns c = respond
