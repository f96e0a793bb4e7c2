use Rattle.table_law.proofs.Once.{one_table}
use Rattle.table_law.proofs.once_law.texts_are_one_table.Goals as goal

pub returns : goal.returns
returns c = one_table
