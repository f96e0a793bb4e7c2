use Rattle.table_law.proofs.Once.{no_fault}
use Rattle.table_law.proofs.once_law.tables_have_no_fault.Goals as goal

pub returns : goal.returns
returns c = no_fault
