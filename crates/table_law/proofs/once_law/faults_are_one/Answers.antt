use Rattle.table_law.proofs.Single.{one_fault}
use Rattle.table_law.proofs.once_law.faults_are_one.Goals as goal

pub returns : goal.returns
returns c = one_fault
