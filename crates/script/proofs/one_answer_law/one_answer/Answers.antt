use Rattle.script.proofs.Faults.{no_both, one_fault}
use Rattle.script.proofs.one_answer_law.one_answer.Goals as goal

pub returns-clause-script : goal.returns-clause-script
returns-clause-script c = no_both

pub returns-clause-fault : goal.returns-clause-fault
returns-clause-fault c = one_fault
