use Rattle.edf_semantics.proofs.Two.{premise, deadlines}
use Rattle.edf_semantics.proofs.example_in_time.two_processes.Goals as goal

pub returns-clause-premise : goal.returns-clause-premise
returns-clause-premise c = premise

pub returns-clause-deadlines : goal.returns-clause-deadlines
returns-clause-deadlines c = deadlines
