use Rattle.source_semantics_law.proofs.Others.{others_stay}
use Rattle.source_semantics_law.proofs.determinism.other_processes_stay.Goals as goal

pub returns : goal.returns
returns c = λ g s d t k n j apart. others_stay g s d t k n j apart
