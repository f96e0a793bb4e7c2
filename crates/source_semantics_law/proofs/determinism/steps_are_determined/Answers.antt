use Rattle.source_semantics_law.proofs.Deterministic.{one_after}
use Rattle.source_semantics_law.proofs.determinism.steps_are_determined.Goals as goal

pub returns : goal.returns
returns c = λ g s c e a b p q. one_after g s c e a b p q
