use Rattle.source_semantics_law.proofs.Nested.{always_defined}
use Rattle.source_semantics_law.proofs.determinism.values_are_defined.Goals as goal

pub returns : goal.returns
returns c = λ g p level ok more. always_defined g p level ok more
