use Rattle.code_correct.proofs.Emitted.{code_is_emitted}
use Rattle.code_correct.proofs.emitted_code_law.code_is_emitted.Goals as goal

pub returns : goal.returns
returns c = λ k order code differ at ip rules. code_is_emitted k order code differ at ip rules
