use Rattle.code_correct.proofs.FaithfulLemmas.{emitted_is_faithful}
use Rattle.code_correct.proofs.step_simulation.emitted_code_is_faithful.Goals as goal

pub returns : goal.returns
returns c = λ k order is. emitted_is_faithful k order is
