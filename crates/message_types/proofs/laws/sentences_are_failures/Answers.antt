use Rattle.message_types.proofs.Failing.{of-sentences}
use Rattle.message_types.proofs.laws.sentences_are_failures.Goals as goal

pub returns : goal.returns
returns c g number place = of-sentences g number place
