use Rattle.message_conduct.proofs.Telling.{tells-each}
use Rattle.message_conduct.proofs.laws.tells_each.Goals as goal

pub returns : goal.returns
returns c g number place fails = tells-each g number place fails
