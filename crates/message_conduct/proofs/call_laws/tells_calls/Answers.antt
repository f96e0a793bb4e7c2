use Rattle.message_conduct.proofs.CallsTelling.{tells-rounds, tells-handlers}
use Rattle.message_conduct.proofs.call_laws.tells_calls.Goals as goal

pub returns-clause-rounds : goal.returns-clause-rounds
returns-clause-rounds c g place said told = tells-rounds g place said told

pub returns-clause-handlers : goal.returns-clause-handlers
returns-clause-handlers c g place said told waits = tells-handlers g place said told waits
