use Rattle.replay_due_events.proofs.DueLemmas.{next_is}
use Rattle.replay_due_events.proofs.next_due.next_due_is_least.Goals as goal

pub returns : goal.returns
returns c = λ g s d pass. next_is g s d pass
