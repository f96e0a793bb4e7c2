use Rattle.replay_due_events.specs.NextDue.{next_due}
use Rattle.replay_due_events.proofs.DueLemmas.{next_is, up_to_tick}
use Rattle.replay_due_events.proofs.next_due.none_due_up_to_is_one_comparison.Goals as goal

pub returns : goal.returns
returns c = λ g s d t pass reached. up_to_tick g s d t (next_due g s d) (next_is g s d pass) reached
