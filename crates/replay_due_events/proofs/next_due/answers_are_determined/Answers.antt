use Rattle.replay_due_events.proofs.Answered.{one_answer}
use Rattle.replay_due_events.proofs.next_due.answers_are_determined.Goals as goal

pub returns : goal.returns
returns c = λ g s d e a b x y h k. one_answer g s d e a b x y (λ p q. c.steps_are_determined.ensures g s d e p q) h k
