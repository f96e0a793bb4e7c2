use Rattle.std.proofs.Common.{◌≡◌, drop, nat_eq}
use Rattle.std.specs.List.{position_from}
use Rattle.replay_state.proofs.queues.place_of.Given as goal

abbrev pub invariant-loop-at : goal.invariant-loop-at
invariant-loop-at l = position_from (λ x. nat_eq x l.process) l.at (drop l.at l.queue) ≡ position_from (λ x. nat_eq x l.process) 0 l.queue
