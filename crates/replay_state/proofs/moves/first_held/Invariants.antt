use Rattle.std.proofs.Common.{◌≡◌, drop}
use Rattle.std.specs.List.{position_from}
use Rattle.source_semantics.specs.Config.{is_process}
use Rattle.replay_state.specs.View.{holds_of}
use Rattle.replay_state.proofs.moves.first_held.Given as goal

abbrev pub invariant-loop-mon : goal.invariant-loop-mon
invariant-loop-mon l = position_from (λ h. is_process l.process h.occupant) l.mon (holds_of (drop l.mon l.holds)) ≡ position_from (λ h. is_process l.process h.occupant) 0 (holds_of l.holds)
