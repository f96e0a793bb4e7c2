use Rattle.std.proofs.Common.{◌≡◌, drop}
use Rattle.replay_state.specs.View.{holds_of}
use Rattle.replay_state.specs.Tables.{are_free}
use Rattle.replay_state.proofs.ranks.are_free.Given as goal

abbrev pub invariant-loop-hold : goal.invariant-loop-hold
invariant-loop-hold l = are_free (holds_of (drop l.hold-index l.holds)) ≡ are_free (holds_of l.holds)
