use Rattle.std.proofs.Common.{◌≡◌, ◌++◌, drop}
use Rattle.replay_state.specs.View.{vars_of}
use Rattle.replay_calls.proofs.slots.slots_copied.Given as goal

abbrev pub invariant-loop-slot : goal.invariant-loop-slot
invariant-loop-slot l = vars_of l.copies.items ++ vars_of (drop l.slot-index l.slots) ≡ vars_of l.slots
