use Rattle.std.proofs.Common.{◌≡◌, drop}
use Rattle.source_semantics.specs.Store.{slot_named}
use Rattle.replay_state.specs.View.{vars_of}
use Rattle.replay_calls.proofs.slots.slot_named.Given as goal

abbrev pub invariant-loop-slot : goal.invariant-loop-slot
invariant-loop-slot l = slot_named l.name (vars_of (drop l.slot-index l.slots)) ≡ slot_named l.name (vars_of l.slots)
