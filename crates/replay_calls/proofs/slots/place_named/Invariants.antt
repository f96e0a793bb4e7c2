use Rattle.std.proofs.Common.{◌+◌, ℕ, drop, Option}
use Rattle.std.specs.Prelude.{option_map}
use Rattle.replay_state.specs.View.{vars_of}
use Rattle.replay_calls.specs.Places.{IsPlace}
use Rattle.replay_calls.proofs.slots.place_named.Given as goal

abbrev pub invariant-loop-at : goal.invariant-loop-at
invariant-loop-at l = (o : Option ℕ) → IsPlace l.name (vars_of (drop l.at l.slots)) o → IsPlace l.name (vars_of l.slots) (option_map (λ k. l.at + k) o)
