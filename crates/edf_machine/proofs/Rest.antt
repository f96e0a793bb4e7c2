-- Before the first tick the whole run is to come.
use Rattle.std.proofs.Common.{◌≡◌, ◌-◌, ℕ, arith, ap}
use Rattle.edf_semantics.specs.Run.{events, events_from, state_at}
use Rattle.edf_machine.specs.Coming.{AllIsToCome}

pub all_is_to_come : AllIsToCome
unfolding events state_at
all_is_to_come image script = let count : script.end_tick - 0 ≡ script.end_tick = omega arith in ap (λ (n : ℕ). events_from image script n 0 (state_at image script 0)) count
