use Rattle.std.proofs.Common.{◌≡◌, ◌<◌, ℕ, length, get_or, []}
use Rattle.loader_code.proofs.sweep.no_addresses.Given as goal

abbrev pub invariant-loop-piece : goal.invariant-loop-piece
invariant-loop-piece l = record { one_each : length l.all.items ≡ l._piece; each : (k : ℕ) → k < l._piece → get_or l.all.items k [] ≡ [] }
