-- Costs are kept exactly up to a thousand million ticks, and as one more above that.
use Rattle.std.specs.Prelude.{ℕ, min}

abbrev pub cap : ℕ → ℕ
cap n = min n 1000000001
