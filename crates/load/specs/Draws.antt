-- The numbers that a key gives, in order: a linear congruential generator modulo 2^64, and draws
-- from its upper 31 bits.
use Rattle.std.specs.Prelude.{ℕ, zero, suc, ◌+◌, ◌*◌, ◌/◌, ◌%◌, ◌^◌}

-- the state after this one
unfoldable pub next : ℕ → ℕ
next x = (x * 6364136223846793005 + 1442695040888963407) % 2 ^ 64

-- the state after so many draws; the key is the first
abbrev pub state : (key count : ℕ) → ℕ
state key zero = key
state key (suc count) = next (state key count)

-- what a state answers, below a bound
unfoldable pub below : (x bound : ℕ) → ℕ
below x bound = (x / 2 ^ 33) % bound

-- the draw of this number, from 0, below a bound
unfoldable pub draw : (key number bound : ℕ) → ℕ
draw key number bound = below (state key (suc number)) bound
