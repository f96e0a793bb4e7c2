-- Counting the numbers that pass a test.
use Rattle.std.specs.Prelude.{◌+◌, ℕ, zero, suc, Bool, if◌then◌else◌}

-- how many numbers below n pass
abbrev pub count_below : (ℕ → Bool) → ℕ → ℕ
count_below passes zero = 0
count_below passes (suc n) = count_below passes n + (if passes n then 1 else 0)
