-- Numbers that are in the ranges of their fields.
use Rattle.std.proofs.Common.{◌≡◌, ◌≤◌, ◌<◌, ◌^◌, ℕ, Bool, true, ap, arith}
use Rattle.std.specs.Prelude.{nat_lt}
use Rattle.std.proofs.lemmas.Bool.{lt-ltb}
use Rattle.image_format.specs.Format.{is_fine, u16, u32, unless}
use Rattle.image_format.specs.TreeFormat.{u16_below, u16_within, u32_within, within}
use Rattle.image_format.proofs.Booleans.{together}
use Rattle.image_reader_law.proofs.Ranged.{fine_within}

-- a rule that is kept is no fault
pub fine : (b : Bool) (number : ℕ) → b ≡ true → is_fine (unless b number) ≡ true
fine b number h = ap (λ x. is_fine (unless x number)) h

pub short_fits : (n : ℕ) → n < 65536 → u16.is n ≡ true
short_fits n low = lt-ltb n (2 ^ 16) (omega (arith, low))

pub long_fits : (n : ℕ) → n < 4294967296 → u32.is n ≡ true
long_fits n low = lt-ltb n (2 ^ 32) (omega (arith, low))

pub short_within : (low high n : ℕ) → low ≤ n → n ≤ high → high < 65536 → (u16_within low high).is n ≡ true
short_within low high n from to fits = together (u16.is n) (is_fine (within low high n)) (short_fits n (omega (arith, to, fits))) (fine_within low high n from to)

pub long_within : (low high n : ℕ) → low ≤ n → n ≤ high → high < 4294967296 → (u32_within low high).is n ≡ true
long_within low high n from to fits = together (u32.is n) (is_fine (within low high n)) (long_fits n (omega (arith, to, fits))) (fine_within low high n from to)

pub short_below : (count n : ℕ) → n < count → count ≤ 65536 → (u16_below count).is n ≡ true
short_below count n low fits = together (u16.is n) (is_fine (unless (nat_lt n count) 4)) (short_fits n (omega (arith, low, fits))) (fine (nat_lt n count) 4 (lt-ltb n count low))
