-- The ticks and the values of the lines.
use Rattle.std.proofs.Common.{◌≡◌, ◌≤◌, ◌<◌, ◌*◌, ◌/◌, ◌^◌, ℕ, suc, ℤ, pos, negsuc, ◌-ℤ◌, codes, length, ◌∷◌, ◌++◌, refl, decimal, arith, length-append}
use Rattle.std.proofs.Math.Nat.{mul-le-mul_left}
use Rattle.std.proofs.lemmas.Nat.{mod_below}
use Rattle.std.proofs.lemmas.Int.{ints}
use Rattle.std.proofs.lemmas.Fmt.{length-decimal-le, length_signed_le}
use Rattle.std.specs.Fmt.{signed_decimal}
use lib.Signed.{mag}
use Rattle.text_fields.specs.Fields.{IsWord, Is32}
use Rattle.script.specs.Saying.{set, end, spelled}
use Rattle.load.specs.Draws.{state, below, draw}
use Rattle.load.specs.Script.{value}

pub tick_below : (count before : ℕ) → 1 ≤ count → before < 20 → 1000 * count * before < 20000 * count
tick_below count before some few =
    let last : before ≤ 19 = omega arith in
    let most = mul-le-mul_left (1000 * count) last in
    omega (arith, most)

pub src_is_word : IsWord (codes "src")
src_is_word = record {
  some = omega arith;
  no_space = (λ e. omega arith, (λ e. omega arith, (λ e. omega arith, tt)));
  no_line_feed = (λ e. omega arith, (λ e. omega arith, (λ e. omega arith, tt)));
}

small : (z : ℤ) (n : ℕ) → z ≡ pos n -ℤ pos 1000 → n < 2000 → Is32 z × (mag z ≤ 1000)
small (pos m) n is less = (omega (arith, ints, is), omega (arith, ints, is))
small (negsuc m) n is less = (omega (arith, ints, is), omega (arith, ints, is))

pub small_value : (key number : ℕ) → Is32 (value key number) × (mag (value key number) ≤ 1000)
unfolding value draw below
small_value key number = small (value key number) (draw key number 2000) refl (mod_below (state key (suc number) / 2 ^ 33) 2000 (omega arith))

-- ---- lengths

pub short_setting : (tick : ℕ) (z : ℤ) → tick < 1000000000 → mag z ≤ 1000 → length (spelled (set tick (codes "src") z)) ≤ 30
short_setting tick z early low =
    let digits : length (decimal tick) ≤ 9 = length-decimal-le 9 tick (omega arith) (omega arith) (omega arith) in
    let signed : length (signed_decimal z) ≤ 5 = length_signed_le 4 z (omega arith) (omega arith) in
    omega (arith, length-append (decimal tick) (32 ∷ codes "set src " ++ signed_decimal z))

pub short_end : (last : ℕ) → last < 1000000000 → length (spelled (end last)) ≤ 13
short_end last early =
    let digits : length (decimal last) ≤ 9 = length-decimal-le 9 last (omega arith) (omega arith) (omega arith) in
    omega arith
