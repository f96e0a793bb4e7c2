-- Numbers in decimal have a digit, and of things one after the other each pays for its bytes.
use Rattle.std.proofs.Common.{◌≡◌, ◌≤◌, ◌+◌, ◌*◌, ◌/◌, ◌%◌, ◌==◌, ◌++◌, ℕ, zero, suc, Bool, true, false, List, [], ◌∷◌, length, arith}
use Rattle.std.specs.Prelude.{flat_map, if◌then◌else◌}
use Rattle.std.specs.Fmt.{decimal, digits, digits_onto, digit_glyph}
use Rattle.std.proofs.lemmas.List.{length-append}

-- the digits go before what is there
longer_onto : (k base n : ℕ) (upper : Bool) (acc : List ℕ) → length acc ≤ length (digits_onto k base upper n acc)
longer_onto zero base n upper acc = omega arith
longer_onto (suc k) base n upper acc = by (n / base == 0) (longer_onto k base (n / base) upper (digit_glyph upper (n % base) ∷ acc)) where
  by : (b : Bool) → length (digit_glyph upper (n % base) ∷ acc) ≤ length (digits_onto k base upper (n / base) (digit_glyph upper (n % base) ∷ acc))
      → length acc ≤ length (if b then digit_glyph upper (n % base) ∷ acc else digits_onto k base upper (n / base) (digit_glyph upper (n % base) ∷ acc))
  by true more = omega arith
  by false more = omega (arith, more)

some_onto : (k base n : ℕ) (upper : Bool) → 1 ≤ length (digits_onto (suc k) base upper n [])
some_onto k base n upper = by (n / base == 0) (longer_onto k base (n / base) upper (digit_glyph upper (n % base) ∷ [])) where
  by : (b : Bool) → 1 ≤ length (digits_onto k base upper (n / base) (digit_glyph upper (n % base) ∷ []))
      → 1 ≤ length (if b then digit_glyph upper (n % base) ∷ [] else digits_onto k base upper (n / base) (digit_glyph upper (n % base) ∷ []))
  by true more = omega arith
  by false more = more

-- a number has a digit
pub decimal_some : (n : ℕ) → 1 ≤ length (decimal n)
unfolding digits
decimal_some n = some_onto 63 10 n false

-- where each thing pays for its bytes but for some, so do all
pub all_pay : {X : Type 0} (bytes text : X → List ℕ) (extra : ℕ) → ((x : X) → 10 * length (bytes x) ≤ 9 * length (text x) + extra) → (xs : List X) → 10 * length (flat_map bytes xs) ≤ 9 * length (flat_map text xs) + extra * length xs
all_pay bytes text extra one [] = omega arith
all_pay bytes text extra one (x ∷ xs) =
    let rest = all_pay bytes text extra one xs in
    let more : extra * suc (length xs) ≡ extra * length xs + extra = grind arith in
    omega (arith, one x, rest, more, length-append (bytes x) (flat_map bytes xs), length-append (text x) (flat_map text xs))

-- the length of what stands one after the other
pub long_three : (a b c : List ℕ) → length (a ++ (b ++ c)) ≡ length a + (length b + length c)
long_three a b c = simp length-append

pub long_six : (a b c d e f : List ℕ) → length (a ++ (b ++ (c ++ (d ++ (e ++ f))))) ≡ length a + (length b + (length c + (length d + (length e + length f))))
long_six a b c d e f = simp length-append

pub long_seven : (a b c d e f g : List ℕ) → length (a ++ (b ++ (c ++ (d ++ (e ++ (f ++ g)))))) ≡ length a + (length b + (length c + (length d + (length e + (length f + length g)))))
long_seven a b c d e f g = simp length-append

pub long_eight : (a b c d e f g h : List ℕ) → length (a ++ (b ++ (c ++ (d ++ (e ++ (f ++ (g ++ h))))))) ≡ length a + (length b + (length c + (length d + (length e + (length f + (length g + length h))))))
long_eight a b c d e f g h = simp length-append
