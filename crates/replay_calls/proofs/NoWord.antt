-- What does not fit 64 bits is no word.
use Rattle.std.specs.Prelude.{◌≡◌, ◌^◌, ◌<◌, ℕ, Bool, true, false, ℤ, pos, negsuc, nat_lt, FitsSigned}
use Rattle.std.proofs.Common.{refl, arith, w64}
use Rattle.std.proofs.lemmas.Bool.Decides.{nat_tests}
use Rattle.base.specs.Words.{raised, in_word, is_word}

small : (n : ℕ) → nat_lt n (2 ^ 31) ≡ true → n < 2 ^ 31
small n h = grind (arith, nat_tests)

fits : (z : ℤ) → is_word z ≡ true → FitsSigned w64 z
fits (pos n) h = record { sfits = omega (arith, small n h) }
fits (negsuc n) h = record { sfits = omega (arith, small n h) }

pub no_word : (z : ℤ) → (FitsSigned w64 z → ⊥) → raised 1 ≡ in_word z
no_word z misfit = by_case (is_word z) refl
  where
    by_case : (b : Bool) → is_word z ≡ b → raised 1 ≡ in_word z
    by_case true e = absurd (misfit (fits z e))
    by_case false e = rw e refl
