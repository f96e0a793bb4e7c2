-- Numbers, and pairs of them in order: by the first, and where that is the same by the second.
use Rattle.std.proofs.Common.{◌≡◌, ◌<◌, ◌⊎◌, inl, inr, ℕ, true, false, arith}
use Rattle.std.specs.Prelude.{nat_eq, nat_lt, ◌&&◌, ◌||◌}
use Rattle.std.proofs.lemmas.Bool.{cases_lt}
use Rattle.std.proofs.lemmas.Bool.Decides.{nat_tests}

pub itself : (n : ℕ) → nat_eq n n ≡ true
itself n = grind (arith, nat_tests)

-- ---- pairs in order

pub not_before_itself : (f p : ℕ) → (nat_lt f f || (nat_eq f f && nat_lt p p)) ≡ false
not_before_itself f p = grind (arith, nat_tests)

pub before_along : (f g h p q r : ℕ) → (nat_lt f g || (nat_eq f g && nat_lt p q)) ≡ true → (nat_lt g h || (nat_eq g h && nat_lt q r)) ≡ true → (nat_lt f h || (nat_eq f h && nat_lt p r)) ≡ true
before_along f g h p q r first second = grind (arith, nat_tests)

pub shorter : (f g p q : ℕ) → f < g → (nat_lt f g || (nat_eq f g && nat_lt p q)) ≡ true
shorter f g p q less = grind (arith, nat_tests, less)

pub one_before : (f g p q : ℕ) → p < q → ((nat_lt f g || (nat_eq f g && nat_lt p q)) ≡ true) ⊎ ((nat_lt g f || (nat_eq g f && nat_lt q p)) ≡ true)
one_before f g p q less = elim (cases_lt g f) [ inl shorter ↦ inr (grind (arith, nat_tests, shorter)) | inr longer ↦ inl (grind (arith, nat_tests, longer, less)) ]
