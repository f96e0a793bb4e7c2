-- Elements of lists.
use Rattle.std.proofs.Common.{◌≡◌, ◌≢◌, ◌⊎◌, inl, inr, ℕ, arith}
use Rattle.std.specs.Prelude.{nat_eq}
use Rattle.std.proofs.lemmas.Bool.{cases_Bool}
use Rattle.std.proofs.lemmas.Bool.Decides.{nat_tests}

pub same_or_not : (j k : ℕ) → (j ≡ k) ⊎ (j ≢ k)
same_or_not j k = elim (cases_Bool (nat_eq j k)) [ inl is ↦ inl (grind (arith, nat_tests, is)) | inr is ↦ inr (λ same. absurd (grind (arith, nat_tests, is, same))) ]
