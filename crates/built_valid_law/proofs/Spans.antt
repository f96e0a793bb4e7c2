-- How far two bounds are apart.
use Rattle.std.specs.Prelude.{◌≡◌, ◌<◌, ℕ, suc, true, ℤ, pos, negsuc, ◌+ℤ◌, ◌-ℤ◌, int_le, int_lt}
use Rattle.std.proofs.Common.{refl, arith}
use Rattle.std.proofs.lemmas.Int.{ints}

pub record Span (low high : ℤ) (n : ℕ) : Type 0 where
  pub steps : ℕ
  pub is : high -ℤ low ≡ pos steps
  pub few : steps < n
  pub last : (low +ℤ pos (suc steps)) -ℤ pos 1 ≡ high

pub span : (low high : ℤ) (n : ℕ) → int_le low high ≡ true → int_lt high (low +ℤ pos n) ≡ true → Span low high n
span low high n order near = by (high -ℤ low) refl
  where
    by : (d : ℤ) → high -ℤ low ≡ d → Span low high n
    by (pos k) is = record { steps = k; is = is; few = grind (arith, ints); last = grind (arith, ints) }
    by (negsuc k) is = absurd (grind (arith, ints))
