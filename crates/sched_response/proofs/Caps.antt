-- Capping again changes nothing.
use Rattle.std.proofs.Common.{◌≡◌, ◌+◌, ◌*◌, inl, inr, ℕ, zero, suc, ap, ◌∙◌, arith}
use Rattle.std.proofs.lemmas.Bool.{cases_lt}
use Rattle.base.specs.Capped.{cap}

pub cap-add : (a b : ℕ) → cap (a + cap b) ≡ cap (a + b)
cap-add a b = omega arith

-- a product that passes the cap does so with its factor capped
pub cap-mul : (n a : ℕ) → cap (n * cap a) ≡ cap (n * a)
cap-mul zero a = grind arith
cap-mul (suc n) a = elim (cases_lt a 1000000001) [
  | inl small ↦ let e : cap a ≡ a = omega arith in ap (λ x. cap (suc n * x)) e
  | inr large ↦
      let e : cap a ≡ 1000000001 = omega arith in
      let one : suc n * a ≡ a + n * a = grind arith in
      ap (λ x. cap (suc n * x)) e ∙ omega (arith, one)
]

-- one more product in a capped sum
pub cap_added : (total n a : ℕ) → cap (total + cap (n * cap a)) ≡ cap (total + n * a)
cap_added total n a = ap (λ x. cap (total + x)) (cap-mul n a) ∙ cap-add total (n * a)
