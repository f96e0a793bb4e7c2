-- Sums over the ranks below a number.
use Rattle.std.proofs.Common.{◌≡◌, ℕ, zero, suc, ◌+◌, ◌<◌, ◌≤◌, ◌⊎◌, inl, inr, refl, arith, sym, subst}
use Rattle.std.proofs.lemmas.Bool.{cases_lt}
use Rattle.sched_theorem.specs.Charges.{total}

-- terms that don't rise
pub total_mono : (n : ℕ) (f g : ℕ → ℕ) → ((j : ℕ) → j < n → f j ≤ g j) → total n f ≤ total n g
total_mono zero f g each = omega arith
total_mono (suc n) f g each =
    let rest = total_mono n f g (λ j below. each j (omega arith)) in
    let last : f n ≤ g n = each n (omega arith) in
    omega arith

-- and one of which falls
pub total_less : (n i : ℕ) (f g : ℕ → ℕ) → ((j : ℕ) → j < n → f j ≤ g j) → i < n → f i + 1 ≤ g i → total n f + 1 ≤ total n g
total_less zero i f g each below less = absurd (omega arith)
total_less (suc n) i f g each below less =
    let rest : total n f ≤ total n g = total_mono n f g (λ j low. each j (omega arith)) in
    let last : f n ≤ g n = each n (omega arith) in
    elim (cases_lt i n) [
      | inl low ↦ let h : total n f + 1 ≤ total n g = total_less n i f g (λ j small. each j (omega arith)) low less in omega arith
      | inr high ↦
          let e : i ≡ n = omega arith in
          let P : ℕ → Type 0 = λ k. f k + 1 ≤ g k in
          let h : f n + 1 ≤ g n = subst P e less in
          omega arith
    ]

pub total_add : (n : ℕ) (f g : ℕ → ℕ) → total n (λ j. f j + g j) ≡ total n f + total n g
total_add zero f g = refl
total_add (suc n) f g = let rest = total_add n f g in omega arith

pub total_zero : (n : ℕ) (f : ℕ → ℕ) → ((j : ℕ) → j < n → f j ≡ 0) → total n f ≡ 0
total_zero zero f each = refl
total_zero (suc n) f each =
    let rest = total_zero n f (λ j below. each j (omega arith)) in
    let last : f n ≡ 0 = each n (omega arith) in
    omega arith

-- a sum that is not 0 has a term that is not 0
pub total_some : (n : ℕ) (f : ℕ → ℕ) → 1 ≤ total n f → (j : ℕ) × (j < n) × (1 ≤ f j)
total_some zero f some = absurd (omega arith)
total_some (suc n) f some = elim (cases_lt 0 (f n)) [
  | inl here ↦ (n, omega arith, omega arith)
  | inr none ↦ let h = total_some n f (omega arith) in (h.0, omega arith, h.2)
]

pub total_term : (n i : ℕ) (f : ℕ → ℕ) → i < n → f i ≤ total n f
total_term zero i f below = absurd (omega arith)
total_term (suc n) i f below = elim (cases_lt i n) [
  | inl low ↦ let h = total_term n i f low in omega arith
  | inr high ↦
      let e : n ≡ i = omega arith in
      let P : ℕ → Type 0 = λ k. f i ≤ total n f + f k in
      subst P (sym e) (omega arith)
]

-- each term, or some term, from the sum
pub none_of_total : (n : ℕ) (f : ℕ → ℕ) → total n f ≡ 0 → (j : ℕ) → j < n → f j ≡ 0
none_of_total n f none j below = let h = total_term n j f below in omega arith

pub total_of_some : (n : ℕ) (f : ℕ → ℕ) → (j : ℕ) × (j < n) × (1 ≤ f j) → 1 ≤ total n f
total_of_some n f some = let h = total_term n some.0 f some.1 in omega (arith, some.2)

-- where at most one term is not 0, the sum is no more than the largest term may be
pub total_lone : (n most : ℕ) (f : ℕ → ℕ) → ((j : ℕ) → j < n → f j ≤ most) → ((i j : ℕ) → i < j → j < n → (f i ≡ 0) ⊎ (f j ≡ 0)) → total n f ≤ most
total_lone zero most f each lone = omega arith
total_lone (suc n) most f each lone = elim (cases_lt 0 (f n)) [
  | inr none ↦ let rest = total_lone n most f (λ j below. each j (omega arith)) (λ i j less below. lone i j less (omega arith)) in omega arith
  | inl some ↦
      let empty : total n f ≡ 0 = total_zero n f (λ j below. first j below some (lone j n below (omega arith))) in
      let last : f n ≤ most = each n (omega arith) in
      omega arith
]
  where
    first : (j : ℕ) → j < n → 0 < f n → (f j ≡ 0) ⊎ (f n ≡ 0) → f j ≡ 0
    first j below some (inl e) = e
    first j below some (inr e) = absurd (omega arith)
