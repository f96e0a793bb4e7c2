-- The greatest of numbers of which it can be told whether they are there.
use Rattle.std.proofs.Common.{◌≡◌, ◌≤◌, ◌<◌, ◌⊎◌, inl, inr, ℕ, zero, suc, arith, subst}
use Rattle.std.specs.Prelude.{max}
use Rattle.std.proofs.lemmas.Bool.{cases_lt}
use Rattle.sched_response.specs.Ranked.{IsGreatest}

-- the same numbers
pub same_greatest : (P Q : ℕ → Type 0) (b : ℕ) → ((n : ℕ) → P n → Q n) → ((n : ℕ) → Q n → P n) → IsGreatest P b → IsGreatest Q b
same_greatest P Q b on back g = record { most = λ n q. g.most n (back n q); one = elim g.one [ inl none ↦ inl none | inr some ↦ inr (on b some) ] }

-- none is there
pub none_greatest : (P : ℕ → Type 0) → ((n : ℕ) → P n → ⊥) → IsGreatest P 0
none_greatest P none = record { most = λ n p. absurd (none n p); one = inl (omega arith) }

-- one alone is
pub one_greatest : (P : ℕ → Type 0) (b : ℕ) → P b → ((n : ℕ) → P n → n ≡ b) → IsGreatest P b
one_greatest P b some alone = record { most = λ n p. omega (arith, alone n p); one = inr some }

-- those of two kinds
either_greatest : (P Q : ℕ → Type 0) (a b : ℕ) → IsGreatest P a → IsGreatest Q b → IsGreatest (λ n. P n ⊎ Q n) (max a b)
either_greatest P Q a b x y = record { most = most; one = elim (cases_lt a b) [ inl less ↦ second less | inr more ↦ first more ] } where
  most : (n : ℕ) → P n ⊎ Q n → n ≤ max a b
  most n (inl p) = omega (arith, x.most n p)
  most n (inr q) = omega (arith, y.most n q)

  first : b ≤ a → (max a b ≡ 0) ⊎ (P (max a b) ⊎ Q (max a b))
  first more = elim x.one [ inl none ↦ inl (omega (arith, none, more)) | inr some ↦ inr (inl (subst P (omega (arith, more)) some)) ]

  second : a < b → (max a b ≡ 0) ⊎ (P (max a b) ⊎ Q (max a b))
  second less = elim y.one [ inl none ↦ inl (omega (arith, none, less)) | inr some ↦ inr (inr (subst Q (omega (arith, less)) some)) ]

-- those of the first n indices
pub below_greatest : (P : ℕ → ℕ → Type 0) → ((i : ℕ) → (b : ℕ) × IsGreatest (P i) b) → (n : ℕ) → (b : ℕ) × IsGreatest (λ m. (i : ℕ) × (i < n) × P i m) b
below_greatest P each zero = (0, none_greatest _ (λ m h. omega (arith, h.1)))
below_greatest P each (suc n) =
    let rest = below_greatest P each n in
    let last = each n in
    (max last.0 rest.0, same_greatest _ _ (max last.0 rest.0) (λ m h. on m h) (λ m h. back m h) (either_greatest (P n) (λ m. (i : ℕ) × (i < n) × P i m) last.0 rest.0 last.1 rest.1))
  where
    on : (m : ℕ) → P n m ⊎ ((i : ℕ) × (i < n) × P i m) → (i : ℕ) × (i < suc n) × P i m
    on m (inl h) = (n, omega arith, h)
    on m (inr h) = (h.0, omega (arith, h.1), h.2)

    back : (m : ℕ) → ((i : ℕ) × (i < suc n) × P i m) → P n m ⊎ ((i : ℕ) × (i < n) × P i m)
    back m h = elim (cases_lt h.0 n) [ inl less ↦ inr (h.0, less, h.2) | inr more ↦ inl (let e : h.0 ≡ n = omega (arith, h.1, more) in subst (λ i. P i m) e h.2) ]
