-- What is known of a count of the numbers that pass a test.
use Rattle.std.proofs.Common.{◌≡◌, ◌≤◌, ◌<◌, inl, inr, ℕ, zero, suc, Bool, true, false, ap, sym, ◌∙◌, arith, refl}
use Rattle.std.proofs.lemmas.Bool.{cases_lt}
use Rattle.std.specs.Prelude.{if◌then◌else◌}
use Rattle.sched_response.specs.Counts.{count_below}

step_le : (a b : Bool) → (a ≡ true → b ≡ true) → (if a then 1 else 0) ≤ (if b then 1 else 0)
step_le false b h = omega arith
step_le true true h = omega arith
step_le true false h = absurd (let e = h refl in cc)

-- a test that more numbers pass counts no fewer
pub count_le : (f g : ℕ → Bool) (n : ℕ) → ((k : ℕ) → k < n → f k ≡ true → g k ≡ true) → count_below f n ≤ count_below g n
count_le f g zero more = omega arith
count_le f g (suc n) more =
    let rest : count_below f n ≤ count_below g n = count_le f g n (λ k below. more k (omega arith)) in
    let last = step_le (f n) (g n) (more n (omega arith)) in
    omega (arith, rest, last)

-- and more where some number passes that one alone
pub count_lt : (f g : ℕ → Bool) (n k : ℕ) → ((k : ℕ) → k < n → f k ≡ true → g k ≡ true) → k < n → f k ≡ false → g k ≡ true → count_below f n < count_below g n
count_lt f g zero k more below fails passes = absurd (omega arith)
count_lt f g (suc n) k more below fails passes =
    elim (cases_lt k n) [
      | inl lt ↦
          let rest : count_below f n < count_below g n = count_lt f g n k (λ j below. more j (omega arith)) lt fails passes in
          let last = step_le (f n) (g n) (more n (omega arith)) in
          omega (arith, rest, last)
      | inr ge ↦
          let e : k ≡ n = omega arith in
          let rest : count_below f n ≤ count_below g n = count_le f g n (λ j below. more j (omega arith)) in
          let none : f n ≡ false = ap f (sym e) ∙ fails in
          let one : g n ≡ true = ap g (sym e) ∙ passes in
          rw (none, one) (omega (arith, rest))
    ]

-- a count is at most how many there are
pub count_most : (f : ℕ → Bool) (n : ℕ) → count_below f n ≤ n
count_most f zero = omega arith
count_most f (suc n) =
    let rest = count_most f n in
    let last = step_le (f n) true (λ _. refl) in
    omega (arith, rest, last)

-- and less where some number fails
pub count_less : (f : ℕ → Bool) (n k : ℕ) → k < n → f k ≡ false → count_below f n < n
count_less f n k below fails =
    let fewer = count_lt f (λ _. true) n k (λ _ _ _. refl) below fails refl in
    let all = count_most (λ _. true) n in
    omega (arith, fewer, all)
