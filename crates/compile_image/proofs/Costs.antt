-- A capped cost with its dispatches, capped, is the exact cost with its dispatches, capped.
use Rattle.std.proofs.Common.{◌≡◌, ◌≤◌, ◌<◌, ◌⊎◌, ap, ℕ, zero, suc, ◌+◌, ◌*◌, arith, inl, inr}
use Rattle.std.proofs.lemmas.Bool.{cases_lt}
use Rattle.std.proofs.lemmas.Nat.{mul-le}
use Rattle.base.specs.Capped.{cap}
use Rattle.base.specs.declared.capped.Cost.{Cost}
use Rattle.valid_image.specs.Found.{capped}
use Rattle.valid_image.specs.Sizes.{with_dispatch}
use Rattle.code_cost.specs.Sums.{held}
use Rattle.compile_image.specs.Rows.{IsCapped}

-- the terms stand by themselves
capped-sum : (run more less : ℕ) → (more ≡ less) ⊎ ((1000000001 ≤ more) × (1000000001 ≤ less)) → cap (cap run + less) ≡ cap (run + more)
capped-sum run more less h = elim h [ inl e ↦ omega (arith, e) | inr b ↦ omega (arith, b.0, b.1) ]

dispatches : (n waits : ℕ) → (n * (1 + waits) ≡ n * (1 + cap waits)) ⊎ ((1000000001 ≤ n * (1 + waits)) × (1000000001 ≤ n * (1 + cap waits)))
dispatches zero waits = inl (grind arith)
dispatches (suc n) waits = elim (cases_lt waits 1000000002) [ inl less ↦ inl (same less) | inr many ↦ inr (more many) ]
  where
    same : waits < 1000000002 → suc n * (1 + waits) ≡ suc n * (1 + cap waits)
    same less = let e : waits ≡ cap waits = omega arith in ap (λ w. suc n * (1 + w)) e

    -- one time at least
    once : (w : ℕ) → 1000000001 ≤ w → 1000000001 ≤ suc n * (1 + w)
    once w h = let e : 1 * 1000000001 ≤ suc n * (1 + w) = mul-le 1 1000000001 (suc n) (1 + w) (omega arith) (omega arith) in e

    more : 1000000002 ≤ waits → (1000000001 ≤ suc n * (1 + waits)) × (1000000001 ≤ suc n * (1 + cap waits))
    more many = (once waits (omega arith), once (cap waits) (omega arith))

pub dispatched : (over : ℕ) (c : Cost) → cap (with_dispatch over (capped c)) ≡ cap (with_dispatch over c)
dispatched over c = capped-sum c.run (2 * over * (1 + c.waits)) (2 * over * (1 + cap c.waits)) (dispatches (2 * over) c.waits)

-- ---- numbers that are kept exactly

pub low-held : (w n : ℕ) → w ≡ held n → n ≤ 4096 → w ≤ 4096
low-held w n is low = omega arith

pub exact-held : (w n : ℕ) → w ≡ held n → n ≤ 4096 → w ≡ n
exact-held w n is low = omega arith

pub low-cap : (w n : ℕ) → w ≡ cap n → w ≤ 1000000001
low-cap w n is = omega arith

pub first-low : (a b : ℕ) → a + b ≤ 4096 → a ≤ 4096
first-low a b low = omega arith

pub first-of-three-low : (a b c : ℕ) → a + b + c ≤ 4096 → a ≤ 4096
first-of-three-low a b c low = omega arith

pub same-rest : (m n : ℕ) → suc m ≡ suc n → m ≡ n
same-rest m n is = omega arith

pub none-left : (n : ℕ) → suc n ≡ 0 → ⊥
none-left n is = omega arith

pub none-there : (n : ℕ) → 0 ≡ suc n → ⊥
none-there n is = omega arith

pub is-capped : (c : Cost) → IsCapped (capped c)
is-capped c = record { run = omega arith; susp = omega arith; waits = omega arith }

-- two dispatches for each of a thousand million waits take few enough ticks
pub dispatch_low : (over waits : ℕ) → over ≤ 1000 → waits ≤ 1000000001 → 2 * over * (1 + waits) ≤ 2000000004000
dispatch_low over waits few low = mul-le (2 * over) (1 + waits) 2000 1000000002 (omega arith) (omega arith)
