-- Capping before a sum or a product changes nothing of the capped result.
use Rattle.std.proofs.Common.{◌≡◌, ◌≤◌, ◌+◌, ◌*◌, ◌↔◌, ℕ, List, [], ◌∷◌, take, map, ap, sym, ◌∙◌, arith, refl, zero-add}
use Rattle.std.specs.Int.{div_ceil}
use Rattle.std.proofs.lemmas.List.Sums.{sum_by-append}
use Rattle.std.proofs.lemmas.List.{take-map}
use Rattle.std.proofs.Math.ListN.{get_or-map}
use Rattle.std.proofs.Math.Nat.{mul_comm}
use Rattle.base.specs.Capped.{cap}
use Rattle.sched_response.specs.declared.tasks.Task.{Task}
use Rattle.sched_response.specs.Demand.{activation, asked, exact_demand_at, demand_of, demand_at, task_at, capped}
use Rattle.sched_response.proofs.Caps.{cap-mul}

cap-sum : (a b c d : ℕ) → cap a ≡ cap b → cap c ≡ cap d → cap (a + c) ≡ cap (b + d)
cap-sum a b c d first second = omega (arith, first, second)

-- both factors capped
cap-product : (n a : ℕ) → cap (cap n * cap a) ≡ cap (n * a)
cap-product n a = cap-mul (cap n) a ∙ ap cap (mul_comm (cap n) a) ∙ cap-mul a n ∙ ap cap (mul_comm a n)

activation-capped : (b : ℕ) (t : Task) → cap (activation (cap b) (capped t)) ≡ cap (activation b t)
activation-capped b t =
    let product : cap (cap t.waits * cap b) ≡ cap (t.waits * b) = cap-product t.waits b in
    cap-sum (cap t.run + cap t.susp) (t.run + t.susp) _ _ (omega arith) product

product-capped : (n b : ℕ) (t : Task) → cap (n * activation (cap b) (capped t)) ≡ cap (n * activation b t)
product-capped n b t = sym (cap-mul n _) ∙ ap (λ x. cap (n * x)) (activation-capped b t) ∙ cap-mul n _

asked-cons : (b r : ℕ) (t : Task) (ts : List Task) → asked b r (t ∷ ts) ≡ div_ceil r t.frame * activation b t + asked b r ts
asked-cons b r t ts = sum_by-append (λ t. div_ceil r t.frame * activation b t) (t ∷ []) ts ∙ ap (λ n. n + asked b r ts) (zero-add (div_ceil r t.frame * activation b t))

asked-capped : (b r : ℕ) (ts : List Task) → cap (asked (cap b) r (map capped ts)) ≡ cap (asked b r ts)
asked-capped b r [] = refl
asked-capped b r (t ∷ ts) =
    ap cap (asked-cons (cap b) r (capped t) (map capped ts))
    ∙ cap-sum _ _ _ _ (product-capped (div_ceil r t.frame) b t) (asked-capped b r ts)
    ∙ sym (ap cap (asked-cons b r t ts))

demand_of-capped : (own : Task) (ts : List Task) (r : ℕ) → demand_of (capped own) (map capped ts) r ≡ demand_of own ts r
demand_of-capped own ts r =
    cap-sum _ _ _ _
    (cap-sum (cap own.block) own.block _ _ (omega arith) (activation-capped own.block own))
    (asked-capped own.block r ts)

task_at-capped : (ts : List Task) (level : ℕ) → task_at (map capped ts) level ≡ capped (task_at ts level)
task_at-capped ts level = get_or-map capped ts level (record { frame = 0; deadline = 0; run = 0; susp = 0; waits = 0; block = 0 })

pub demand-capped : (ts : List Task) (level r : ℕ) → demand_at (map capped ts) level r ≡ demand_at ts level r
unfolding demand_at
demand-capped ts level r =
    ap (λ t. demand_of t (take level (map capped ts)) r) (task_at-capped ts level)
    ∙ ap (λ before. demand_of (capped (task_at ts level)) before r) (take-map capped level ts)
    ∙ demand_of-capped (task_at ts level) (take level ts) r

-- a capped number is within a bound below the cap exactly where the number is
pub demand-exact : (ts : List Task) (level r : ℕ) → r ≤ 1000000000 → (demand_at ts level r ≤ r) ↔ (exact_demand_at ts level r ≤ r)
unfolding demand_at exact_demand_at
demand-exact ts level r within = (λ h. omega arith, λ h. omega arith)
