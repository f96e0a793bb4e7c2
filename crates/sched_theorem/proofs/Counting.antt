-- The counting of charges.
use Rattle.std.proofs.Common.{◌≡◌, ℕ, zero, suc, ◌+◌, ◌*◌, ◌≤◌, List, [], ◌∷◌, length, refl, arith}
use Rattle.std.proofs.Math.Nat.{mul-le-mul_right}
use Rattle.sched_theorem.specs.Charges.{Charge, Execution, Suspension, Blocking, executes, suspends, blocks, ticks_of, total, ChargedCost, claim, claims, Paid}

one_kind : (c : Charge) → executes c + suspends c + blocks c ≡ 1
one_kind (Execution rank) = refl
one_kind Suspension = refl
one_kind Blocking = refl

-- each tick has one charge
pub each_once : (cs : List Charge) → length cs ≡ ticks_of executes cs + ticks_of suspends cs + ticks_of blocks cs
each_once [] = refl
each_once (c ∷ cs) = let rest = each_once cs in let here = one_kind c in omega arith

claim_parts : (k : ℕ) (c : ChargedCost) (stay : ℕ) → k * claim stay c ≡ k * c.run + k * c.susp + k * c.waits * stay
claim_parts k c stay = grind arith

-- what is asked for is run costs, suspensions, and a stay for each wait
pub claims_parts : (n : ℕ) (count : ℕ → ℕ) (cost : ℕ → ChargedCost) (stay : ℕ) → claims n count cost stay ≡ total n (λ j. count j * (cost j).run) + total n (λ j. count j * (cost j).susp) + total n (λ j. count j * (cost j).waits) * stay
claims_parts zero count cost stay = omega arith
claims_parts (suc n) count cost stay =
    let rest = claims_parts n count cost stay in
    let here = claim_parts (count n) (cost n) stay in
    let w = total n (λ j. count j * (cost j).waits) in
    let split : (w + count n * (cost n).waits) * stay ≡ w * stay + count n * (cost n).waits * stay = grind arith in
    omega arith

pub counting : (n : ℕ) (count : ℕ → ℕ) (cost : ℕ → ChargedCost) (stay pieces left : ℕ) (charges : List Charge) → Paid n count cost stay pieces left charges → length charges + left ≤ stay + claims n count cost stay
counting n count cost stay pieces left charges paid =
    let once = each_once charges in
    let parts = claims_parts n count cost stay in
    let w = total n (λ j. count j * (cost j).waits) in
    let more : pieces * stay ≤ (1 + w) * stay = mul-le-mul_right stay paid.parted in
    let split : (1 + w) * stay ≡ stay + w * stay = grind arith in
    omega (arith, paid.execution, paid.suspension, paid.blocking)
