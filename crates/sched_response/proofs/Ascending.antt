-- Neighbours in order put a whole list in order.
use Rattle.std.proofs.Common.{◌≡◌, ◌+◌, ◌↔◌, ℕ, List, Bool, true, false, leb, IsTrue, refl, arith}
use Rattle.std.proofs.lemmas.Bool.Decides.{nat_tests}
use Rattle.std.specs.List.{IsAllAdjacentAnswer}
use Rattle.std.specs.List.Sorted.{IsNonDecreasingBy}
use Rattle.std.proofs.lemmas.List.Sorted.{IsNonDecreasingBy-from_all_adjacent}

pub adjacent_decides : {X : Type 0} (n : X → ℕ) (xs : List X) (d : X) (r : Bool) → IsAllAdjacentAnswer (λ x y b. b ≡ leb (n x) (n y)) xs r → IsTrue r ↔ IsNonDecreasingBy n xs
adjacent_decides n xs d true h = (λ _. IsNonDecreasingBy-from_all_adjacent n xs (λ k d below. let e = h k d below in grind (arith, nat_tests)), λ _. refl)
adjacent_decides n xs d false (k, below, broken) = (λ h. cc, λ rising. let e = broken d in let le = rising k (k + 1) d (omega arith) below in absurd (grind (arith, nat_tests)))
