-- How statements spend ticks: one by one, with so many left.
use Rattle.std.proofs.Common.{◌≡◌, ◌≤◌, ◌+◌, ◌-◌, ◌*◌, ◌/◌, ◌%◌, ◌==◌, ℕ, zero, suc, inl, inr, Bool, true, false, nat_le, List, [], ◌∷◌, refl, subst, arith}
use Rattle.std.specs.Prelude.{if◌then◌else◌}
use Rattle.std.proofs.lemmas.Bool.{leb-true, leb-false, eqb-true, eqb-false}
use Rattle.syntax_tree.specs.Plain.{Name}
use Rattle.syntax_tree.specs.Placed.{Stmt}
use Rattle.table_format.specs.Spending.{Nowhere, three, four, five, short_turns, long_turns, threes, spend_by_assignments, spend_by_loop, spend}
use Rattle.table_law.specs.Ticks.{IsMet}

-- statements that spend so many ticks
pub data Spends (tail : Name) : ℕ → List (Stmt Nowhere) → Type 0 where
  nothing : Spends tail 0 []
  by_three : (n m : ℕ) (ss : List (Stmt Nowhere)) → m ≡ 3 + n → m ≤ 17 → Spends tail n ss → Spends tail m (three tail ∷ ss)
  by_four : (n m : ℕ) (ss : List (Stmt Nowhere)) → m ≡ 4 + n → m ≤ 17 → Spends tail n ss → Spends tail m (four tail ∷ ss)
  by_five : (n m : ℕ) (ss : List (Stmt Nowhere)) → m ≡ 5 + n → m ≤ 17 → Spends tail n ss → Spends tail m (five tail ∷ ss)
  by_short : (turns n m : ℕ) (ss : List (Stmt Nowhere)) → m ≡ 5 + 10 * turns + n → 1 ≤ turns → turns ≤ 1001 → 3 ≤ n → n ≤ 12
      → Spends tail n ss → Spends tail m (short_turns tail turns ∷ ss)
  by_long : (turns n m : ℕ) (ss : List (Stmt Nowhere)) → m ≡ 5 + 10015 * turns + n → 1 ≤ turns → turns ≤ 99850 → 3 ≤ n → n ≤ 10017
      → Spends tail n ss → Spends tail m (long_turns tail turns ∷ ss)

-- what holds of both lists holds of the one that is chosen
chosen : (P : List (Stmt Nowhere) → Type 0) (b : Bool) (one other : List (Stmt Nowhere)) → (b ≡ true → P one) → (b ≡ false → P other) → P (if b then one else other)
chosen P true one other here there = here refl
chosen P false one other here there = there refl

all_threes : (tail : Name) (k m : ℕ) → m ≡ 3 * k → m ≤ 17 → Spends tail m (threes tail k)
all_threes tail zero m is few = subst (λ n. Spends tail n []) (let e : 0 ≡ m = omega (arith, is) in e) nothing
all_threes tail (suc k) m is few = by_three (3 * k) m (threes tail k) (omega (arith, is)) few (all_threes tail k (3 * k) refl (omega (arith, is, few)))

is_four : (n : ℕ) → IsMet n → n % 3 ≡ 1 → 4 ≤ n
is_four n (inl none) one = absurd (omega (arith, none, one))
is_four n (inr some) one = omega (arith, some, one)

is_five : (n : ℕ) → IsMet n → n % 3 ≡ 2 → 5 ≤ n
is_five n (inl none) two = absurd (omega (arith, none, two))
is_five n (inr some) two = omega (arith, some, two)

by_assignments : (tail : Name) (n : ℕ) → IsMet n → n ≤ 17 → Spends tail n (spend_by_assignments tail n)
unfolding spend_by_assignments
by_assignments tail n met few = chosen (λ ss. Spends tail n ss) (n % 3 == 1) (four tail ∷ threes tail ((n - 4) / 3))
    (if n % 3 == 2 then five tail ∷ threes tail ((n - 5) / 3) else threes tail (n / 3))
    (λ is. (let one = eqb-true (n % 3) 1 is in let least = is_four n met one in
    by_four (n - 4) n (threes tail ((n - 4) / 3)) (omega (arith, least)) few (all_threes tail ((n - 4) / 3) (n - 4) (omega (arith, one, least)) (omega (arith, few)))))
    (λ not. chosen (λ ss. Spends tail n ss) (n % 3 == 2) (five tail ∷ threes tail ((n - 5) / 3)) (threes tail (n / 3))
    (λ is. (let two = eqb-true (n % 3) 2 is in let least = is_five n met two in
    by_five (n - 5) n (threes tail ((n - 5) / 3)) (omega (arith, least)) few (all_threes tail ((n - 5) / 3) (n - 5) (omega (arith, two, least)) (omega (arith, few)))))
    (λ nor. all_threes tail (n / 3) n (omega (arith, eqb-false (n % 3) 1 not, eqb-false (n % 3) 2 nor)) few))

by_loop : (tail : Name) (n : ℕ) → IsMet n → n ≤ 10022 → Spends tail n (spend_by_loop tail n)
unfolding spend_by_loop
by_loop tail n met few = chosen (λ ss. Spends tail n ss) (nat_le 18 n) (short_turns tail ((n - 8) / 10) ∷ spend_by_assignments tail (n - 5 - 10 * ((n - 8) / 10))) (spend_by_assignments tail n)
    (λ is. (let many = leb-true 18 n is in let left = n - 5 - 10 * ((n - 8) / 10) in
    let least : 3 ≤ left = omega (arith, many) in let most : left ≤ 12 = omega (arith, many) in
    by_short ((n - 8) / 10) left n (spend_by_assignments tail left) (omega (arith, many)) (omega (arith, many)) (omega (arith, few)) least most
    (by_assignments tail left (inr least) (omega (arith, most)))))
    (λ not. by_assignments tail n met (omega (arith, leb-false 18 n not)))

-- each number of ticks that can be met is spent
pub spent : (tail : Name) (n : ℕ) → IsMet n → n ≤ 1000000000 → Spends tail n (spend tail n)
unfolding spend
spent tail n met few = chosen (λ ss. Spends tail n ss) (nat_le 10023 n) (long_turns tail ((n - 8) / 10015) ∷ spend_by_loop tail (n - 5 - 10015 * ((n - 8) / 10015))) (spend_by_loop tail n)
    (λ is. (let many = leb-true 10023 n is in let left = n - 5 - 10015 * ((n - 8) / 10015) in
    let least : 3 ≤ left = omega (arith, many) in let most : left ≤ 10017 = omega (arith, many) in
    by_long ((n - 8) / 10015) left n (spend_by_loop tail left) (omega (arith, many)) (omega (arith, many)) (omega (arith, few)) least most
    (by_loop tail left (inr least) (omega (arith, most)))))
    (λ not. by_loop tail n met (omega (arith, leb-false 10023 n not)))
