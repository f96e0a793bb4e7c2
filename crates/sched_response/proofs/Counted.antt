-- A process's rank is one more than the number of those that rank higher.
use Rattle.std.proofs.Common.{◌≡◌, ◌≤◌, ◌<◌, ◌+◌, ◌-◌, inl, inr, ℕ, zero, suc, List, length, arith, refl, ap, sym, ◌∙◌, true, false, Bool}
use Rattle.std.specs.Prelude.{slice_index, cond, nat_eq, nat_lt, ◌&&◌, ◌||◌}
use Rattle.std.proofs.lemmas.Bool.{cases_Bool}
use Rattle.std.proofs.lemmas.Bool.Decides.{nat_tests}
use Rattle.sched_response.specs.declared.uses.Use.{Use}
use Rattle.sched_response.specs.Counts.{count_below}
use Rattle.sched_response.specs.Ranked.{use_at, outranks, AreRanks, AreCounted}

abbrev count : Bool → ℕ
count b = cond b 1 0

-- ---- counting

-- where a number is that, another
abbrev pub instead : (that other : ℕ) → ℕ → ℕ
instead that other x = cond (nat_eq x that) other x

pub instead_below : (m other x : ℕ) → x < suc m → (x ≡ m → other < m) → instead m other x < m
instead_below m other x below is_other = by (nat_eq x m) refl where
  by : (b : Bool) → nat_eq x m ≡ b → cond b other x < m
  by true is = is_other (grind (arith, nat_tests, is))
  by false is = grind (arith, nat_tests, is, below)

pub instead_same : (that other x y : ℕ) → instead that other x ≡ instead that other y → (x ≡ that → y ≡ that → x ≡ y) → (other ≡ y → ⊥) → (other ≡ x → ⊥) → x ≡ y
instead_same that other x y same both not_y not_x = by (nat_eq x that) (nat_eq y that) refl refl same where
  by : (a b : Bool) → nat_eq x that ≡ a → nat_eq y that ≡ b → cond a other x ≡ cond b other y → x ≡ y
  by true true is_x is_y same' = both (grind (arith, nat_tests, is_x)) (grind (arith, nat_tests, is_y))
  by true false is_x is_y same' = absurd (not_y same')
  by false true is_x is_y same' = absurd (not_x (sym same'))
  by false false is_x is_y same' = same'

-- of different numbers below m there are no more than m
few : (m n : ℕ) (p : ℕ → Bool) (f : ℕ → ℕ) → ((k : ℕ) → k < n → p k ≡ true → f k < m) → ((j k : ℕ) → j < n → k < n → p j ≡ true → p k ≡ true → f j ≡ f k → j ≡ k) → count_below p n ≤ m
few m zero p f below different = omega arith
few m (suc n) p f below different = by (p n) refl (λ a b. few m n p f a b) (λ i g a b. few i n p g a b) where
  by : (b : Bool) → p n ≡ b → (((k : ℕ) → k < n → p k ≡ true → f k < m) → ((j k : ℕ) → j < n → k < n → p j ≡ true → p k ≡ true → f j ≡ f k → j ≡ k) → count_below p n ≤ m)
      → ((i : ℕ) (g : ℕ → ℕ) → ((k : ℕ) → k < n → p k ≡ true → g k < i) → ((j k : ℕ) → j < n → k < n → p j ≡ true → p k ≡ true → g j ≡ g k → j ≡ k) → count_below p n ≤ i) → count_below p n + count b ≤ m
  by false fails again other = let h : count_below p n ≤ m = again (λ k lt is. below k (omega (arith, lt)) is) (λ j k lt_j lt_k is_j is_k. different j k (omega (arith, lt_j)) (omega (arith, lt_k)) is_j is_k) in omega (arith, h)
  by true passes again other = one_less m (below n (omega arith) passes) refl where
    one_less : (i : ℕ) → f n < i → i ≡ m → count_below p n + 1 ≤ m
    one_less zero low same = absurd (omega (arith, low))
    one_less (suc i) low same =
        let h : count_below p n ≤ i = other i (λ k. instead i (f n) (f k)) (λ k lt is. fewer k lt is) (λ j k lt_j lt_k is_j is_k e. still j k lt_j lt_k is_j is_k e) in omega (arith, h, same)
      where
        last : (k : ℕ) → k < n → p k ≡ true → f k ≡ i → f n < i
        last k lt is at = by_n (nat_eq (f n) i) refl where
          by_n : (b : Bool) → nat_eq (f n) i ≡ b → f n < i
          by_n true e = absurd (let both : n ≡ k = different n k (omega arith) (omega (arith, lt)) passes is (let x : f n ≡ i = grind (arith, nat_tests, e) in x ∙ sym at) in omega (arith, both, lt))
          by_n false e = grind (arith, nat_tests, e, low)

        fewer : (k : ℕ) → k < n → p k ≡ true → instead i (f n) (f k) < i
        fewer k lt is = instead_below i (f n) (f k) (let h : f k < m = below k (omega (arith, lt)) is in omega (arith, h, same)) (λ at. last k lt is at)

        still : (j k : ℕ) → j < n → k < n → p j ≡ true → p k ≡ true → instead i (f n) (f j) ≡ instead i (f n) (f k) → j ≡ k
        still j k lt_j lt_k is_j is_k e =
            different j k (omega (arith, lt_j)) (omega (arith, lt_k)) is_j is_k (instead_same i (f n) (f j) (f k) e (λ at_j at_k. at_j ∙ sym at_k)
            (λ at. omega (arith, different n k (omega arith) (omega (arith, lt_k)) passes is_k at, lt_k))
            (λ at. omega (arith, different n j (omega arith) (omega (arith, lt_j)) passes is_j at, lt_j)))

-- where exactly one of three tests passes, they count all
three : (p q v : ℕ → Bool) (n : ℕ) → ((i : ℕ) → i < n → count (p i) + count (q i) + count (v i) ≡ 1) → count_below p n + count_below q n + count_below v n ≡ n
three p q v zero one = omega arith
three p q v (suc n) one =
    let h : count_below p n + count_below q n + count_below v n ≡ n = three p q v n (λ i lt. one i (omega (arith, lt))) in
    let last : count (p n) + count (q n) + count (v n) ≡ 1 = one n (omega arith) in
    omega (arith, h, last)

none_yet : (k n : ℕ) → n ≤ k → count_below (λ i. nat_eq i k) n ≡ 0
none_yet k zero low = refl
none_yet k (suc n) low =
    let h : count_below (λ i. nat_eq i k) n ≡ 0 = none_yet k n (omega (arith, low)) in
    let fails : nat_eq n k ≡ false = grind (arith, nat_tests, low) in
    let last : count (nat_eq n k) ≡ count false = ap (λ (b : Bool). count b) fails in
    omega (arith, h, last)

one_of : (k n : ℕ) → k < n → count_below (λ i. nat_eq i k) n ≡ 1
one_of k zero below = absurd (omega (arith, below))
one_of k (suc n) below = elim (cases_Bool (nat_eq n k)) [
  | inl is ↦
      let at : n ≡ k = grind (arith, nat_tests, is) in
      let h : count_below (λ i. nat_eq i k) n ≡ 0 = none_yet k n (omega (arith, at)) in
      let last : count (nat_eq n k) ≡ count true = ap (λ (b : Bool). count b) is in
      omega (arith, h, last)
  | inr is_not ↦
      let differ : k < n = grind (arith, nat_tests, is_not, below) in
      let h : count_below (λ i. nat_eq i k) n ≡ 1 = one_of k n differ in
      let last : count (nat_eq n k) ≡ count false = ap (λ (b : Bool). count b) is_not in
      omega (arith, h, last)
]

-- ---- who ranks higher

-- of two, one ranks higher, or they are the same
one_way : (fi fk i k : ℕ) → (i ≡ k → fi ≡ fk) → count (nat_lt fi fk || (nat_eq fi fk && nat_lt i k)) + count (nat_lt fk fi || (nat_eq fk fi && nat_lt k i)) + count (nat_eq i k) ≡ 1
one_way fi fk i k same_deadline = elim (cases_Bool (nat_eq i k)) [
  | inl is ↦ (let at : i ≡ k = grind (arith, nat_tests, is) in let e : fi ≡ fk = same_deadline at in alike fi fk i k e at)
  | inr is_not ↦ unlike fi fk i k is_not
] where
  alike : (fi fk i k : ℕ) → fi ≡ fk → i ≡ k → count (nat_lt fi fk || (nat_eq fi fk && nat_lt i k)) + count (nat_lt fk fi || (nat_eq fk fi && nat_lt k i)) + count (nat_eq i k) ≡ 1
  alike fi fk i k e at = grind (arith, nat_tests, e, at)

  unlike : (fi fk i k : ℕ) → nat_eq i k ≡ false → count (nat_lt fi fk || (nat_eq fi fk && nat_lt i k)) + count (nat_lt fk fi || (nat_eq fk fi && nat_lt k i)) + count (nat_eq i k) ≡ 1
  unlike fi fk i k is_not = grind (arith, nat_tests, is_not)

module _ (us : List Use) (ranks : List ℕ) (are : AreRanks us ranks) where
  abbrev n : ℕ
  n = length us

  abbrev rank : ℕ → ℕ
  rank k = slice_index ranks k

  different : (j k : ℕ) → j < n → k < n → rank j ≡ rank k → j ≡ k
  different j k lt_j lt_k same = elim (cases_Bool (outranks us j k)) [
    | inl is ↦ absurd (omega (arith, are.ordered j k lt_j lt_k is, same))
    | inr is_not ↦ elim (cases_Bool (outranks us k j)) [
      | inl is ↦ absurd (omega (arith, are.ordered k j lt_k lt_j is, same))
      | inr is_not_too ↦
          let one : count (outranks us j k) + count (outranks us k j) + count (nat_eq j k) ≡ 1 = one_way (use_at us j).deadline (use_at us k).deadline j k (λ e. ap (λ (x : ℕ). (use_at us x).deadline) e) in
          let a : count (outranks us j k) ≡ count false = ap (λ (b : Bool). count b) is_not in
          let b : count (outranks us k j) ≡ count false = ap (λ (b : Bool). count b) is_not_too in
          elim (cases_Bool (nat_eq j k)) [
            | inl e ↦ grind (arith, nat_tests, e)
            | inr e ↦ absurd (let c : count (nat_eq j k) ≡ count false = ap (λ (b : Bool). count b) e in omega (arith, one, a, b, c))
          ]
    ]
  ]

  pub are_counted : AreCounted us ranks
  are_counted k below =
      let low : count_below (λ i. outranks us i k) n ≤ rank k - 1 =
      few (rank k - 1) n (λ i. outranks us i k) (λ i. rank i - 1) (λ i lt is. (let h : rank i < rank k = are.ordered i k lt below is in let l : 1 ≤ rank i = are.low i lt in omega (arith, h, l)))
      (λ i j lt_i lt_j is_i is_j same. different i j lt_i lt_j (omega (arith, same, are.low i lt_i, are.low j lt_j))) in
      let high : count_below (λ i. outranks us k i) n ≤ n - rank k =
      few (n - rank k) n (λ i. outranks us k i) (λ i. n - rank i) (λ i lt is. (let h : rank k < rank i = are.ordered k i below lt is in let l : rank i ≤ n = are.high i lt in omega (arith, h, l)))
      (λ i j lt_i lt_j is_i is_j same. different i j lt_i lt_j (omega (arith, same, are.high i lt_i, are.high j lt_j))) in
      let all : count_below (λ i. outranks us i k) n + count_below (λ i. outranks us k i) n + count_below (λ i. nat_eq i k) n ≡ n =
      three (λ i. outranks us i k) (λ i. outranks us k i) (λ i. nat_eq i k) n (λ i lt. one_way (use_at us i).deadline (use_at us k).deadline i k (λ e. ap (λ (x : ℕ). (use_at us x).deadline) e)) in
      omega (arith, low, high, all, one_of k n below, are.low k below, are.high k below)
