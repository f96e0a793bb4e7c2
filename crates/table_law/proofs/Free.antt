-- Each name stands in the way of one tail at most, so one of the tails is free.
use Rattle.std.proofs.Common.{◌≡◌, ◌≤◌, ◌<◌, ◌+◌, ℕ, zero, suc, ◌⊎◌, inl, inr, Bool, true, false, ◌||◌, nat_eq, nat_le, List, [], ◌∷◌, ◌++◌, Option, Some, None, decimal, length, map, get_or, refl, ap, sym, ◌∙◌, subst, arith}
use Rattle.std.specs.List.{list_all, list_any, prefix_len, range_with_len}
use Rattle.std.specs.Prelude.{cond, Contains}
use Rattle.std.proofs.lemmas.Bool.{and_parts, leb-true, ne_eqb}
use Rattle.std.proofs.lemmas.Fmt.{decimal_injective}
use Rattle.syntax_tree.specs.Plain.{Name}
use Rattle.syntax.specs.Spellings.{is_digit, is_number}
use Rattle.syntax_printer.proofs.Spelled.{decimal_reads}
use Rattle.table_format.specs.declared.table.TaskStay.{TaskStay}
use Rattle.table_format.specs.declared.table.TaskTable.{TaskTable}
use Rattle.table_format.specs.Rules.{same_name, names, stays, IsBegun}
use Rattle.table_format.specs.Program.{stay_name, made_names, tail_of, is_made_with, is_in_the_way, made_tail}
use Rattle.table_law.proofs.Lists.{Every}
use Rattle.table_law.proofs.Few.{same_is, same_self}
use Rattle.table_law.proofs.Fits.{StayFits, TableFits, table_fits, all_stays}
use Rattle.table_law.proofs.Tails.{few_names}

-- ---- what stands behind the first `_` of a name

after : List ℕ → Option (List ℕ)
after [] = None
after (c ∷ cs) = cond (nat_eq c 95) (Some cs) (after cs)

abbrev IsClear : List ℕ → Type 0
IsClear made = Every (λ c. nat_eq c 95 ≡ false) made

after_clear : (made rest : List ℕ) → IsClear made → after (made ++ rest) ≡ after rest
unfolding after
after_clear [] rest clear = refl
after_clear (c ∷ made) rest clear = ap (λ b. cond b (Some (made ++ rest)) (after (made ++ rest))) clear.0 ∙ after_clear made rest clear.1

digits_clear : (ds : List ℕ) → list_all is_digit ds ≡ true → IsClear ds
digits_clear [] are = tt
digits_clear (d ∷ ds) are =
    let parts = and_parts (is_digit d) (list_all is_digit ds) are in
    let low = leb-true d 57 (and_parts (nat_le 48 d) (nat_le d 57) parts.0).1 in
    (ne_eqb d 95 (λ e. omega (arith, e, low)), digits_clear ds parts.1)

number_clear : (ds : List ℕ) → is_number ds ≡ true → IsClear ds
number_clear [] are = tt
number_clear (d ∷ ds) are = digits_clear (d ∷ ds) are

stay_clear : (ticks : ℕ) → ticks ≤ 1000000000 → IsClear (stay_name ticks)
stay_clear ticks few = (refl, (refl, (refl, (refl, number_clear (decimal ticks) (decimal_reads ticks (omega (arith, few))).are))))

stays_clear : (ss : List TaskStay) → Every StayFits ss → Every IsClear (map (λ s. stay_name s.ticks) ss)
stays_clear [] fits = tt
stays_clear (s ∷ ss) fits = (stay_clear s.ticks fits.0.ticks.few, stays_clear ss fits.1)

made_clear : (t : TaskTable) → TableFits t → Every IsClear (made_names t)
made_clear t fits = ((refl, tt), ((refl, tt), ((refl, tt), stays_clear (stays t) (all_stays t fits))))

-- ---- one tail for each name

behind : (made : List Name) → Every IsClear made → (tail name : Name) → list_any (λ m. same_name name (m ++ tail)) made ≡ true → after name ≡ after tail
behind [] clear tail name is = absurd cc
behind (m ∷ made) clear tail name is = by (same_name name (m ++ tail)) refl is (behind made clear.1 tail name)
  where
    by : (b : Bool) → same_name name (m ++ tail) ≡ b → (b || list_any (λ k. same_name name (k ++ tail)) made) ≡ true
        → (list_any (λ k. same_name name (k ++ tail)) made ≡ true → after name ≡ after tail) → after name ≡ after tail
    by true same all later = ap after (same_is name (m ++ tail) same) ∙ after_clear m tail clear.0
    by false same all later = later all

one_tail : (k l : ℕ) → k < 1000 → l < 1000 → after (tail_of k) ≡ after (tail_of l) → k ≡ l
unfolding after
one_tail zero zero a b same = refl
one_tail zero (suc l) a b same = absurd cc
one_tail (suc k) zero a b same = absurd cc
one_tail (suc k) (suc l) a b same =
    let digits : decimal (suc k) ≡ decimal (suc l) = cc in
    decimal_injective (suc k) (suc l) (omega (arith, a)) (omega (arith, b)) digits

-- ---- how many tails are not free

bit : Bool → ℕ
bit true = 1
bit false = 0

-- of the first so many numbers
abbrev counted : (ℕ → Bool) → ℕ → ℕ
counted test zero = 0
counted test (suc n) = bit (test n) + counted test n

none_counted : (test : ℕ → Bool) (n : ℕ) → ((k : ℕ) → k < n → test k ≡ false) → counted test n ≡ 0
unfolding bit
none_counted test zero all = refl
none_counted test (suc n) all =
    omega (arith, ap bit (all n (omega arith)), none_counted test n (λ k less. all k (omega (arith, less))))

not_both : (b : Bool) → b ≡ true → b ≡ false → ⊥
not_both true one other = cc
not_both false one other = cc

is_false : (b : Bool) → (b ≡ true → ⊥) → b ≡ false
is_false true never = absurd (never refl)
is_false false never = refl

one_counted : (test : ℕ → Bool) (n : ℕ) → ((k l : ℕ) → k < n → l < n → test k ≡ true → test l ≡ true → k ≡ l) → counted test n ≤ 1
unfolding bit
one_counted test zero one = omega arith
one_counted test (suc n) one = by (test n) refl (one_counted test n (λ k l a b is also. one k l (omega (arith, a)) (omega (arith, b)) is also))
  where
    by : (b : Bool) → test n ≡ b → counted test n ≤ 1 → bit b + counted test n ≤ 1
    by true is rest =
        (let others = none_counted test n (λ k less. is_false (test k) (λ also. (let e = one k n (omega (arith, less)) (omega arith) also is in omega (arith, e, less)))) in
        omega (arith, others))
    by false is rest = omega (arith, rest)

either_counted : (one other : ℕ → Bool) (n : ℕ) → counted (λ k. one k || other k) n ≤ counted one n + counted other n
unfolding bit
either_counted one other zero = omega arith
either_counted one other (suc n) = by (one n) (other n) (either_counted one other n)
  where
    by : (a b : Bool) → counted (λ k. one k || other k) n ≤ counted one n + counted other n
        → bit (a || b) + counted (λ k. one k || other k) n ≤ (bit a + counted one n) + (bit b + counted other n)
    by true b rest = omega (arith, rest)
    by false b rest = omega (arith, rest)

all_counted : (test : ℕ → Bool) (n : ℕ) → ((k : ℕ) → k < n → test k ≡ true) → counted test n ≡ n
unfolding bit
all_counted test zero all = refl
all_counted test (suc n) all =
    omega (arith, ap bit (all n (omega arith)), all_counted test n (λ k less. all k (omega (arith, less))))

never_counted : (n : ℕ) → counted (λ k. false) n ≡ 0
never_counted n = none_counted (λ k. false) n (λ k less. refl)

module _ (t : TaskTable) (fits : TableFits t) (n : ℕ) (few : n ≤ 999) where
  by_one : (name : Name) → counted (λ k. is_made_with t (tail_of k) name) n ≤ 1
  by_one name = one_counted (λ k. is_made_with t (tail_of k) name) n
      (λ k l a b is also. one_tail k l (omega (arith, a, few)) (omega (arith, b, few))
      (sym (behind (made_names t) (made_clear t fits) (tail_of k) name is) ∙ behind (made_names t) (made_clear t fits) (tail_of l) name also))

  by_all : (all : List Name) → counted (λ k. list_any (is_made_with t (tail_of k)) all) n ≤ length all
  by_all [] = omega (arith, never_counted n)
  by_all (name ∷ all) =
      omega (arith, by_one name, by_all all, either_counted (λ k. is_made_with t (tail_of k) name) (λ k. list_any (is_made_with t (tail_of k)) all) n)

-- ---- the first free one

stops : (test : ℕ → Bool) (a n : ℕ)
    → (test (a + prefix_len test (range_with_len a n)) ≡ false) ⊎ ((k : ℕ) → k < n → test (a + k) ≡ true)
stops test a zero = inr (λ k less. absurd (omega (arith, less)))
stops test a (suc n) = by (test a) refl (stops test (a + 1) n)
  where
    by : (b : Bool) → test a ≡ b → (test ((a + 1) + prefix_len test (range_with_len (a + 1) n)) ≡ false) ⊎ ((k : ℕ) → k < n → test ((a + 1) + k) ≡ true)
        → (test (a + cond b (1 + prefix_len test (range_with_len (a + 1) n)) 0) ≡ false) ⊎ ((k : ℕ) → k < suc n → test (a + k) ≡ true)
    by true is (inl free) =
        (let same : (a + 1) + prefix_len test (range_with_len (a + 1) n) ≡ a + (1 + prefix_len test (range_with_len (a + 1) n)) = omega arith in
        inl (subst (λ m. test m ≡ false) same free))
    by true is (inr all) = inr (each all)
      where
        each : ((k : ℕ) → k < n → test ((a + 1) + k) ≡ true) → (k : ℕ) → k < suc n → test (a + k) ≡ true
        each all zero less = (let same : a ≡ a + 0 = omega arith in subst (λ m. test m ≡ true) same is)
        each all (suc k) less = (let same : (a + 1) + k ≡ a + suc k = omega arith in subst (λ m. test m ≡ true) same (all k (omega (arith, less))))
    by false is rest = (let same : a ≡ a + 0 = omega arith in inl (subst (λ m. test m ≡ false) same is))

free_number : (t : TaskTable) → IsBegun t → is_in_the_way t (0 + prefix_len (is_in_the_way t) (range_with_len 0 (length (names t) + 1))) ≡ false
free_number t is = by (stops (is_in_the_way t) 0 (length (names t) + 1))
  where
    by : (is_in_the_way t (0 + prefix_len (is_in_the_way t) (range_with_len 0 (length (names t) + 1))) ≡ false) ⊎ ((k : ℕ) → k < length (names t) + 1 → is_in_the_way t (0 + k) ≡ true)
        → is_in_the_way t (0 + prefix_len (is_in_the_way t) (range_with_len 0 (length (names t) + 1))) ≡ false
    by (inl free) = free
    by (inr all) =
        (let every = all_counted (is_in_the_way t) (length (names t) + 1)
        (λ k less. (let same : 0 + k ≡ k = omega arith in subst (λ m. is_in_the_way t m ≡ true) same (all k less))) in
        let most = by_all t (table_fits t is) (length (names t) + 1) (omega (arith, few_names t is)) (names t) in
        absurd (omega (arith, every, most)))

any_here : {A : Type 0} (test : A → Bool) (x : A) (xs : List A) (k : ℕ) → k < length xs → get_or xs k x ≡ x → test x ≡ true → list_any test xs ≡ true
any_here test x [] k less is passes = absurd (omega (arith, less))
any_here test x (y ∷ xs) zero less is passes = ap (λ b. b || list_any test xs) (ap test is ∙ passes)
any_here test x (y ∷ xs) (suc k) less is passes = by (test y) (any_here test x xs k (omega (arith, less)) is passes)
  where
    by : (b : Bool) → list_any test xs ≡ true → (b || list_any test xs) ≡ true
    by true rest = refl
    by false rest = rest

pub is_free : (t : TaskTable) → IsBegun t → (name made : Name) → Contains (names t) name → Contains (made_names t) made → name ≡ made ++ made_tail t → ⊥
unfolding made_tail
is_free t is name made (k, k_less, k_is) (m, m_less, m_is) same =
    let number = prefix_len (is_in_the_way t) (range_with_len 0 (length (names t) + 1)) in
    let tail = tail_of number in
    let with_tail : same_name name (made ++ tail) ≡ true = ap (same_name name) (sym same) ∙ same_self name in
    let one = any_here (λ x. same_name name (x ++ tail)) made (made_names t) m m_less m_is with_tail in
    let way : is_in_the_way t number ≡ true = any_here (is_made_with t tail) name (names t) k k_less k_is one in
    let free = free_number t is in
    not_both (is_in_the_way t number) way (let e : 0 + number ≡ number = omega arith in subst (λ m. is_in_the_way t m ≡ false) e free)
