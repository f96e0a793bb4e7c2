-- All monitors together have as many entries as the table has stays, at most.
use Rattle.std.proofs.Common.{◌≡◌, ◌≤◌, ◌+◌, ℕ, Bool, true, false, not, ◌&&◌, nat_eq, List, [], ◌∷◌, length, map, refl, ap, sym, ◌∙◌, arith}
use Rattle.std.specs.Prelude.{cond, filter}
use Rattle.std.specs.Cmp.Lexicographic.{pointwise}
use Rattle.std.proofs.lemmas.Bool.{and_parts, eqb-true, eq-eqb}
use Rattle.table_format.specs.declared.table.TaskStay.{TaskStay}
use Rattle.table_format.specs.declared.table.TaskTable.{TaskTable}
use Rattle.table_format.specs.Rules.{same_name, distinct, stays, names_of_monitors, monitors}
use Rattle.table_format.specs.Program.{stays_in}
use Rattle.table_law.proofs.Lists.{Every, every_filter}

pub same_is : (a b : List ℕ) → same_name a b ≡ true → a ≡ b
same_is [] [] is = refl
same_is [] (y ∷ b) is = absurd cc
same_is (x ∷ a) [] is = absurd cc
same_is (x ∷ a) (y ∷ b) is =
    let parts = and_parts (nat_eq x y) (pointwise nat_eq a b) is in
    let first = eqb-true x y parts.0 in
    let rest = same_is a b parts.1 in
    λ i. first i ∷ rest i

pub same_self : (a : List ℕ) → same_name a a ≡ true
same_self [] = refl
same_self (x ∷ a) = ap (λ b. b && same_name a a) (eq-eqb x x refl) ∙ same_self a

-- ---- lists without repetition

abbrev pub AllDiffer : {A : Type 0} → (same : A → A → Bool) → List A → Type 0
AllDiffer same [] = Unit {0}
AllDiffer same (x ∷ xs) = Every (λ y. same x y ≡ false) xs × AllDiffer same xs

passes : {A : Type 0} (test : A → Bool) (xs : List A) → Every (λ y. test y ≡ true) (filter test xs)
passes test [] = tt
passes {A} test (x ∷ xs) = by (test x) refl (passes test xs)
  where
    by : (b : Bool) → test x ≡ b → Every (λ y. test y ≡ true) (filter test xs) → Every (λ y. test y ≡ true) (cond b (x ∷ filter test xs) (filter test xs))
    by true is rest = (is, rest)
    by false is rest = rest

differ_filter : {A : Type 0} (same : A → A → Bool) (test : A → Bool) (xs : List A) → AllDiffer same xs → AllDiffer same (filter test xs)
differ_filter same test [] all = tt
differ_filter {A} same test (x ∷ xs) all = by (test x) (every_filter (λ y. same x y ≡ false) test xs all.0) (differ_filter same test xs all.1)
  where
    by : (b : Bool) → Every (λ y. same x y ≡ false) (filter test xs) → AllDiffer same (filter test xs) → AllDiffer same (cond b (x ∷ filter test xs) (filter test xs))
    by true first rest = (first, rest)
    by false first rest = rest

not_false : (b : Bool) → not b ≡ true → b ≡ false
not_false true is = absurd cc
not_false false is = refl

falses : {A : Type 0} (test : A → Bool) (xs : List A) → Every (λ y. not (test y) ≡ true) xs → Every (λ y. test y ≡ false) xs
falses test [] all = tt
falses test (x ∷ xs) all = (not_false (test x) all.0, falses test xs all.1)

pub distinct_differ : {A : Type 0} (same : A → A → Bool) (xs : List A) → AllDiffer same (distinct same xs)
distinct_differ same [] = tt
distinct_differ same (x ∷ xs) = (
  falses (same x) (filter (λ y. not (same x y)) (distinct same xs)) (passes (λ y. not (same x y)) (distinct same xs)),
  differ_filter same (λ y. not (same x y)) (distinct same xs) (distinct_differ same xs),
)

-- ---- lengths

filter_short : {A : Type 0} (test : A → Bool) (xs : List A) → length (filter test xs) ≤ length xs
filter_short test [] = omega arith
filter_short {A} test (x ∷ xs) = by (test x) (filter_short test xs)
  where
    by : (b : Bool) → length (filter test xs) ≤ length xs → length (cond b (x ∷ filter test xs) (filter test xs)) ≤ length (x ∷ xs)
    by true rest = omega (arith, rest)
    by false rest = omega (arith, rest)

pub distinct_short : {A : Type 0} (same : A → A → Bool) (xs : List A) → length (distinct same xs) ≤ length xs
distinct_short same [] = omega arith
distinct_short same (x ∷ xs) = omega (arith, filter_short (λ y. not (same x y)) (distinct same xs), distinct_short same xs)

pub map_length : {A B : Type 0} (f : A → B) (xs : List A) → length (map f xs) ≡ length xs
map_length f [] = omega arith
map_length f (x ∷ xs) = omega (arith, map_length f xs)

-- those that pass, and those that do not
split_length : {A : Type 0} (test : A → Bool) (xs : List A) → length (filter test xs) + length (filter (λ x. not (test x)) xs) ≡ length xs
split_length test [] = omega arith
split_length {A} test (x ∷ xs) = by (test x) (split_length test xs)
  where
    by : (b : Bool) → length (filter test xs) + length (filter (λ y. not (test y)) xs) ≡ length xs
        → length (cond b (x ∷ filter test xs) (filter test xs)) + length (cond (not b) (x ∷ filter (λ y. not (test y)) xs) (filter (λ y. not (test y)) xs)) ≡ length (x ∷ xs)
    by true rest = omega (arith, rest)
    by false rest = omega (arith, rest)

-- ---- in monitors

abbrev of_monitor : List ℕ → List TaskStay → List TaskStay
of_monitor name xs = filter (λ s. same_name name s.monitor) xs

abbrev outside : List ℕ → List TaskStay → List TaskStay
outside name xs = filter (λ s. not (same_name name s.monitor)) xs

-- another monitor's stays are among those outside
kept : (one name : List ℕ) → same_name one name ≡ false → (xs : List TaskStay) → of_monitor name (outside one xs) ≡ of_monitor name xs
kept one name differ [] = refl
kept one name differ (s ∷ xs) = by (same_name one s.monitor) refl (same_name name s.monitor) refl (kept one name differ xs)
  where
    by : (a : Bool) → same_name one s.monitor ≡ a → (b : Bool) → same_name name s.monitor ≡ b → of_monitor name (outside one xs) ≡ of_monitor name xs
        → of_monitor name (cond (not a) (s ∷ outside one xs) (outside one xs)) ≡ cond b (s ∷ of_monitor name xs) (of_monitor name xs)
    by true is true also more =
        let same : name ≡ one = same_is name s.monitor also ∙ sym (same_is one s.monitor is) in
        let wrong : false ≡ true = sym differ ∙ ap (same_name one) same ∙ same_self one in
        absurd cc
    by true is false also more = more
    by false is true also more = ap (λ c. cond c (s ∷ of_monitor name (outside one xs)) (of_monitor name (outside one xs))) also ∙ ap (λ (ys : List TaskStay). s ∷ ys) more
    by false is false also more = ap (λ c. cond c (s ∷ of_monitor name (outside one xs)) (of_monitor name (outside one xs))) also ∙ more

abbrev pub sum_of : {A : Type 0} → (A → ℕ) → List A → ℕ
sum_of f [] = 0
sum_of f (x ∷ xs) = f x + sum_of f xs

moved : (one : List ℕ) (xs : List TaskStay) (names : List (List ℕ)) → Every (λ name. same_name one name ≡ false) names
    → sum_of (λ name. length (of_monitor name xs)) names ≡ sum_of (λ name. length (of_monitor name (outside one xs))) names
moved one xs [] differ = refl
moved one xs (name ∷ names) differ = omega (arith, ap (λ (ys : List TaskStay). length ys) (kept one name differ.0 xs), moved one xs names differ.1)

all_within : (names : List (List ℕ)) (xs : List TaskStay) → AllDiffer same_name names → sum_of (λ name. length (of_monitor name xs)) names ≤ length xs
all_within [] xs differ = omega arith
all_within (name ∷ names) xs differ =
    omega (arith, moved name xs names differ.0, all_within names (outside name xs) differ.1, split_length (λ s. same_name name s.monitor) xs)

distinct_within : (t : TaskTable) (names : List (List ℕ)) → sum_of (λ name. length (stays_in t name)) names ≤ sum_of (λ name. length (of_monitor name (stays t))) names
distinct_within t [] = omega arith
distinct_within t (name ∷ names) =
    omega (arith, distinct_within t names, distinct_short nat_eq (map (λ s. s.ticks) (of_monitor name (stays t))), map_length (λ s. s.ticks) (of_monitor name (stays t)))

pub few_entries : (t : TaskTable) → sum_of (λ name. length (stays_in t name)) (monitors t) ≤ length (stays t)
few_entries t = omega (arith, distinct_within t (monitors t), all_within (monitors t) (stays t) (distinct_differ same_name (names_of_monitors t)))
