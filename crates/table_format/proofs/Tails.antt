-- The first tail without a name in its way.
use Rattle.std.proofs.Common.{◌≡◌, ◌≢◌, ◌<◌, ◌≤◌, ◌+◌, ◌-◌, ℕ, zero, suc, Option, Some, None, List, [], ◌∷◌, ◌++◌, length, Bool, true, false, ◌||◌, cond, codes, decimal, map, refl, ap, sym, ◌∙◌, append-nil, arith}
use Rattle.std.specs.List.{list_any, prefix_len, range_with_len}
use Rattle.syntax_tree.specs.Plain.{Name}
use Rattle.table_format.specs.declared.table.TaskStay.{TaskStay}
use Rattle.std.specs.Prelude.{flat_map, if◌then◌else◌}
use Rattle.table_format.specs.declared.table.TaskTable.{TaskTable}
use Rattle.table_format.specs.Rules.{names, stays, task_names, same_name}
use Rattle.table_format.specs.Program.{stay_name, is_made_with, is_in_the_way, made_tail, tail_of}
use Rattle.table_format.specs.Parts.{are_met, first_free, made_with, tried}

pub tail_none : (number : ℕ) → number ≡ 0 → [] ≡ tail_of number
tail_none number is = sym (ap tail_of is)

pub tail_some : (number : ℕ) → number ≢ 0 → codes "_" ++ decimal number ≡ tail_of number
tail_some zero other = absurd (other refl)
tail_some (suc number) other = refl

-- the tail from this number on, so many being left
abbrev pub free_from : (names : List Name) → List TaskStay → (number left : ℕ) → Name
free_from names stays number left = tail_of (number + prefix_len (λ n. are_met names stays (tail_of n)) (range_with_len number left))

pub free_start : (names : List Name) (stays : List TaskStay) (all : ℕ) → free_from names stays 0 (all - 0) ≡ tail_of (prefix_len (λ n. are_met names stays (tail_of n)) (range_with_len 0 all))
free_start names stays all =
    let same : all - 0 ≡ all = omega arith in
    ap (λ k. tail_of (0 + prefix_len (λ n. are_met names stays (tail_of n)) (range_with_len 0 k))) same
    ∙ (let none : 0 + prefix_len (λ n. are_met names stays (tail_of n)) (range_with_len 0 all) ≡ prefix_len (λ n. are_met names stays (tail_of n)) (range_with_len 0 all) = omega arith in ap tail_of none)

-- a name is in its way
pub free_next : (names : List Name) (stays : List TaskStay) (number all : ℕ) → number < all → are_met names stays (tail_of number) ≡ true
    → free_from names stays number (all - number) ≡ free_from names stays (number + 1) (all - (number + 1))
free_next names stays number all below met =
    let left : all - number ≡ suc (all - (number + 1)) = omega arith in
    let p : ℕ → Bool = λ n. are_met names stays (tail_of n) in
    let rest = prefix_len p (range_with_len (number + 1) (all - (number + 1))) in
    ap (λ k. tail_of (number + prefix_len p (range_with_len number k))) left ∙ ap (λ b. tail_of (number + cond b (1 + rest) 0)) met
    ∙ (let sums : number + (1 + rest) ≡ number + 1 + rest = omega arith in ap tail_of sums)

-- none is
pub free_here : (names : List Name) (stays : List TaskStay) (number all : ℕ) → number < all → are_met names stays (tail_of number) ≡ false
    → free_from names stays number (all - number) ≡ tail_of number
free_here names stays number all below free =
    let left : all - number ≡ suc (all - (number + 1)) = omega arith in
    let p : ℕ → Bool = λ n. are_met names stays (tail_of n) in
    let rest = prefix_len p (range_with_len (number + 1) (all - (number + 1))) in
    ap (λ k. tail_of (number + prefix_len p (range_with_len number k))) left ∙ ap (λ b. tail_of (number + cond b (1 + rest) 0)) free
    ∙ (let sums : number + 0 ≡ number = omega arith in ap tail_of sums)

-- what trying the tail of a number tells
pub tried_none : (names : List Name) (stays : List TaskStay) (number : ℕ) (found : Option Name) → found ≡ tried names stays number → found ≡ None → are_met names stays (tail_of number) ≡ true
tried_none names stays number found is none = at (are_met names stays (tail_of number)) refl (sym none ∙ is)
  where
    at : (b : Bool) → are_met names stays (tail_of number) ≡ b → None ≡ (if b then None else Some (tail_of number)) → are_met names stays (tail_of number) ≡ true
    at true e f = e
    at false e f = cc

pub tried_some : (names : List Name) (stays : List TaskStay) (number : ℕ) (found : Option Name) (tail : Name) → found ≡ tried names stays number → found ≡ Some tail
    → (are_met names stays (tail_of number) ≡ false) × (tail ≡ tail_of number)
tried_some names stays number found tail is some = at (are_met names stays (tail_of number)) refl (sym some ∙ is)
  where
    at : (b : Bool) → are_met names stays (tail_of number) ≡ b → Some tail ≡ (if b then None else Some (tail_of number)) → (are_met names stays (tail_of number) ≡ false) × (tail ≡ tail_of number)
    at true e f = cc
    at false e f = let same : tail ≡ tail_of number = cc in (e, same)

-- all were tried
pub free_last : (names : List Name) (stays : List TaskStay) (number all : ℕ) → all ≤ number → number ≤ all → free_from names stays number (all - number) ≡ tail_of all
free_last names stays number all past within =
    let left : all - number ≡ 0 = omega arith in
    let p : ℕ → Bool = λ n. are_met names stays (tail_of n) in
    ap (λ k. tail_of (number + prefix_len p (range_with_len number k))) left ∙ (let sums : number + 0 ≡ all = omega arith in ap tail_of sums)

-- one turn of the search
pub search_next : (names : List Name) (stays : List TaskStay) (number all : ℕ) (found : Option Name) (whole : Name) → number < all → found ≡ tried names stays number → ((tail : Name) → found ≢ Some tail)
    → free_from names stays number (all - number) ≡ whole → free_from names stays (number + 1) (all - (number + 1)) ≡ whole
search_next names stays number all found whole below is other so_far =
    sym (free_next names stays number all below (at (are_met names stays (tail_of number)) refl)) ∙ so_far
  where
    at : (b : Bool) → are_met names stays (tail_of number) ≡ b → are_met names stays (tail_of number) ≡ true
    at true e = e
    at false e = absurd (other (tail_of number) (is ∙ ap (λ b. if b then None else Some (tail_of number)) e))

-- ---- the tail of a table

any_map : {A B : Type 0} (test : B → Bool) (f : A → B) (xs : List A) → list_any test (map f xs) ≡ list_any (λ x. test (f x)) xs
any_map test f [] = refl
any_map test f (x ∷ xs) = ap (λ b. test (f x) || b) (any_map test f xs)

any_same : {A : Type 0} (p q : A → Bool) → ((x : A) → p x ≡ q x) → (xs : List A) → list_any p xs ≡ list_any q xs
any_same p q same [] = refl
any_same p q same (x ∷ xs) = λ i. same x i || any_same p q same xs i

made_same : (t : TaskTable) (tail name : Name) → list_any (λ made. same_name name made) (made_with tail (stays t)) ≡ is_made_with t tail name
made_same t tail name =
    ap (λ b. same_name name (codes "x" ++ tail) || (same_name name (codes "i" ++ tail) || (same_name name (codes "j" ++ tail) || b)))
    (any_map (λ made. same_name name made) (λ s. stay_name s.ticks ++ tail) (stays t) ∙ sym (any_map (λ made. same_name name (made ++ tail)) (λ s. stay_name s.ticks) (stays t)))

met_is : (t : TaskTable) (number : ℕ) → are_met (names t) (stays t) (tail_of number) ≡ is_in_the_way t number
met_is t number =
    any_same (λ name. list_any (λ made. same_name name made) (made_with (tail_of number) (stays t))) (is_made_with t (tail_of number)) (made_same t (tail_of number)) (names t)

pub tail_is : (t : TaskTable) (listed : List Name) (all : List TaskStay) → listed ≡ names t → all ≡ stays t → first_free listed all ≡ made_tail t
unfolding made_tail
tail_is t listed all is so =
    (λ i. first_free (is i) (so i)) ∙ (λ i. tail_of (prefix_len (λ n. met_is t n i) (range_with_len 0 (length (names t) + 1))))

-- ---- names that are put one by one

-- the made names are put one by one
pub made_put : (tail : Name) (entries m_0 m_1 m_2 m_3 m_4 : List Name) → m_0 ≡ [] → m_1 ≡ m_0 ++ (codes "x" ++ (tail ++ [])) ∷ [] → m_2 ≡ m_1 ++ (codes "i" ++ (tail ++ [])) ∷ []
    → m_3 ≡ m_2 ++ (codes "j" ++ (tail ++ [])) ∷ [] → m_4 ≡ m_3 ++ entries → m_4 ≡ (codes "x" ++ tail) ∷ (codes "i" ++ tail) ∷ (codes "j" ++ tail) ∷ entries
made_put tail entries m_0 m_1 m_2 m_3 m_4 e_0 e_1 e_2 e_3 e_4 =
    let none = append-nil tail in
    e_4 ∙ ap (λ (m : List Name). m ++ entries) (e_3 ∙ ap (λ (m : List Name). m ++ (codes "j" ++ (tail ++ [])) ∷ []) (e_2 ∙ ap (λ (m : List Name). m ++ (codes "i" ++ (tail ++ [])) ∷ [])
    (e_1 ∙ ap (λ (m : List Name). m ++ (codes "x" ++ (tail ++ [])) ∷ []) e_0)))
    ∙ (λ k. (codes "x" ++ none k) ∷ (codes "i" ++ none k) ∷ (codes "j" ++ none k) ∷ entries)

-- the names of a table are put
pub names_put : (t : TaskTable) (all : List TaskStay) (s_0 s_1 s_2 s_3 : List Name) → all ≡ stays t → s_0 ≡ [] → s_1 ≡ s_0 ++ t.name ∷ [] → s_2 ≡ s_1 ++ flat_map task_names t.tasks
    → s_3 ≡ s_2 ++ map (λ s. s.monitor) all → s_3 ≡ names t
names_put t all s_0 s_1 s_2 s_3 is e_0 e_1 e_2 e_3 =
    e_3 ∙ ap (λ (every : List TaskStay). s_2 ++ map (λ s. s.monitor) every) is
    ∙ ap (λ (n : List Name). n ++ map (λ s. s.monitor) (stays t)) (e_2 ∙ ap (λ (n : List Name). n ++ flat_map task_names t.tasks) (e_1 ∙ ap (λ (n : List Name). n ++ t.name ∷ []) e_0))
