-- No two processes have one rank, so the time-outs by ranks are those by the processes in rank order.
use Rattle.std.proofs.Common.{◌≡◌, ◌≤◌, ◌<◌, ◌+◌, ◌++◌, inl, inr, ℕ, zero, suc, List, [], ◌∷◌, Option, Some, None, length, arith, refl, ap, sym, ◌∙◌, true, false, Bool}
use Rattle.std.specs.Prelude.{slice_get, cond, nat_eq, nat_lt, ◌&&◌, ◌||◌, filter_map, position, option_map, unwrap_or}
use Rattle.std.proofs.lemmas.Bool.{cases_Bool, cases_eq}
use Rattle.std.proofs.lemmas.Bool.Decides.{nat_tests}
use Rattle.std.proofs.lemmas.List.{length-map}
use Rattle.base.proofs.Lists.{some_at}
use Rattle.syntax_tree.specs.Plain.{Program}
use Rattle.source_semantics.specs.Names.{processes, deadline_of}
use Rattle.source_semantics.specs.Ranks.{rank, higher, deadlines, numbers_from, by_rank}
use Rattle.code_lifting.proofs.Items.{Item, out, out_items}

-- ---- ranks differ

abbrev above : (f x frame k : ℕ) → Bool
above f x frame k = nat_lt f frame || (nat_eq f frame && nat_lt x k)

above_all : (f x fi i fj j : ℕ) → above fi i fj j ≡ true → above f x fi i ≡ true → above f x fj j ≡ true
above_all f x fi i fj j p q = grind (arith, nat_tests, p, q)

not_above_itself : (f i : ℕ) → above f i f i ≡ false
not_above_itself f i = grind (arith, nat_tests)

one_above : (fi i fj j : ℕ) → (i ≡ j → ⊥) → above fi i fj j ≡ false → above fj j fi i ≡ true
one_above fi i fj j differ is = elim (cases_Bool (nat_lt i j)) [
  | inl lt ↦ grind (arith, nat_tests, is, lt)
  | inr ge ↦ elim (cases_Bool (nat_lt j i)) [
    | inl lt ↦ grind (arith, nat_tests, is, lt)
    | inr le ↦ absurd (differ (grind (arith, nat_tests, ge, le)))
  ]
]

abbrev count : Bool → ℕ
count b = cond b 1 0

at_most : (a b : Bool) (x y : ℕ) → (a ≡ true → b ≡ true) → x ≤ y → count a + x ≤ count b + y
at_most true true x y h le = omega (arith, le)
at_most true false x y h le = absurd (let no_one : false ≡ true = h refl in cc)
at_most false true x y h le = omega (arith, le)
at_most false false x y h le = omega (arith, le)

higher_most : (fi i fj j b : ℕ) (fs : List ℕ) → above fi i fj j ≡ true → higher i fi b fs ≤ higher j fj b fs
higher_most fi i fj j b [] is = omega arith
higher_most fi i fj j b (f ∷ fs) is = at_most (above f b fi i) (above f b fj j) (higher i fi (suc b) fs) (higher j fj (suc b) fs) (λ h. above_all f b fi i fj j is h) (higher_most fi i fj j (suc b) fs is)

higher_less : (fi i fj j b m : ℕ) (fs : List ℕ) → above fi i fj j ≡ true → b + m ≡ i → slice_get fs m ≡ Some fi → higher i fi b fs < higher j fj b fs
higher_less fi i fj j b m [] is at there = absurd cc
higher_less fi i fj j b zero (f ∷ fs) is at there =
    let here : b ≡ i = omega (arith, at) in
    let same : f ≡ fi = (let e : Some f ≡ Some fi = there in cc) in
    let first : above f b fi i ≡ false = ap (λ (x : ℕ). above x b fi i) same ∙ ap (λ (x : ℕ). above fi x fi i) here ∙ not_above_itself fi i in
    let second : above f b fj j ≡ true = ap (λ (x : ℕ). above x b fj j) same ∙ ap (λ (x : ℕ). above fi x fj j) here ∙ is in
    let rest : higher i fi (suc b) fs ≤ higher j fj (suc b) fs = higher_most fi i fj j (suc b) fs is in
    let x : count (above f b fi i) ≡ count false = ap (λ (t : Bool). count t) first in
    let y : count (above f b fj j) ≡ count true = ap (λ (t : Bool). count t) second in
    omega (arith, rest, x, y)
higher_less fi i fj j b (suc m) (f ∷ fs) is at there =
    let rest : higher i fi (suc b) fs < higher j fj (suc b) fs = higher_less fi i fj j (suc b) m fs is (omega (arith, at)) there in
    let head : count (above f b fi i) + 0 ≤ count (above f b fj j) + 0 = at_most (above f b fi i) (above f b fj j) 0 0 (λ h. above_all f b fi i fj j is h) (omega arith) in
    omega (arith, rest, head)

pub ranks_differ : (g : Program) (i j : ℕ) → i < length (processes g) → j < length (processes g) → rank g i ≡ rank g j → i ≡ j
ranks_differ g i j below_i below_j same = elim (cases_eq i j) [
  | inl is ↦ is
  | inr differ ↦
      let many : length (deadlines g) ≡ length (processes g) = length-map (processes g) (λ p. deadline_of g p.activation) in
      let fi : (f : ℕ) × (slice_get (deadlines g) i ≡ Some f) = some_at (deadlines g) i (omega (arith, many, below_i)) in
      let fj : (f : ℕ) × (slice_get (deadlines g) j ≡ Some f) = some_at (deadlines g) j (omega (arith, many, below_j)) in
      let ri : rank g i ≡ suc (higher i fi.0 0 (deadlines g)) = ap (λ (o : Option ℕ). suc (higher i (unwrap_or o 0) 0 (deadlines g))) fi.1 in
      let rj : rank g j ≡ suc (higher j fj.0 0 (deadlines g)) = ap (λ (o : Option ℕ). suc (higher j (unwrap_or o 0) 0 (deadlines g))) fj.1 in
      absurd (elim (cases_Bool (above fi.0 i fj.0 j)) [
        | inl is ↦ let lt : higher i fi.0 0 (deadlines g) < higher j fj.0 0 (deadlines g) = higher_less fi.0 i fj.0 j 0 i (deadlines g) is (omega arith) fi.1 in omega (arith, lt, ri, rj, same)
        | inr not_so ↦ let lt : higher j fj.0 0 (deadlines g) < higher i fi.0 0 (deadlines g) = higher_less fj.0 j fi.0 i 0 j (deadlines g) (one_above fi.0 i fj.0 j differ not_so) (omega arith) fj.1 in omega (arith, lt, ri, rj, same)
      ])
]

-- ---- the processes of a rank, of n from k on

abbrev pub of_rank : Program → (r k n : ℕ) → List Item
of_rank g r k zero = []
of_rank g r k (suc n) = cond (nat_eq (rank g k) r) (out k ∷ []) [] ++ of_rank g r (suc k) n

-- those of n ranks from r on
abbrev pub of_ranks : Program → (r n : ℕ) → List Item
of_ranks g r zero = []
of_ranks g r (suc n) = of_rank g r 0 (length (processes g)) ++ of_ranks g (suc r) n

abbrev one_item : ℕ → Option ℕ → List Item
one_item k None = []
one_item k (Some i) = out (k + i) ∷ []

none_of_rank : (g : Program) (r k n : ℕ) → ((i : ℕ) → k ≤ i → i < k + n → nat_eq (rank g i) r ≡ false) → of_rank g r k n ≡ []
none_of_rank g r k zero none = refl
none_of_rank g r k (suc n) none =
    ap (λ (b : Bool). cond b (out k ∷ []) [] ++ of_rank g r (suc k) n) (none k (omega arith) (omega arith)) ∙ none_of_rank g r (suc k) n (λ i low lt. none i (omega (arith, low)) (omega (arith, lt)))

position_first : {A : Type 0} (f : A → Bool) (x : A) (xs : List A) → f x ≡ true → position f (x ∷ xs) ≡ Some 0
position_first f x xs is = grind (arith, nat_tests, is)

position_later : {A : Type 0} (f : A → Bool) (x : A) (xs : List A) → f x ≡ false → position f (x ∷ xs) ≡ option_map suc (position f xs)
position_later f x xs is = grind (arith, nat_tests, is)

first_of_rank : (g : Program) (r k n : ℕ) → k + n ≤ length (processes g) → of_rank g r k n ≡ one_item k (position (λ i. nat_eq (rank g i) r) (numbers_from n k))
first_of_rank g r k zero all = refl
first_of_rank g r k (suc n) all = elim (cases_Bool (nat_eq (rank g k) r)) [
  | inl is ↦
      let at : rank g k ≡ r = grind (arith, nat_tests, is) in
      let z : k ≡ k + 0 = omega arith in
      ap (λ (b : Bool). cond b (out k ∷ []) [] ++ of_rank g r (suc k) n) is
      ∙ ap (λ (xs : List Item). out k ∷ xs) (none_of_rank g r (suc k) n (λ i low lt. others i low lt at))
      ∙ ap (λ (x : ℕ). out x ∷ []) z
      ∙ sym (ap (λ (o : Option ℕ). one_item k o) (position_first (λ i. nat_eq (rank g i) r) k (numbers_from n (suc k)) is))
  | inr is ↦
      ap (λ (b : Bool). cond b (out k ∷ []) [] ++ of_rank g r (suc k) n) is
      ∙ first_of_rank g r (suc k) n (omega (arith, all))
      ∙ further (position (λ i. nat_eq (rank g i) r) (numbers_from n (suc k)))
      ∙ sym (ap (λ (o : Option ℕ). one_item k o) (position_later (λ i. nat_eq (rank g i) r) k (numbers_from n (suc k)) is))
] where
  others : (i : ℕ) → suc k ≤ i → i < suc k + n → rank g k ≡ r → nat_eq (rank g i) r ≡ false
  others i low lt at = elim (cases_Bool (nat_eq (rank g i) r)) [
    | inl is ↦
        let at_i : rank g i ≡ r = grind (arith, nat_tests, is) in
        absurd (let same : i ≡ k = ranks_differ g i k (omega (arith, lt, all)) (omega (arith, all)) (at_i ∙ sym at) in omega (arith, same, low))
    | inr is ↦ is
  ]

  further : (o : Option ℕ) → one_item (suc k) o ≡ one_item k (option_map suc o)
  further None = refl
  further (Some i) = let z : suc k + i ≡ k + suc i = omega arith in ap (λ (x : ℕ). out x ∷ []) z

outs_of : (f : ℕ → Option ℕ) (r : ℕ) (rs : List ℕ) → out_items (filter_map f (r ∷ rs)) ≡ one_item 0 (f r) ++ out_items (filter_map f rs)
outs_of f r rs = by (f r) refl where
  by : (o : Option ℕ) → f r ≡ o → out_items (filter_map f (r ∷ rs)) ≡ one_item 0 o ++ out_items (filter_map f rs)
  by None is = rw is refl
  by (Some i) is = let z : i ≡ 0 + i = omega arith in rw is (ap (λ (x : ℕ). out x ∷ out_items (filter_map f rs)) z)

ranks_from : (g : Program) (r n : ℕ) → of_ranks g r n ≡ out_items (filter_map (λ x. position (λ k. nat_eq (rank g k) x) (numbers_from (length (processes g)) 0)) (numbers_from n r))
ranks_from g r zero = refl
ranks_from g r (suc n) =
    ap (λ (xs : List Item). xs ++ of_ranks g (suc r) n) (first_of_rank g r 0 (length (processes g)) (omega arith))
    ∙ ap (λ (xs : List Item). one_item 0 (position (λ k. nat_eq (rank g k) r) (numbers_from (length (processes g)) 0)) ++ xs) (ranks_from g (suc r) n)
    ∙ sym (outs_of (λ x. position (λ k. nat_eq (rank g k) x) (numbers_from (length (processes g)) 0)) r (numbers_from n (suc r)))

pub all_ranks : (g : Program) → of_ranks g 1 (length (processes g)) ≡ out_items (by_rank g)
all_ranks g = ranks_from g 1 (length (processes g))
