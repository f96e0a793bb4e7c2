-- Marking nodes, one after another.
use Rattle.std.proofs.Common.{◌≡◌, ℕ, zero, suc, ◌+◌, ◌<◌, ◌≤◌, ◌⊎◌, inl, inr, Bool, true, false, cond, List, [], ◌∷◌, ◌++◌, length, take, set, get_or, replicate, refl, ap, sym, ◌∙◌, subst, arith, get_or-set_same, get_or-set_other}
use Rattle.std.specs.Prelude.{Contains, count_by, sum_by}
use Rattle.std.proofs.lemmas.Bool.{cases_eq}
use Rattle.std.proofs.lemmas.List.{take_at, take-take, length-take, length_push}
use Rattle.std.proofs.lemmas.List.Elements.{All-nil, All-cons, All-append, All-push, All-weaker, Contains-append_left, Contains-append_right, Contains-push}
use Rattle.std.proofs.lemmas.List.Sums.{sum_by-set}
use Rattle.static_calls.specs.Graph.{marked}
use Rattle.static_calls.specs.Marks.{AreListed, AreMarked}

pub marked-kept : (marks : List Bool) (node n : ℕ) → node < length marks → marked marks n ≡ true → marked (set marks node true) n ≡ true
marked-kept marks node n below h = by (cases_eq n node)
  where
    by : (n ≡ node) ⊎ (n ≡ node → ⊥) → marked (set marks node true) n ≡ true
    by (inl same) = ap (λ m. marked (set marks node true) m) same ∙ get_or-set_same marks node true false below
    by (inr other) = get_or-set_other marks node n true false other ∙ h

pub marked-cases : (marks : List Bool) (node n : ℕ) → marked (set marks node true) n ≡ true → (marked marks n ≡ true) ⊎ (node ≡ n)
marked-cases marks node n h = by (cases_eq n node)
  where
    by : (n ≡ node) ⊎ (n ≡ node → ⊥) → (marked marks n ≡ true) ⊎ (node ≡ n)
    by (inl same) = inr (sym same)
    by (inr other) = inl (sym (get_or-set_other marks node n true false other) ∙ h)

-- one mark more is set
pub count-set : (marks : List Bool) (node : ℕ) → node < length marks → marked marks node ≡ false → count_by (λ (m : Bool). m) (set marks node true) ≡ count_by (λ (m : Bool). m) marks + 1
count-set marks node below unset =
    let weight : Bool → ℕ = λ m. cond m 1 0 in
    let grown : sum_by weight (set marks node true) + weight (get_or marks node false) ≡ sum_by weight marks + weight true = sum_by-set weight marks node true false below in
    let none : weight (get_or marks node false) ≡ 0 = ap weight unset in
    omega arith

pub mark-one : (marks : List Bool) (found : List ℕ) (node : ℕ) → node < length marks → marked marks node ≡ false → AreMarked marks found (node ∷ []) (set marks node true) (found ++ node ∷ [])
mark-one marks found node below unset = record {
  kept = λ n h. marked-kept marks node n below h;
  all = All-cons (λ n. marked (set marks node true) n ≡ true) node [] (get_or-set_same marks node true false below) (All-nil (λ n. marked (set marks node true) n ≡ true));
  only = only;
  front = take_at found (node ∷ []) (length found) refl;
  listed = λ l. record {
    listed = listed l;
    marks_them = All-push (λ n. marked (set marks node true) n ≡ true) found node
        (All-weaker (λ n. marked marks n ≡ true) (λ n. marked (set marks node true) n ≡ true) (λ n h. marked-kept marks node n below h) found l.marks_them)
        (get_or-set_same marks node true false below);
    count = length_push found node ∙ ap (λ n. n + 1) l.count ∙ sym (count-set marks node below unset);
  };
}
  where
    only : (n : ℕ) → marked (set marks node true) n ≡ true → (marked marks n ≡ true) ⊎ Contains (node ∷ []) n
    only n h = by (marked-cases marks node n h)
      where
        by : (marked marks n ≡ true) ⊎ (node ≡ n) → (marked marks n ≡ true) ⊎ Contains (node ∷ []) n
        by (inl was) = inl was
        by (inr is) = inr (0, omega arith, is)

    listed : AreListed marks found → (n : ℕ) → marked (set marks node true) n ≡ true → Contains (found ++ node ∷ []) n
    listed l n h = by (marked-cases marks node n h)
      where
        by : (marked marks n ≡ true) ⊎ (node ≡ n) → Contains (found ++ node ∷ []) n
        by (inl was) = Contains-append_left found (node ∷ []) n (l.listed n was)
        by (inr is) = subst (λ m. Contains (found ++ node ∷ []) m) is (Contains-push found node)

pub mark-then : (marks : List Bool) (found xs : List ℕ) (marks1 : List Bool) (found1 ys : List ℕ) (marks2 : List Bool) (found2 : List ℕ) → AreMarked marks found xs marks1 found1 → AreMarked marks1 found1 ys marks2 found2 → AreMarked marks found (xs ++ ys) marks2 found2
mark-then marks found xs marks1 found1 ys marks2 found2 one two = record {
  kept = λ n h. two.kept n (one.kept n h);
  all = All-append (λ n. marked marks2 n ≡ true) xs ys (All-weaker (λ n. marked marks1 n ≡ true) (λ n. marked marks2 n ≡ true) two.kept xs one.all) two.all;
  only = only;
  front = sym (take-take (length found) (length found1) found2 longer) ∙ ap (take (length found)) two.front ∙ one.front;
  listed = λ l. two.listed (one.listed l);
}
  where
    longer : length found ≤ length found1
    longer = omega (arith, ap length one.front, length-take (length found) found1)

    only : (n : ℕ) → marked marks2 n ≡ true → (marked marks n ≡ true) ⊎ Contains (xs ++ ys) n
    only n h = by (two.only n h)
      where
        by : (marked marks1 n ≡ true) ⊎ Contains ys n → (marked marks n ≡ true) ⊎ Contains (xs ++ ys) n
        by (inr second) = inr (Contains-append_right xs ys n second)
        by (inl earlier) = before (one.only n earlier)
          where
            before : (marked marks n ≡ true) ⊎ Contains xs n → (marked marks n ≡ true) ⊎ Contains (xs ++ ys) n
            before (inl was) = inl was
            before (inr first) = inr (Contains-append_left xs ys n first)

-- at first nothing is marked
pub none-marked : (size n : ℕ) → marked (replicate size false) n ≡ true → ⊥
none-marked zero n h = cc
none-marked (suc size) zero h = cc
none-marked (suc size) (suc n) h = none-marked size n h
