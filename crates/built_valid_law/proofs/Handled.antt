-- A handler takes few numbers: each stands once, and is at most 999.
use Rattle.std.proofs.Common.{◌≡◌, ◌≤◌, ◌<◌, ◌∙◌, ◌||◌, ◌&&◌, ◌⊎◌, inl, inr, ℕ, suc, Bool, true, false, cond, ℤ, pos, negsuc, List, [], ◌∷◌, length, map, get_or, arith, refl, ap, sym}
use Rattle.std.specs.Prelude.{All, AllPairs, eqb, int_le, nat_le}
use Rattle.std.specs.List.{IsDistinct, list_any}
use Rattle.std.proofs.lemmas.Bool.{eqb-true, leb-true, ne_eqb, or_cases}
use Rattle.std.proofs.lemmas.Bool.Decides.{nat_tests}
use Rattle.std.proofs.lemmas.List.{get_or-map, length-map}
use Rattle.std.proofs.lemmas.List.Elements.{All-get_or, All-head, All-tail}
use Rattle.std.proofs.lemmas.Map.Keys.{IsDistinct-from_apart}
use Rattle.std.proofs.lemmas.Map.Steps.{length-le_from_distinct_below}
use Rattle.base.specs.Words.{within}
use Rattle.syntax_tree.specs.Plain.{Constant, literal_constant, Program}
use Rattle.source_semantics.specs.Names.{as_count, constant_value, count_value}
use Rattle.code_spec.specs.Compiled.{ascending, inserted}
use Rattle.static_semantics.specs.WellFormed.{Differ, IsHandled}

-- ---- in ascending order they are as many

put_in : (k n : ℕ) (ns : List ℕ) (b : Bool) → length (inserted k ns) ≡ suc (length ns) → length (cond b (k ∷ n ∷ ns) (n ∷ inserted k ns)) ≡ suc (suc (length ns))
put_in k n ns true rest = refl
put_in k n ns false rest = ap (λ (j : ℕ). suc j) rest

one_more : (k : ℕ) (ns : List ℕ) → length (inserted k ns) ≡ suc (length ns)
one_more k [] = refl
one_more k (n ∷ ns) = put_in k n ns (nat_le k n) (one_more k ns)

pub as_many : (ns : List ℕ) → length (ascending ns) ≡ length ns
as_many [] = refl
as_many (k ∷ ks) = one_more k (ascending ks) ∙ ap (λ (j : ℕ). suc j) (as_many ks)

-- ---- numbers that are handled

abbrev IsNumber : ℤ → Type 0
IsNumber v = within (pos 1) (pos 4) v || within (pos 10) (pos 999) v ≡ true

either : (a b c d : Bool) → (a && b) || (c && d) ≡ true → (b ≡ true) ⊎ (d ≡ true)
either a true c d h = inl refl
either a false c true h = inr refl
either true false true false h = absurd cc
either true false false false h = absurd cc
either false false true false h = absurd cc
either false false false false h = absurd cc

low : (v : ℤ) → IsNumber v → as_count v < 1000
low (negsuc n) h = omega arith
low (pos n) h =
    elim (either (int_le (pos 1) (pos n)) (int_le (pos n) (pos 4)) (int_le (pos 10) (pos n)) (int_le (pos n) (pos 999)) h)
    [ inl e ↦ (let le : n ≤ 4 = leb-true n 4 e in omega (arith, le)) | inr e ↦ (let le : n ≤ 999 = leb-true n 999 e in omega (arith, le)) ]

-- none is below 0, so two that differ count differently
apart : (v w : ℤ) → IsNumber v → IsNumber w → (v ≡ w → ⊥) → as_count v ≡ as_count w → ⊥
apart (pos m) (pos n) a b differ same = differ (ap (λ (k : ℕ). pos k) same)
apart (negsuc m) w a b differ same = first_of (cc, grind (arith, nat_tests, a))
apart (pos m) (negsuc n) a b differ same = first_of (cc, grind (arith, nat_tests, b))

module _ (g : Program) where
  all_low : (cs : List Constant) → All (IsHandled g) cs → (q : ℕ) → list_any (eqb q) (map (λ (c : Constant). count_value g c) cs) ≡ true → q < 1000
  all_low [] handled q is = absurd cc
  all_low (c ∷ cs) handled q is = elim (or_cases (eqb q (count_value g c)) (list_any (eqb q) (map (λ (x : Constant). count_value g x) cs)) is) [
    | inl here ↦ (let same : q ≡ count_value g c = eqb-true q (count_value g c) here in omega (arith, same, low (constant_value g c) (All-head (IsHandled g) c cs handled).limits))
    | inr later ↦ all_low cs (All-tail (IsHandled g) c cs handled) q later
  ]

  -- some constant
  abbrev other : Constant
  other = literal_constant false 0

  all_apart : (cs : List Constant) → All (IsHandled g) cs → AllPairs (Differ g) cs → IsDistinct eqb (map (λ (c : Constant). count_value g c) cs)
  all_apart cs handled once = IsDistinct-from_apart eqb (map (λ (c : Constant). count_value g c) cs) (λ i j d before within.
      (let many : length (map (λ (c : Constant). count_value g c) cs) ≡ length cs = length-map cs (λ (c : Constant). count_value g c) in
      let j_low : j < length cs = omega (arith, within, many) in
      let i_low : i < length cs = omega (arith, before, j_low) in
      let at_i : get_or (map (λ (c : Constant). count_value g c) cs) i d ≡ count_value g (get_or cs i other) = get_or-map (λ (c : Constant). count_value g c) cs i other d i_low in
      let at_j : get_or (map (λ (c : Constant). count_value g c) cs) j d ≡ count_value g (get_or cs j other) = get_or-map (λ (c : Constant). count_value g c) cs j other d j_low in
      let a : IsHandled g (get_or cs i other) = All-get_or (IsHandled g) cs i other i_low handled in
      let b : IsHandled g (get_or cs j other) = All-get_or (IsHandled g) cs j other j_low handled in
      ne_eqb _ _ (λ same.
      apart (constant_value g (get_or cs i other)) (constant_value g (get_or cs j other)) a.limits b.limits (once i j other before j_low) (sym at_i ∙ same ∙ at_j))))

  pub few_numbers : (cs : List Constant) → All (IsHandled g) cs → AllPairs (Differ g) cs → length (ascending (map (λ (c : Constant). count_value g c) cs)) ≤ 1000
  few_numbers cs handled once =
      let many : length (ascending (map (λ (c : Constant). count_value g c) cs)) ≡ length (map (λ (c : Constant). count_value g c) cs)
      = as_many (map (λ (c : Constant). count_value g c) cs) in
      let few : length (map (λ (c : Constant). count_value g c) cs) ≤ 1000
      = length-le_from_distinct_below (map (λ (c : Constant). count_value g c) cs) 1000 (all_apart cs handled once) (all_low cs handled) in
      omega (arith, many, few)
