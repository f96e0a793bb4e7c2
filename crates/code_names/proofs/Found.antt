-- What is found step by step is what is first.
use Rattle.std.proofs.Common.{◌≡◌, ◌≤◌, ◌<◌, ◌+◌, ◌++◌, ℕ, zero, suc, List, [], ◌∷◌, drop, length, take, Option, Some, None, arith, refl, ap, sym, subst, ◌∙◌, get_or}
use Rattle.std.specs.Prelude.{Bool, true, false, cond, nat_le, slice_get}
use Rattle.std.proofs.lemmas.Bool.{leb-true, leb-false}
use Rattle.std.proofs.lemmas.List.{drop_more, take-append-le}
use Rattle.std.proofs.Math.Seq.{take-length}
use Rattle.std.proofs.lemmas.Option.{none-some, same_Some}
use Rattle.base.proofs.Lists.{one_longer, one_more}
use Rattle.code_names.specs.declared.nearest.Reached.{Reached}
use Rattle.code_names.specs.Goals.{earlier, place_at, earliest_of, calls_at, AreFirstPlaces, IsFirstReached, IsFirst, nearer, reached_from}

-- ---- one more

pub earliest_more : (row : List (Option ℕ)) (called : List ℕ) (i : ℕ) (here best answer : Option ℕ) → i < length called → here ≡ place_at row (get_or called i 0) → best ≡ earliest_of row (drop (i + 1) called)
    → answer ≡ earlier here best → answer ≡ earliest_of row (drop i called)
earliest_more row called i here best answer low is rest found =
    found ∙ (ap (λ x. earlier x best) is ∙ (ap (λ x. earlier (place_at row (get_or called i 0)) x) rest ∙ sym (ap (λ xs. earliest_of row xs) (drop_more called i 0 low))))

pub nearer_more : (row : List (Option ℕ)) (calls : List (List ℕ)) (pieces : List ℕ) (i piece : ℕ) (here : Option ℕ) (best answer : Option Reached) → i < length pieces → piece ≡ get_or pieces i 0
    → here ≡ earliest_of row (calls_at calls piece) → best ≡ reached_from row calls (drop (i + 1) pieces) → answer ≡ nearer piece here best → answer ≡ reached_from row calls (drop i pieces)
nearer_more row calls pieces i piece here best answer low at is rest found =
    found ∙ (ap (λ x. nearer piece x best) is ∙ (ap (λ x. nearer piece (earliest_of row (calls_at calls piece)) x) rest
    ∙ (ap (λ k. nearer k (earliest_of row (calls_at calls k)) (reached_from row calls (drop (i + 1) pieces))) at
    ∙ sym (ap (λ xs. reached_from row calls xs) (drop_more pieces i 0 low)))))

pub places_more : (goals : List (Option ℕ)) (calls : List (List ℕ)) (n : ℕ) (xs ys : List (Option ℕ)) (x : Option ℕ) → AreFirstPlaces goals calls n xs → ys ≡ xs ++ x ∷ []
    → x ≡ earlier (place_at goals n) (earliest_of xs (calls_at calls n)) → AreFirstPlaces goals calls (n + 1) ys
places_more goals calls n xs ys x are new is = record {
  one_each = one_longer xs ys x n are.one_each new;
  each = one_more (λ r o. o ≡ earlier (place_at goals r) (earliest_of (take r ys) (calls_at calls r))) xs ys x None n are.one_each new
      (λ r low. are.each r low ∙ ap (λ zs. earlier (place_at goals r) (earliest_of zs (calls_at calls r))) (kept r (omega (arith, low, are.one_each))))
      (is ∙ ap (λ zs. earlier (place_at goals n) (earliest_of zs (calls_at calls n))) whole);
} where
  kept : (r : ℕ) → r ≤ length xs → take r xs ≡ take r ys
  kept r low = sym (ap (λ zs. take r zs) new ∙ take-append-le r xs (x ∷ []) low)

  whole : xs ≡ take n ys
  whole = sym (ap (λ k. take k xs) (sym are.one_each) ∙ take-length xs) ∙ kept n (omega (arith, are.one_each))

-- ---- what is found is first

module _ (row : List (Option ℕ)) (calls : List (List ℕ)) where
  abbrev place_of : ℕ → Option ℕ
  place_of k = earliest_of row (calls_at calls k)

  -- a first piece that comes to nothing
  behind_none : (k : ℕ) (ks : List ℕ) → place_of k ≡ None → IsFirst place_of ks None → IsFirst place_of (k ∷ ks) None
  behind_none k ks none rest zero j at = ap (λ n. place_of n) (sym (same_Some k j at)) ∙ none
  behind_none k ks none rest (suc i) j at = rest i j at

  behind_some : (k : ℕ) (ks : List ℕ) → place_of k ≡ None → (b : Reached) → IsFirstReached place_of ks b → IsFirstReached place_of (k ∷ ks) b
  behind_some k ks none b rest = record {
    at = suc rest.at;
    there = rest.there;
    is = rest.is;
    first = first;
    nearest = nearest;
  } where
    nothing : (j p : ℕ) → k ≡ j → place_of j ≡ Some p → ⊥
    nothing j p same is = none-some p (sym none ∙ (ap (λ n. place_of n) same ∙ is))

    first : (i j p : ℕ) → slice_get (k ∷ ks) i ≡ Some j → place_of j ≡ Some p → b.place ≤ p
    first zero j p at is = absurd (nothing j p (same_Some k j at) is)
    first (suc i) j p at is = rest.first i j p at is

    nearest : (i j : ℕ) → slice_get (k ∷ ks) i ≡ Some j → place_of j ≡ Some b.place → suc rest.at ≤ i
    nearest zero j at is = absurd (nothing j b.place (same_Some k j at) is)
    nearest (suc i) j at is = (let h = rest.nearest i j at is in omega (arith, h))

  behind : (k : ℕ) (ks : List ℕ) → place_of k ≡ None → (o : Option Reached) → IsFirst place_of ks o → IsFirst place_of (k ∷ ks) o
  behind k ks none None rest = behind_none k ks none rest
  behind k ks none (Some b) rest = behind_some k ks none b rest

  -- one that comes to a place that is no later than those of the others
  in_front : (k p : ℕ) (ks : List ℕ) → place_of k ≡ Some p → ((i j q : ℕ) → slice_get ks i ≡ Some j → place_of j ≡ Some q → p ≤ q) → IsFirst place_of (k ∷ ks) (Some (record { place = p; piece = k }))
  in_front k p ks here others = record {
    at = 0;
    there = refl;
    is = here;
    first = first;
    nearest = λ i j at is. omega arith;
  } where
    first : (i j q : ℕ) → slice_get (k ∷ ks) i ≡ Some j → place_of j ≡ Some q → p ≤ q
    first zero j q at is = (let e : p ≡ q = same_Some p q (sym here ∙ (ap (λ n. place_of n) (same_Some k j at) ∙ is)) in omega (arith, e))
    first (suc i) j q at is = others i j q at is

  -- one that comes to a later place than the first of the others
  later : (k p : ℕ) (ks : List ℕ) (b : Reached) → place_of k ≡ Some p → b.place < p → IsFirst place_of ks (Some b) → IsFirst place_of (k ∷ ks) (Some b)
  later k p ks b here low rest = record {
    at = suc rest.at;
    there = rest.there;
    is = rest.is;
    first = first;
    nearest = nearest;
  } where
    same_place : (j q : ℕ) → k ≡ j → place_of j ≡ Some q → p ≡ q
    same_place j q same is = same_Some p q (sym here ∙ (ap (λ n. place_of n) same ∙ is))

    first : (i j q : ℕ) → slice_get (k ∷ ks) i ≡ Some j → place_of j ≡ Some q → b.place ≤ q
    first zero j q at is = (let e = same_place j q (same_Some k j at) is in omega (arith, low, e))
    first (suc i) j q at is = rest.first i j q at is

    nearest : (i j : ℕ) → slice_get (k ∷ ks) i ≡ Some j → place_of j ≡ Some b.place → suc rest.at ≤ i
    nearest zero j at is = absurd (let e = same_place j b.place (same_Some k j at) is in omega (arith, low, e))
    nearest (suc i) j at is = (let h = rest.nearest i j at is in omega (arith, h))

  one : (k : ℕ) (ks : List ℕ) (place : Option ℕ) → place_of k ≡ place → (best : Option Reached) → IsFirst place_of ks best → IsFirst place_of (k ∷ ks) (nearer k place best)
  one k ks None is best rest = behind k ks is best rest
  one k ks (Some p) is None rest = in_front k p ks is (λ i j q at there. absurd (none-some q (sym (rest i j at) ∙ there)))
  one k ks (Some p) is (Some b) rest = by (nat_le p b.place) refl where
    by : (t : Bool) → nat_le p b.place ≡ t → IsFirst place_of (k ∷ ks) (cond t (Some (record { place = p; piece = k })) (Some b))
    by true e = in_front k p ks is (λ i j q at there. (let h = rest.first i j q at there in let l : p ≤ b.place = leb-true p b.place e in omega (arith, h, l)))
    by false e = later k p ks b is (leb-false p b.place e) rest

  pub found_first : (ks : List ℕ) → IsFirst place_of ks (reached_from row calls ks)
  found_first [] = λ i k at. absurd (none-some k at)
  found_first (k ∷ ks) = one k ks (place_of k) refl (reached_from row calls ks) (found_first ks)
