-- Lists: which elements pass a test, and how many.
use Rattle.std.proofs.Common.{◌≡◌, ◌<◌, ◌≤◌, ◌⊎◌, inl, inr, Bool, true, false, cond, List, [], ◌∷◌, length, refl, ap, sym, ◌∙◌, arith, true≢false}
use Rattle.std.specs.Prelude.{Contains, count_by}
use Rattle.std.specs.List.{list_any}
use Rattle.std.proofs.lemmas.Bool.{or_cases, or_left, or_right}
use Rattle.std.proofs.lemmas.List.Sums.{sum_by-cons, count_by-le-length}
use Rattle.base.proofs.Members.{at_front, none_in, front_or_behind, behind}

-- one of a list passes a test
pub record Passing {X : Type 0} (test : X → Bool) (xs : List X) : Type 0 where
  pub one : X
  pub listed : Contains xs one
  pub passes : test one ≡ true

pub any-passes : {X : Type 0} (test : X → Bool) (xs : List X) → list_any test xs ≡ true → Passing test xs
any-passes test [] h = absurd (true≢false (sym h))
any-passes test (x ∷ xs) h = by (or_cases (test x) (list_any test xs) h) (any-passes test xs)
  where
    by : (test x ≡ true) ⊎ (list_any test xs ≡ true) → (list_any test xs ≡ true → Passing test xs) → Passing test (x ∷ xs)
    by (inl here) rest = record { one = x; listed = at_front x xs; passes = here }
    by (inr there) rest = let p = rest there in record { one = p.one; listed = behind x xs p.one p.listed; passes = p.passes }

pub any-from : {X : Type 0} (test : X → Bool) (xs : List X) (x : X) → Contains xs x → test x ≡ true → list_any test xs ≡ true
any-from test [] x h is = absurd (none_in x h)
any-from test (y ∷ ys) x h is = by (front_or_behind y ys x h) (λ there. any-from test ys x there is)
  where
    by : (y ≡ x) ⊎ Contains ys x → (Contains ys x → list_any test ys ≡ true) → list_any test (y ∷ ys) ≡ true
    by (inl same) rest = or_left (test y) (list_any test ys) (ap test same ∙ is)
    by (inr there) rest = or_right (test y) (list_any test ys) (rest there)

-- ---- how many pass

worth-le : (b c : Bool) → (b ≡ true → c ≡ true) → cond b 1 0 ≤ cond c 1 0
worth-le false c h = omega arith
worth-le true false h = absurd (true≢false (sym (h refl)))
worth-le true true h = omega arith

worth-lt : (b c : Bool) → b ≡ false → c ≡ true → cond b 1 0 < cond c 1 0
worth-lt false true h k = omega arith
worth-lt false false h k = absurd (true≢false (sym k))
worth-lt true c h k = absurd (true≢false h)

module _ {X : Type 0} (p q : X → Bool) (more : (x : X) → p x ≡ true → q x ≡ true) where
  -- where one test passes all that another passes, it counts no fewer
  pub count-le : (xs : List X) → count_by p xs ≤ count_by q xs
  count-le [] = omega arith
  count-le (x ∷ xs) =
      let a = sum_by-cons (λ (y : X). cond (p y) 1 0) x xs in
      let b = sum_by-cons (λ (y : X). cond (q y) 1 0) x xs in
      let c = worth-le (p x) (q x) (more x) in
      let rest = count-le xs in
      omega arith

  -- and more, where it passes one more
  pub count-lt : (xs : List X) (x : X) → Contains xs x → p x ≡ false → q x ≡ true → count_by p xs < count_by q xs
  count-lt [] x h fails passes = absurd (none_in x h)
  count-lt (y ∷ ys) x h fails passes = by (front_or_behind y ys x h) (λ there. count-lt ys x there fails passes)
    where
      by : (y ≡ x) ⊎ Contains ys x → (Contains ys x → count_by p ys < count_by q ys) → count_by p (y ∷ ys) < count_by q (y ∷ ys)
      by (inl same) rest =
          let a = sum_by-cons (λ (z : X). cond (p z) 1 0) y ys in
          let b = sum_by-cons (λ (z : X). cond (q z) 1 0) y ys in
          let c = worth-lt (p y) (q y) (ap p same ∙ fails) (ap q same ∙ passes) in
          let le = count-le ys in
          omega arith
      by (inr there) rest =
          let a = sum_by-cons (λ (z : X). cond (p z) 1 0) y ys in
          let b = sum_by-cons (λ (z : X). cond (q z) 1 0) y ys in
          let c = worth-le (p y) (q y) (more y) in
          let lt = rest there in
          omega arith

-- where one does not pass, fewer than all pass
pub count-few : {X : Type 0} (p : X → Bool) (xs : List X) (x : X) → Contains xs x → p x ≡ false → count_by p xs < length xs
count-few p xs x h fails =
    let lt = count-lt p (λ y. true) (λ y passes. refl) xs x h fails refl in
    let le = count_by-le-length (λ y. true) xs in
    omega arith
