-- What it says that a search for a fault finds none, and what a table from below is.
use Rattle.std.proofs.Common.{◌≡◌, ◌≤◌, ◌<◌, ◌+◌, ◌++◌, inl, inr, ℕ, zero, suc, List, [], ◌∷◌, length, Option, Some, None, arith, refl, ap, sym, subst, ◌∙◌, true, false, Bool}
use Rattle.std.specs.Prelude.{take, slice_get}
use Rattle.std.proofs.lemmas.List.{length-take-le, length-append}
use Rattle.std.proofs.lemmas.Option.{slice_get_within}
use Rattle.base.proofs.Lists.{take_get, append_front, append_back}
use Rattle.valid_image.specs.Fault.{unless, or_else, first_of, of_some}
use Rattle.valid_image.specs.Tables.{table}
use Rattle.valid_image_law.proofs.Tests.{meet}

-- ---- faults

pub neither : {A : Type 0} (x y : Option A) → or_else x y ≡ None → (x ≡ None) × (y ≡ None)
neither (Some a) y is = absurd cc
neither None y is = (refl, is)

pub passed_test : (b : Bool) (a c : ℕ) → unless b a c ≡ None → b ≡ true
passed_test true a c is = refl
passed_test false a c is = absurd cc

pub none_of : {A : Type 0} (f : ℕ → Option A) (n at j : ℕ) → first_of f n at ≡ None → at ≤ j → j < at + n → f j ≡ None
none_of f zero at j is from to = absurd (omega (arith, from, to))
none_of f (suc n) at j is from to =
    let p = neither (f at) (first_of f n (at + 1)) is in
    elim (meet at j from) [ inl same ↦ ap f (sym same) ∙ p.0 | inr later ↦ none_of f n (at + 1) j p.1 later (omega (arith, to)) ]

-- no element of a list has a fault
pub none_of_all : {A B : Type 0} (g : ℕ → A → Option B) (xs : List A) → first_of (λ k. of_some (g k) (slice_get xs k)) (length xs) 0 ≡ None
    → (k : ℕ) (x : A) → slice_get xs k ≡ Some x → g k x ≡ None
none_of_all g xs is k x at =
    let f : of_some (g k) (slice_get xs k) ≡ None = none_of (λ k. of_some (g k) (slice_get xs k)) (length xs) 0 k is (omega arith) (omega (arith, slice_get_within xs k x at)) in
    ap (λ o. of_some (g k) o) (sym at) ∙ f

-- ---- tables

module _ {A B : Type 0} (make : List B → A → B) where
  pub table_length : (done : List B) (xs : List A) → length (table make done xs) ≡ length done + length xs
  table_length done [] = omega arith
  table_length done (x ∷ xs) =
      let rest : length (table make (done ++ (make done x ∷ [])) xs) ≡ length (done ++ (make done x ∷ [])) + length xs = table_length (done ++ (make done x ∷ [])) xs in
      omega (arith, rest, length-append done (make done x ∷ []))

  -- it begins with what was done
  begins : (done : List B) (xs : List A) (j : ℕ) → j < length done → slice_get (table make done xs) j ≡ slice_get done j
  begins done [] j low = refl
  begins done (x ∷ xs) j low =
      let long : j < length (done ++ (make done x ∷ [])) = omega (arith, low, length-append done (make done x ∷ [])) in
      begins (done ++ (make done x ∷ [])) xs j long ∙ append_front done (make done x ∷ []) j low

  -- a list is known by its elements
  same_list : (xs ys : List B) → length xs ≡ length ys → ((j : ℕ) → j < length xs → slice_get xs j ≡ slice_get ys j) → xs ≡ ys
  same_list [] [] long same = refl
  same_list [] (y ∷ ys) long same = absurd (omega (arith, long))
  same_list (x ∷ xs) [] long same = absurd (omega (arith, long))
  same_list (x ∷ xs) (y ∷ ys) long same =
      let head : x ≡ y = (let e : Some x ≡ Some y = same 0 (omega arith) in cc) in
      let rest : xs ≡ ys = same_list xs ys (omega (arith, long)) (λ j low. same (suc j) (omega (arith, low))) in
      cc

  front : (done : List B) (xs : List A) → take (length done) (table make done xs) ≡ done
  front done xs =
      let long : length (take (length done) (table make done xs)) ≡ length done = length-take-le (length done) (table make done xs) (omega (arith, table_length done xs)) in
      same_list (take (length done) (table make done xs)) done long
      (λ j low. take_get (length done) j (table make done xs) (omega (arith, low, long)) ∙ begins done xs j (omega (arith, low, long)))

  row_from : (done : List B) (xs : List A) (j : ℕ) (x : A) → slice_get xs j ≡ Some x
      → slice_get (table make done xs) (length done + j) ≡ Some (make (take (length done + j) (table make done xs)) x)
  row_from done [] j x is = absurd cc
  row_from done (y ∷ ys) zero x is =
      let same : y ≡ x = cc in
      let more : List B = done ++ (make done y ∷ []) in
      let long : length more ≡ length done + 1 = length-append done (make done y ∷ []) in
      let z : length done + 0 ≡ length done = omega arith in
      let here : slice_get (table make more ys) (length done) ≡ Some (make done y) = begins more ys (length done) (omega (arith, long)) ∙ append_back done (make done y ∷ []) (length done) 0 (omega arith) in
      let first : take (length done) (table make more ys) ≡ done = front done (y ∷ ys) in
      subst (λ k. slice_get (table make more ys) k ≡ Some (make (take k (table make more ys)) x)) (sym z)
      (here ∙ ap (λ d. Some (make d y)) (sym first) ∙ ap (λ v. Some (make (take (length done) (table make more ys)) v)) same)
  row_from done (y ∷ ys) (suc j) x is =
      let more : List B = done ++ (make done y ∷ []) in
      let long : length more ≡ length done + 1 = length-append done (make done y ∷ []) in
      let z : length more + j ≡ length done + suc j = omega (arith, long) in
      subst (λ k. slice_get (table make more ys) k ≡ Some (make (take k (table make more ys)) x)) z (row_from more ys j x is)

  -- each row is made from those before it
  pub row_is : (xs : List A) (j : ℕ) (x : A) → slice_get xs j ≡ Some x → slice_get (table make [] xs) j ≡ Some (make (take j (table make [] xs)) x)
  row_is xs j x is = let z : 0 + j ≡ j = omega arith in subst (λ k. slice_get (table make [] xs) k ≡ Some (make (take k (table make [] xs)) x)) z (row_from [] xs j x is)

  pub rows_before : (xs : List A) (j : ℕ) → j ≤ length xs → length (take j (table make [] xs)) ≡ j
  rows_before xs j le = length-take-le j (table make [] xs) (omega (arith, le, table_length [] xs))
