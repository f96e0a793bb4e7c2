-- A search for a fault finds none exactly where no test fails.
use Rattle.std.proofs.Common.{◌≡◌, ◌≤◌, ◌+◌, ℕ, zero, suc, List, length, Option, Some, None, refl, ap, true, Bool}
use Rattle.std.specs.Prelude.{nat_eq, nat_le, slice_get}
use Rattle.std.proofs.lemmas.Bool.{eqb-true, eq-eqb, leb-true, le-leb}
use Rattle.valid_image.specs.Fault.{unless, or_else, first_of, of_some, first_in}
use Rattle.valid_image.specs.Sizes.{below, other}
use Rattle.valid_image_law.proofs.Firsts.{passed_test}

pub passes : (b : Bool) (a c : ℕ) → b ≡ true → unless b a c ≡ None
passes b a c is = ap (λ x. unless x a c) is

pub both_none : {A : Type 0} (x y : Option A) → x ≡ None → y ≡ None → or_else x y ≡ None
both_none x y none later = rw none later

-- ---- one declared number

pub is_below : (d n : ℕ) → below d n ≡ None → n ≤ d
is_below d n is = leb-true n d (passed_test (nat_le n d) d n is)

pub not_below : (d n : ℕ) → n ≤ d → below d n ≡ None
not_below d n le = passes (nat_le n d) d n (le-leb n d le)

pub is_same : (d n : ℕ) → other d n ≡ None → d ≡ n
is_same d n is = eqb-true d n (passed_test (nat_eq d n) d n is)

pub not_other : (d n : ℕ) → d ≡ n → other d n ≡ None
not_other d n same = passes (nat_eq d n) d n (eq-eqb d n same)

-- ---- over many

pub none_from : {A : Type 0} (f : ℕ → Option A) (n at : ℕ) → ((j : ℕ) → f j ≡ None) → first_of f n at ≡ None
none_from f zero at h = refl
none_from f (suc n) at h = both_none (f at) (first_of f n (at + 1)) (h at) (none_from f n (at + 1) h)

-- of each element
pub none_in : {A B : Type 0} (g : ℕ → A → Option B) (xs : List A) → ((k : ℕ) (x : A) → slice_get xs k ≡ Some x → g k x ≡ None) → first_in g xs ≡ None
none_in g xs h = none_from (λ k. of_some (g k) (slice_get xs k)) (length xs) 0 (λ j. at_place j (slice_get xs j) refl) where
  at_place : (j : ℕ) (o : Option _) → slice_get xs j ≡ o → of_some (g j) o ≡ None
  at_place j None is = refl
  at_place j (Some x) is = h j x is
