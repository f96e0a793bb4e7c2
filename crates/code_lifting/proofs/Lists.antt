-- Lists in which the thing at one place changes.
use Rattle.std.proofs.Common.{◌≡◌, inl, inr, ℕ, zero, suc, List, [], ◌∷◌, Option, Some, None, length, arith, refl, ap, ◌∙◌, true, false, Bool, length-set}
use Rattle.std.specs.Prelude.{slice_get, slice_set, position, unwrap_or}
use Rattle.std.proofs.lemmas.Bool.{cases_Bool}
use Rattle.std.proofs.lemmas.Bool.Decides.{nat_tests}
use Rattle.base.proofs.Lists.{get_set, get_other}
use Rattle.source_semantics.specs.Config.{changed}
use Rattle.machine_semantics.specs.Starts.{queue_of}

pub none_some : {A : Type 0} {o : Option A} {x : A} → o ≡ None → o ≡ Some x → ⊥
none_some p q = cc

-- the thing at place k is x now, and all others are as before
pub record Changed {A : Type 0} (before after : List A) (k : ℕ) (x : A) : Type 0 where
  pub here : slice_get after k ≡ Some x
  pub others : (i : ℕ) → (k ≡ i → ⊥) → slice_get after i ≡ slice_get before i
  pub many : length after ≡ length before

pub set_changes : {A : Type 0} (xs : List A) (k : ℕ) (x y : A) → slice_get xs k ≡ Some y → Changed xs (slice_set xs k x) k x
set_changes xs k x y at = record { here = get_set xs k x y at; others = λ i differ. get_other xs k i x differ; many = length-set xs k x }

pub changed_here : {A : Type 0} (f : A → A) (xs : List A) (k : ℕ) (x : A) → slice_get xs k ≡ Some x → slice_get (changed f k xs) k ≡ Some (f x)
changed_here f [] k x at = absurd cc
changed_here f (y ∷ ys) zero x at = let e : y ≡ x = cc in ap (λ z. Some (f z)) e
changed_here f (y ∷ ys) (suc k) x at = changed_here f ys k x at

pub changed_other : {A : Type 0} (f : A → A) (xs : List A) (k i : ℕ) → (k ≡ i → ⊥) → slice_get (changed f k xs) i ≡ slice_get xs i
changed_other f [] k i differ = refl
changed_other f (y ∷ ys) zero zero differ = absurd (differ refl)
changed_other f (y ∷ ys) zero (suc i) differ = refl
changed_other f (y ∷ ys) (suc k) zero differ = refl
changed_other f (y ∷ ys) (suc k) (suc i) differ = changed_other f ys k i (λ same. differ (ap suc same))

pub length_changed : {A : Type 0} (f : A → A) (xs : List A) (k : ℕ) → length (changed f k xs) ≡ length xs
length_changed f [] k = refl
length_changed f (y ∷ ys) zero = refl
length_changed f (y ∷ ys) (suc k) = ap suc (length_changed f ys k)

pub changed_changes : {A : Type 0} (f : A → A) (xs : List A) (k : ℕ) (x : A) → slice_get xs k ≡ Some x → Changed xs (changed f k xs) k (f x)
changed_changes f xs k x at = record { here = changed_here f xs k x at; others = λ i differ. changed_other f xs k i differ; many = length_changed f xs k }

pub not_changed : {A : Type 0} (xs : List A) (k : ℕ) (x : A) → slice_get xs k ≡ Some x → Changed xs xs k x
not_changed xs k x at = record { here = at; others = λ i differ. refl; many = refl }

pub changed_again : {A : Type 0} (xs ys zs : List A) (k : ℕ) (x y : A) → Changed xs ys k x → Changed ys zs k y → Changed xs zs k y
changed_again xs ys zs k x y a b = record { here = b.here; others = λ i differ. b.others i differ ∙ a.others i differ; many = b.many ∙ a.many }

-- ---- queues

pub queue_is : (qs : List (List ℕ)) (c : ℕ) → unwrap_or (slice_get qs c) [] ≡ queue_of qs c
queue_is [] c = refl
queue_is (q ∷ qs) zero = refl
queue_is (q ∷ qs) (suc c) = queue_is qs c

pub changed_queue : (f : List ℕ → List ℕ) (qs : List (List ℕ)) (c : ℕ) → changed f c qs ≡ slice_set qs c (f (queue_of qs c))
changed_queue f [] c = refl
changed_queue f (q ∷ qs) zero = refl
changed_queue f (q ∷ qs) (suc c) = ap (λ (rs : List (List ℕ)). q ∷ rs) (changed_queue f qs c)

-- ---- the first place that passes a test

position_past : {A : Type 0} (f : A → Bool) (x : A) (xs : List A) (m : ℕ) → f x ≡ false → position f xs ≡ Some m → position f (x ∷ xs) ≡ Some (suc m)
position_past f x xs m fails is = grind (arith, nat_tests)

pub position_only : {A : Type 0} (f : A → Bool) (xs : List A) (m : ℕ) (x : A) → slice_get xs m ≡ Some x → f x ≡ true
    → ((n : ℕ) (y : A) → slice_get xs n ≡ Some y → f y ≡ true → n ≡ m) → position f xs ≡ Some m
position_only f [] m x at passes only = absurd cc
position_only f (y ∷ ys) zero x at passes only = grind (arith, nat_tests)
position_only f (y ∷ ys) (suc m) x at passes only = elim (cases_Bool (f y)) [
  | inl is ↦ absurd (let e : zero ≡ suc m = only zero y refl is in omega (arith, e))
  | inr is ↦ position_past f y ys m is (position_only f ys m x at passes (λ n z at_n is_n. omega (arith, only (suc n) z at_n is_n)))
]

pub position_nowhere : {A : Type 0} (f : A → Bool) (xs : List A) → ((n : ℕ) (y : A) → slice_get xs n ≡ Some y → f y ≡ false) → position f xs ≡ None
position_nowhere f [] none = refl
position_nowhere f (y ∷ ys) none =
    let past : position f ys ≡ None = position_nowhere f ys (λ n z at. none (suc n) z at) in
    let fails : f y ≡ false = none 0 y refl in
    grind (arith, nat_tests, past, fails)
