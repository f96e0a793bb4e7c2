-- Routines that reach one of a process, or an entry.
use Rattle.std.proofs.Common.{◌≡◌, ◌≤◌, ◌<◌, ◌+◌, ◌++◌, ◌⊎◌, inl, inr, ℕ, zero, suc, List, [], ◌∷◌, length, Option, Some, None, arith, refl, ap, sym, subst, ◌∙◌, true, false, Bool}
use Rattle.std.specs.Prelude.{pos, ◌||◌, not, cond, nat_eq, take, slice_get}
use Rattle.std.proofs.lemmas.Bool.{cases_lt, or_cases, or_left, or_right, eqb-false, ne_eqb}
use Rattle.std.proofs.lemmas.Option.{slice_get_within}
use Rattle.base.proofs.Lists.{some_at, take_get, take_past}
use Rattle.machine_isa.specs.declared.instr.Instr.{Instr}
use Rattle.machine_isa.specs.declared.instr.Instr.TheVariants as i
use Rattle.machine_semantics.specs.Image.{Image, Routine}
use Rattle.valid_image.specs.Pieces.{belongs, called_by, called_from, called}
use Rattle.valid_image.specs.Tables.{Reach, reach, reach_of, bound_of, bound_at, some_of}
use Rattle.valid_image_law.proofs.Firsts.{row_is, rows_before, table_length}
use Rattle.valid_image_law.specs.Reached.{CallsFrom, ReachesBound, is_bound, calls_bound, BoundAreReached}
use Rattle.valid_image_law.proofs.Reached.{addresses_belong_to_owners}

not_is : (b : Bool) → not b ≡ true → b ≡ false
not_is true is = absurd cc
not_is false is = refl

-- ---- one of what a piece calls

module _ (test : ℕ → Bool) where
  in_both : (xs ys : List ℕ) → some_of test (xs ++ ys) ≡ true → (some_of test xs ≡ true) ⊎ (some_of test ys ≡ true)
  in_both [] ys is = inr is
  in_both (x ∷ xs) ys is = elim (or_cases (test x) (some_of test (xs ++ ys)) is) [
    | inl here ↦ inl (or_left (test x) (some_of test xs) here)
    | inr more ↦ elim (in_both xs ys more) [ inl front ↦ inl (or_right (test x) (some_of test xs) front) | inr back ↦ inr back ]
  ]

  in_front : (xs ys : List ℕ) → some_of test xs ≡ true → some_of test (xs ++ ys) ≡ true
  in_front [] ys is = absurd cc
  in_front (x ∷ xs) ys is = elim (or_cases (test x) (some_of test xs) is) [ inl here ↦ or_left (test x) (some_of test (xs ++ ys)) here | inr more ↦ or_right (test x) (some_of test (xs ++ ys)) (in_front xs ys more) ]

  in_back : (xs ys : List ℕ) → some_of test ys ≡ true → some_of test (xs ++ ys) ≡ true
  in_back [] ys is = is
  in_back (x ∷ xs) ys is = or_right (test x) (some_of test (xs ++ ys)) (in_back xs ys is)

  of_instr : (o : Option Instr) → some_of test (called_by o) ≡ true → (r : ℕ) × (o ≡ Some (i.Call (pos r))) × (test r ≡ true)
  of_instr (Some (i.Call (pos r))) is = elim (or_cases (test r) false is) [ inl here ↦ (r, refl, here) | inr more ↦ absurd cc ]
  of_instr _ is = absurd cc

  module _ (image : Image) (k : ℕ) where
    at_one : (a : ℕ) (b : Bool) → belongs image k a ≡ b → some_of test (cond b (called_by (slice_get image.code a)) []) ≡ true → (r : ℕ) × CallsFrom image k r × (test r ≡ true)
    at_one a true own is = (let x = of_instr (slice_get image.code a) is in (x.0, record { address = a; owned = (addresses_belong_to_owners image k a).0 own; is = x.1 }, x.2))
    at_one a false own is = absurd cc

    from : (n a : ℕ) → some_of test (called_from image k n a) ≡ true → (r : ℕ) × CallsFrom image k r × (test r ≡ true)
    from zero a is = absurd cc
    from (suc n) a is = elim (in_both (cond (belongs image k a) (called_by (slice_get image.code a)) []) (called_from image k n (a + 1)) is) [
      | inl here ↦ at_one a (belongs image k a) refl here
      | inr more ↦ from n (a + 1) more
    ]

    to_one : (b : Bool) (o : Option Instr) (r : ℕ) → b ≡ true → o ≡ Some (i.Call (pos r)) → test r ≡ true → some_of test (cond b (called_by o) []) ≡ true
    to_one b o r own is told = subst (λ c. some_of test (cond c (called_by o) []) ≡ true) (sym own) (subst (λ x. some_of test (called_by x) ≡ true) (sym is) (or_left (test r) false told))

    to : (n a address r : ℕ) → a ≤ address → address < a + n → belongs image k address ≡ true → slice_get image.code address ≡ Some (i.Call (pos r)) → test r ≡ true → some_of test (called_from image k n a) ≡ true
    to zero a address r low high own is told = absurd (omega (arith, low, high))
    to (suc n) a address r low high own is told = elim (cases_lt a address) [
      | inl less ↦ in_back (cond (belongs image k a) (called_by (slice_get image.code a)) []) (called_from image k n (a + 1)) (to n (a + 1) address r (omega (arith, less)) (omega (arith, high)) own is told)
      | inr more ↦
          let same : address ≡ a = omega (arith, low, more) in
          in_front (cond (belongs image k a) (called_by (slice_get image.code a)) []) (called_from image k n (a + 1))
          (to_one (belongs image k a) (slice_get image.code a) r (subst (λ x. belongs image k x ≡ true) same own) (subst (λ x. slice_get image.code x ≡ Some (i.Call (pos r))) same is) told)
    ]

    to_called : (r : ℕ) → CallsFrom image k r → test r ≡ true → some_of test (called image k) ≡ true
    to_called r c told =
        to (length image.code) 0 c.address r (omega arith) (omega (arith, slice_get_within image.code c.address (i.Call (pos r)) c.is)) ((addresses_belong_to_owners image k c.address).1 c.owned) c.is told

-- ---- over the routines

module _ (image : Image) where
  abbrev rows_below : ℕ → ℕ → Bool
  rows_below below r = bound_at (take below (reach image)) r

  row : (r : ℕ) (x : Routine) → slice_get image.routines r ≡ Some x → bound_at (reach image) r ≡ (not (nat_eq x.kind 0) || some_of (rows_below r) (called image r))
  row r x at =
      let count : length (take r (reach image)) ≡ r = rows_before (reach_of image) image.routines r (omega (arith, slice_get_within image.routines r x at)) in
      ap bound_of (row_is (reach_of image) image.routines r x at) ∙ ap (λ k. not (nat_eq x.kind 0) || some_of (rows_below r) (called image k)) count

  there : (o : Option Reach) → bound_of o ≡ true → (x : Reach) × (o ≡ Some x)
  there None is = absurd cc
  there (Some x) is = (x, refl)

  has_routine : (r : ℕ) → bound_at (reach image) r ≡ true → (x : Routine) × (slice_get image.routines r ≡ Some x)
  has_routine r is =
      let x = there (slice_get (reach image) r) is in
      some_at image.routines r (omega (arith, slice_get_within (reach image) r x.0 x.1, table_length (reach_of image) [] image.routines))

  low_row : (below r : ℕ) → rows_below below r ≡ true → (r < below) × (bound_at (reach image) r ≡ true)
  low_row below r is = elim (cases_lt r below) [
    | inl low ↦ (low, sym (ap bound_of (take_get below r (reach image) low)) ∙ is)
    | inr high ↦ absurd (let e : rows_below below r ≡ false = ap bound_of (take_past below r (reach image) high) in cc)
  ]

  one_reached : (r : ℕ) (x : Routine) → slice_get image.routines r ≡ Some x → ((q : ℕ) → q < r → bound_at (reach image) q ≡ true → ReachesBound image q) → bound_at (reach image) r ≡ true → ReachesBound image r
  one_reached r x at deeper is = elim (or_cases (not (nat_eq x.kind 0)) (some_of (rows_below r) (called image r)) (sym (row r x at) ∙ is)) [
    | inl kind ↦ is_bound r x at (eqb-false x.kind 0 (not_is (nat_eq x.kind 0) kind))
    | inr some ↦ (let c = from (rows_below r) image r (length image.code) 0 some in let low = low_row r c.0 c.2 in calls_bound r c.0 x at c.1 low.0 (deeper c.0 low.0 low.1))
  ]

  reached : (n r : ℕ) → r ≤ n → bound_at (reach image) r ≡ true → ReachesBound image r
  reached zero r le is = (let x = has_routine r is in one_reached r x.0 x.1 (λ q low b. absurd (omega (arith, low, le))) is)
  reached (suc n) r le is = (let x = has_routine r is in one_reached r x.0 x.1 (λ q low b. reached n q (omega (arith, low, le)) b) is)

  is_reached : (r : ℕ) → ReachesBound image r → bound_at (reach image) r ≡ true
  is_reached r (is_bound _ x at kind) = row r x at ∙ or_left (not (nat_eq x.kind 0)) (some_of (rows_below r) (called image r)) (ap not (ne_eqb x.kind 0 kind))
  is_reached r (calls_bound _ q x at c low more) =
      row r x at
      ∙ or_right (not (nat_eq x.kind 0)) (some_of (rows_below r) (called image r))
      (to_called (rows_below r) image r q c (ap bound_of (take_get r q (reach image) low) ∙ is_reached q more))

pub bound_are_reached : BoundAreReached
bound_are_reached image r = (reached image r r (omega arith), is_reached image r)
