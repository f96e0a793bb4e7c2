-- What a routine reaches, its callers reach.
use Rattle.std.proofs.Common.{◌≡◌, ◌≤◌, ◌<◌, ◌+◌, ◌++◌, ◌⊎◌, inl, inr, ℕ, zero, suc, List, [], ◌∷◌, length, Option, Some, None, arith, refl, ap, sym, subst, ◌∙◌, true, false, Bool}
use Rattle.std.specs.Prelude.{pos, ◌&&◌, ◌||◌, not, cond, max, take, nat_eq, nat_le, slice_get}
use Rattle.std.proofs.lemmas.Bool.{cases_Bool}
use Rattle.std.proofs.lemmas.Bool.Decides.{nat_tests}
use Rattle.std.proofs.lemmas.Option.{slice_get_within}
use Rattle.base.proofs.Lists.{take_get}
use Rattle.machine_isa.specs.declared.instr.Instr.TheVariants as i
use Rattle.base.specs.Capped.{cap}
use Rattle.machine_semantics.specs.Image.{Image, Monitor, Routine}
use Rattle.machine_semantics.specs.Tick.{ceiling}
use Rattle.valid_image.specs.Pieces.{belongs, called_by, called_from, called, piece_number}
use Rattle.valid_image.specs.Tables.{longer_stay, bound_of, stays_of, bound_at, stays_at, some_of, longest_of, own_stay, reach_of, reach, stay_of_process}
use Rattle.valid_image.specs.Times.{is_some}
use Rattle.valid_image_law.proofs.Tests.{meet}
use Rattle.valid_image_law.proofs.Firsts.{row_is, rows_before}

-- ---- calls

abbrev pub IsIn : ℕ → List ℕ → Type 0
IsIn r [] = ⊥
IsIn r (x ∷ xs) = (x ≡ r) ⊎ IsIn r xs

in_front : (r : ℕ) (xs ys : List ℕ) → IsIn r xs → IsIn r (xs ++ ys)
in_front r [] ys none = absurd none
in_front r (x ∷ xs) ys (inl is) = inl is
in_front r (x ∷ xs) ys (inr more) = inr (in_front r xs ys more)

in_back : (r : ℕ) (xs ys : List ℕ) → IsIn r ys → IsIn r (xs ++ ys)
in_back r [] ys is = is
in_back r (x ∷ xs) ys is = inr (in_back r xs ys is)

call_from : (image : Image) (k n at a r : ℕ) → at ≤ a → a < at + n → belongs image k a ≡ true → slice_get image.code a ≡ Some (i.Call (pos r)) → IsIn r (called_from image k n at)
call_from image k zero at a r from to own is = absurd (omega (arith, from, to))
call_from image k (suc n) at a r from to own is = elim (meet at a from) [
  | inl same ↦ in_front r (cond (belongs image k at) (called_by (slice_get image.code at)) []) (called_from image k n (at + 1)) (here same)
  | inr later ↦ in_back r (cond (belongs image k at) (called_by (slice_get image.code at)) []) (called_from image k n (at + 1)) (call_from image k n (at + 1) a r later (omega (arith, to)) own is)
] where
  here : at ≡ a → IsIn r (cond (belongs image k at) (called_by (slice_get image.code at)) [])
  here same =
      let mine : belongs image k at ≡ true = ap (λ n. belongs image k n) same ∙ own in
      let call : slice_get image.code at ≡ Some (i.Call (pos r)) = ap (λ n. slice_get image.code n) same ∙ is in
      subst (λ b. IsIn r (cond b (called_by (slice_get image.code at)) [])) (sym mine) (subst (λ o. IsIn r (called_by o)) (sym call) (inl refl))

-- the CALL instructions at the addresses of a piece name what it calls
pub call_in : (image : Image) (k a r : ℕ) → belongs image k a ≡ true → slice_get image.code a ≡ Some (i.Call (pos r)) → IsIn r (called image k)
call_in image k a r own is = call_from image k (length image.code) 0 a r (omega arith) (omega (arith, slice_get_within image.code a (i.Call (pos r)) is)) own is

-- ---- stays

-- the first is there only where the second is, and is no longer
abbrev pub NoLonger : Option ℕ → Option ℕ → Type 0
NoLonger None b = Unit {0}
NoLonger (Some a) None = ⊥
NoLonger (Some a) (Some b) = a ≤ b

no_longer_self : (x : Option ℕ) → NoLonger x x
no_longer_self None = tt
no_longer_self (Some a) = omega arith

left_stay : (x y : Option ℕ) → NoLonger x (longer_stay x y)
left_stay None y = tt
left_stay (Some a) None = omega arith
left_stay (Some a) (Some b) = omega arith

right_stay : (z x y : Option ℕ) → NoLonger z y → NoLonger z (longer_stay x y)
right_stay None x y le = tt
right_stay (Some c) None y le = le
right_stay (Some c) (Some a) None le = absurd le
right_stay (Some c) (Some a) (Some b) le = omega (arith, le)

through : (z x y : Option ℕ) → NoLonger z x → NoLonger z (longer_stay x y)
through None x y le = tt
through (Some c) None y le = absurd le
through (Some c) (Some a) None le = le
through (Some c) (Some a) (Some b) le = omega (arith, le)

longest_in : (stay : ℕ → Option ℕ) (rs : List ℕ) (r : ℕ) → IsIn r rs → NoLonger (stay r) (longest_of stay rs)
longest_in stay [] r none = absurd none
longest_in stay (x ∷ xs) r (inl is) = through (stay r) (stay x) (longest_of stay xs) (subst (λ n. NoLonger (stay r) (stay n)) (sym is) (no_longer_self (stay r)))
longest_in stay (x ∷ xs) r (inr more) = right_stay (stay r) (stay x) (longest_of stay xs) (longest_in stay xs r more)

some_in : (test : ℕ → Bool) (rs : List ℕ) (r : ℕ) → IsIn r rs → test r ≡ true → some_of test rs ≡ true
some_in test [] r none passes = absurd none
some_in test (x ∷ xs) r (inl is) passes = by (test x) (ap test is ∙ passes) where
  by : (b : Bool) → b ≡ true → b || some_of test xs ≡ true
  by true is = refl
  by false is = absurd cc
some_in test (x ∷ xs) r (inr more) passes = by (test x) (some_in test xs r more passes) where
  by : (b : Bool) → some_of test xs ≡ true → b || some_of test xs ≡ true
  by true rest = refl
  by false rest = rest

-- ---- rows

module _ (image : Image) where
  -- the row of a routine
  row : (r : ℕ) (x : Routine) → slice_get image.routines r ≡ Some x → slice_get (reach image) r ≡ Some (reach_of image (take r (reach image)) x)
  row r x at = row_is (reach_of image) image.routines r x at

  before : (r : ℕ) (x : Routine) → slice_get image.routines r ≡ Some x → length (take r (reach image)) ≡ r
  before r x at = rows_before (reach_of image) image.routines r (omega (arith, slice_get_within image.routines r x at))

  stays_are : (r m : ℕ) (x : Routine) → slice_get image.routines r ≡ Some x → stays_at (reach image) m r ≡ longer_stay (own_stay x m) (longest_of (stays_at (take r (reach image)) m) (called image r))
  stays_are r m x at = ap (λ o. stays_of m o) (row r x at) ∙ ap (λ n. longer_stay (own_stay x m) (longest_of (stays_at (take r (reach image)) m) (called image n))) (before r x at)

  bound_is : (r : ℕ) (x : Routine) → slice_get image.routines r ≡ Some x → bound_at (reach image) r ≡ not (nat_eq x.kind 0) || some_of (bound_at (take r (reach image))) (called image r)
  bound_is r x at = ap (λ o. bound_of o) (row r x at) ∙ ap (λ n. not (nat_eq x.kind 0) || some_of (bound_at (take r (reach image))) (called image n)) (before r x at)

  -- a routine reaches what one that it calls reaches
  pub calls_stay : (r q m : ℕ) (x : Routine) → slice_get image.routines r ≡ Some x → q < r → IsIn q (called image r) → NoLonger (stays_at (reach image) m q) (stays_at (reach image) m r)
  calls_stay r q m x at below is =
      let same : stays_at (take r (reach image)) m q ≡ stays_at (reach image) m q = ap (λ o. stays_of m o) (take_get r q (reach image) below) in
      let one : NoLonger (stays_at (reach image) m q) (longest_of (stays_at (take r (reach image)) m) (called image r)) = subst (λ s. NoLonger s (longest_of (stays_at (take r (reach image)) m) (called image r))) same (longest_in (stays_at (take r (reach image)) m) (called image r) q is) in
      subst (λ s. NoLonger (stays_at (reach image) m q) s) (sym (stays_are r m x at)) (right_stay (stays_at (reach image) m q) (own_stay x m) (longest_of (stays_at (take r (reach image)) m) (called image r)) one)

  -- an entry has its own stay
  pub owns_stay : (r : ℕ) (x : Routine) → slice_get image.routines r ≡ Some x → nat_eq x.kind 2 ≡ true → NoLonger (Some x.stay) (stays_at (reach image) x.owner r)
  owns_stay r x at kind =
      let same : nat_eq x.owner x.owner ≡ true = same_self x.owner in
      let own : own_stay x x.owner ≡ Some x.stay = ap (λ b. cond (b && nat_eq x.owner x.owner) (Some x.stay) None) kind ∙ ap (λ b. cond b (Some x.stay) None) same in
      subst (λ s. NoLonger (Some x.stay) s) (sym (stays_are r x.owner x at))
      (subst (λ s. NoLonger s (longer_stay (own_stay x x.owner) (longest_of (stays_at (take r (reach image)) x.owner) (called image r)))) own (left_stay (own_stay x x.owner) (longest_of (stays_at (take r (reach image)) x.owner) (called image r))))
    where
      same_self : (n : ℕ) → nat_eq n n ≡ true
      same_self n = grind (arith, nat_tests)

  pub calls_bound : (r q : ℕ) (x : Routine) → slice_get image.routines r ≡ Some x → q < r → IsIn q (called image r) → bound_at (reach image) q ≡ true → bound_at (reach image) r ≡ true
  calls_bound r q x at below is passes =
      let same : bound_at (take r (reach image)) q ≡ bound_at (reach image) q = ap (λ o. bound_of o) (take_get r q (reach image) below) in
      bound_is r x at ∙ by (not (nat_eq x.kind 0)) (some_in (bound_at (take r (reach image))) (called image r) q is (same ∙ passes))
    where
      by : (b : Bool) → some_of (bound_at (take r (reach image))) (called image r) ≡ true → b || some_of (bound_at (take r (reach image))) (called image r) ≡ true
      by true rest = refl
      by false rest = rest

  -- a routine of a process and an entry are bound themselves
  pub kind_bound : (r : ℕ) (x : Routine) → slice_get image.routines r ≡ Some x → nat_eq x.kind 0 ≡ false → bound_at (reach image) r ≡ true
  kind_bound r x at kind = bound_is r x at ∙ ap (λ b. not b || some_of (bound_at (take r (reach image))) (called image r)) kind

  -- and so does a process
  pub process_calls : (k q m : ℕ) → IsIn q (called image (piece_number image k)) → NoLonger (stays_at (reach image) m q) (stay_of_process image k m)
  process_calls k q m is = longest_in (stays_at (reach image) m) (called image (piece_number image k)) q is

-- ---- the greatest ceiling that is reached, and stays without the cap

-- of the first n monitors that are reached
abbrev pub limit_of : List Monitor → (ℕ → Option ℕ) → ℕ → ℕ
limit_of ms f zero = 0
limit_of ms f (suc n) = max (cond (is_some (f n)) (ceiling (slice_get ms n)) 0) (limit_of ms f n)

pub limit_more : (ms : List Monitor) (f g : ℕ → Option ℕ) (n : ℕ) → ((m : ℕ) → NoLonger (f m) (g m)) → limit_of ms f n ≤ limit_of ms g n
limit_more ms f g zero le = omega arith
limit_more ms f g (suc n) le = let one = each (f n) (g n) (le n) in let rest = limit_more ms f g n le in omega (arith, one, rest) where
  each : (x y : Option ℕ) → NoLonger x y → cond (is_some x) (ceiling (slice_get ms n)) 0 ≤ cond (is_some y) (ceiling (slice_get ms n)) 0
  each None y le = omega arith
  each (Some a) None le = absurd le
  each (Some a) (Some b) le = omega arith

pub limit_reaches : (ms : List Monitor) (f : ℕ → Option ℕ) (n m a : ℕ) → m < n → NoLonger (Some a) (f m) → ceiling (slice_get ms m) ≤ limit_of ms f n
limit_reaches ms f zero m a below there = absurd (omega (arith, below))
limit_reaches ms f (suc n) m a below there = elim (meet m n (omega (arith, below))) [
  | inl same ↦ (let one : cond (is_some (f n)) (ceiling (slice_get ms n)) 0 ≡ ceiling (slice_get ms n) = ap (λ b. cond b (ceiling (slice_get ms n)) 0) (is_there (f n) (subst (λ k. NoLonger (Some a) (f k)) same there)) in
      let place : ceiling (slice_get ms m) ≡ ceiling (slice_get ms n) = ap (λ k. ceiling (slice_get ms k)) same in
      omega (arith, one, place))
  | inr later ↦ (let rest = limit_reaches ms f n m a (omega (arith, later)) there in omega (arith, rest))
] where
  is_there : (x : Option ℕ) → NoLonger (Some a) x → is_some x ≡ true
  is_there (Some b) le = refl
  is_there None le = absurd le

pub limit_low : (ms : List Monitor) (f : ℕ → Option ℕ) (n c : ℕ) → ((m : ℕ) → m < n → is_some (f m) ≡ true → ceiling (slice_get ms m) ≤ c) → limit_of ms f n ≤ c
limit_low ms f zero c low = omega arith
limit_low ms f (suc n) c low = let one = each (is_some (f n)) refl in let rest = limit_low ms f n c (λ m below. low m (omega (arith, below))) in omega (arith, one, rest) where
  each : (b : Bool) → is_some (f n) ≡ b → cond b (ceiling (slice_get ms n)) 0 ≤ c
  each true is = low n (omega arith) is
  each false is = omega arith

-- a declared stay above the limit stands for any: more is what it may be more
abbrev pub true_stay : (more : ℕ) → Option ℕ → ℕ
true_stay more None = 0
true_stay more (Some n) = cond (nat_le n 1000000000) n (n + more)

stay_cases : (n : ℕ) → ((nat_le n 1000000000 ≡ true) × (n ≤ 1000000000)) ⊎ ((nat_le n 1000000000 ≡ false) × (1000000000 < n))
stay_cases n = elim (cases_Bool (nat_le n 1000000000)) [ inl is ↦ inl (is, grind (arith, nat_tests, is)) | inr is ↦ inr (is, grind (arith, nat_tests, is)) ]

pub stay_more : (more : ℕ) (x y : Option ℕ) → NoLonger x y → true_stay more x ≤ true_stay more y
stay_more more None y le = omega arith
stay_more more (Some a) None le = absurd le
stay_more more (Some a) (Some b) le = by (stay_cases a) (stay_cases b) where
  by : ((nat_le a 1000000000 ≡ true) × (a ≤ 1000000000)) ⊎ ((nat_le a 1000000000 ≡ false) × (1000000000 < a)) → ((nat_le b 1000000000 ≡ true) × (b ≤ 1000000000)) ⊎ ((nat_le b 1000000000 ≡ false) × (1000000000 < b)) → true_stay more (Some a) ≤ true_stay more (Some b)
  by (inl p) (inl q) = let e = ap (λ t. cond t a (a + more)) p.0 in let f = ap (λ t. cond t b (b + more)) q.0 in omega (arith, e, f, le)
  by (inl p) (inr q) = let e = ap (λ t. cond t a (a + more)) p.0 in let f = ap (λ t. cond t b (b + more)) q.0 in omega (arith, e, f, le)
  by (inr p) (inl q) = absurd (omega (arith, p.1, q.1, le))
  by (inr p) (inr q) = let e = ap (λ t. cond t a (a + more)) p.0 in let f = ap (λ t. cond t b (b + more)) q.0 in omega (arith, e, f, le)

-- it covers what the declared stay covers, but for the cap
pub stay_covers : (more needed n : ℕ) → needed ≤ more → (needed ≤ n) ⊎ (1000000000 < n) → needed ≤ true_stay more (Some n)
stay_covers more needed n within why = by (stay_cases n) why where
  by : ((nat_le n 1000000000 ≡ true) × (n ≤ 1000000000)) ⊎ ((nat_le n 1000000000 ≡ false) × (1000000000 < n)) → (needed ≤ n) ⊎ (1000000000 < n) → needed ≤ true_stay more (Some n)
  by (inl p) (inl le) = let e = ap (λ t. cond t n (n + more)) p.0 in omega (arith, e, le)
  by (inl p) (inr over) = absurd (omega (arith, p.1, over))
  by (inr p) why = let e = ap (λ t. cond t n (n + more)) p.0 in omega (arith, e, within)

pub stay_capped : (more n b : ℕ) → n ≤ b → cap (true_stay more (Some n)) ≤ b
stay_capped more n b le = by (stay_cases n) where
  by : ((nat_le n 1000000000 ≡ true) × (n ≤ 1000000000)) ⊎ ((nat_le n 1000000000 ≡ false) × (1000000000 < n)) → cap (true_stay more (Some n)) ≤ b
  by (inl p) = let e = ap (λ t. cond t n (n + more)) p.0 in omega (arith, e, le)
  by (inr p) = let e = ap (λ t. cond t n (n + more)) p.0 in omega (arith, e, le, p.1)
