-- One routine after the other: what is kept, and what is due.
use Rattle.std.proofs.Common.{◌≡◌, ◌≤◌, ◌<◌, ◌+◌, ◌-◌, ◌++◌, ◌⊎◌, inl, inr, ℕ, suc, Bool, true, false, List, [], ◌∷◌, length, Option, Some, None, arith, refl, ap, sym, ◌∙◌, map}
use Rattle.std.specs.Prelude.{◌&&◌, min, nat_eq, option_map, take, slice_get}
use Rattle.std.proofs.lemmas.Bool.{cases_lt}
use Rattle.std.proofs.lemmas.List.{length-map, length-append}
use Rattle.std.proofs.lemmas.Option.{slice_get-map, slice_get_past, slice_get_within}
use Rattle.base.proofs.Lists.{map_get, take_get, take_past, append_front, append_back}
use Rattle.base.specs.Capped.{cap}
use Rattle.image.specs.declared.raw.RawImage.{RawImage}
use Rattle.image.specs.declared.raw.RawRoutine.{RawRoutine}
use Rattle.image.specs.Raw.{image_of, routine_of}
use Rattle.machine_semantics.specs.Trees.{size}
use Rattle.valid_image.specs.Fault.{Fault, unless, first_of, of_some, first_in}
use Rattle.valid_image.specs.Found.{Known, Found, amount, guard}
use Rattle.valid_image.specs.Pieces.{pieces, piece_of_routine, piece_of_process, due_start, end_of_piece}
use Rattle.valid_image.specs.Shape.{is_found, routine_shape_fault}
use Rattle.valid_image.specs.Tables.{count, known, routine_found, found_or_nothing}
use Rattle.loader_code.proofs.Searching.{one_here, of_element}
use Rattle.valid_image_law.specs.Held.{held, hold, held_known}
use Rattle.loader_code.specs.declared.known.RoutineCost as code
use Rattle.loader_code.specs.TreesTold.{known_of}
use Rattle.loader.specs.declared.parts.CodeCosts.{CodeCosts}
use Rattle.loader.specs.Found.{AreAlike}
use Rattle.loader.specs.Parts.{IsKept}
use Rattle.loader.proofs.Alike.{routine_alike}

abbrev pub test_at : RawImage → ℕ → Option Fault
test_at raw r = of_some (routine_shape_fault (image_of raw) r) (slice_get (image_of raw).routines r)

-- before routine r
pub record Before (raw : RawImage) (parts : CodeCosts) (r : ℕ) : Type 0 where
  pub due : parts.end ≡ due_start (pieces (image_of raw)) r
  pub within : parts.end ≤ length raw.code
  pub known_rows : AreAlike (map known_of parts.known) (take r (known (image_of raw)))
  pub known_count : length parts.known ≡ r
  pub count : length parts.routines ≡ r
  pub kept : (j : ℕ) (x : RawRoutine) → j < r → slice_get raw.routines j ≡ Some x → IsKept raw j x (slice_get parts.routines j)
  pub rest : first_of (test_at raw) (length raw.routines - r) r ≡ first_in (routine_shape_fault (image_of raw)) (image_of raw).routines

pub none_found : (x : Option Found) → None ≡ hold x → is_found x ≡ false
none_found None is = refl
none_found (Some f) is = absurd cc

pub shape_none : (b : Bool) (x y : Option Found) → None ≡ hold (guard b x) → hold x ≡ hold y → b && is_found y ≡ false
shape_none false x y none same = refl
shape_none true x y none same = none_found y (none ∙ same)

pub shape_some : (b : Bool) (x y : Option Found) (f : Found) → Some f ≡ hold (guard b x) → hold x ≡ hold y → (b ≡ true) × (Some f ≡ hold y)
shape_some false x y f some same = absurd cc
shape_some true x y f some same = (refl, some ∙ same)

pub both_true : (b : Bool) (y : Option Found) (f : Found) → b ≡ true → Some f ≡ hold y → b && is_found y ≡ true
both_true false y f is some = absurd cc
both_true true None f is some = absurd cc
both_true true (Some g) f is some = refl

pub here : (raw : RawImage) (r : ℕ) (x : RawRoutine) → slice_get raw.routines r ≡ Some x → slice_get (image_of raw).routines r ≡ Some (routine_of x)
here raw r x is = map_get routine_of raw.routines r x is

pub same_due : (raw : RawImage) (parts : CodeCosts) (r start : ℕ) → Before raw parts r → nat_eq start parts.end ≡ nat_eq start (due_start (pieces (image_of raw)) r)
same_due raw parts r start before = ap (λ n. nat_eq start n) before.due

pub stops : (raw : RawImage) (parts : CodeCosts) (r : ℕ) (x : RawRoutine) → Before raw parts r → r < length raw.routines → slice_get raw.routines r ≡ Some x
    → None ≡ hold (guard (nat_eq x.start parts.end) (routine_found raw.code (map known_of parts.known) (routine_of x)))
    → Some (record { a = x.start; b = 0 }) ≡ first_in (routine_shape_fault (image_of raw)) (image_of raw).routines
stops raw parts r x before low is none =
    let rows = routine_alike raw.code (map known_of parts.known) (take r (known (image_of raw))) (routine_of x) before.known_rows in
    let fails = shape_none (nat_eq x.start parts.end) (routine_found raw.code (map known_of parts.known) (routine_of x)) (routine_found raw.code (take r (known (image_of raw))) (routine_of x)) none rows in
    let test : nat_eq x.start (due_start (pieces (image_of raw)) r) && is_found (routine_found raw.code (take r (known (image_of raw))) (routine_of x)) ≡ false =
    ap (λ b. b && is_found (routine_found raw.code (take r (known (image_of raw))) (routine_of x))) (sym (same_due raw parts r x.start before)) ∙ fails in
    let one : test_at raw r ≡ Some (record { a = x.start; b = 0 }) = of_element (routine_shape_fault (image_of raw) r) _ (routine_of x) (here raw r x is) ∙ ap (λ b. unless b x.start 0) test in
    sym (one_here (test_at raw) (length raw.routines - r) r _ (omega (arith, low)) one) ∙ before.rest

-- ---- the next routine

pub piece_here : (raw : RawImage) (r : ℕ) (x : RawRoutine) → slice_get raw.routines r ≡ Some x → due_start (pieces (image_of raw)) (r + 1) ≡ x.start + (size x.tree + 1)
piece_here raw r x is =
    let e : r + 1 ≡ suc r = omega arith in
    let low : r < length (map piece_of_routine (image_of raw).routines) = omega (arith, slice_get_within raw.routines r x is, length-map (image_of raw).routines piece_of_routine, length-map raw.routines routine_of) in
    let at : slice_get (pieces (image_of raw)) r ≡ Some (piece_of_routine (routine_of x)) =
    append_front (map piece_of_routine (image_of raw).routines) (map piece_of_process (image_of raw).processes) r low ∙ map_get piece_of_routine (image_of raw).routines r (routine_of x) (here raw r x is) in
    ap (λ k. due_start (pieces (image_of raw)) k) e ∙ ap end_of_piece at

pub cases : (j r : ℕ) → (j < r) ⊎ ((j ≡ r) ⊎ (r < j))
cases j r = elim (cases_lt j r) [ inl low ↦ inl low | inr high ↦ elim (cases_lt r j) [ inl past ↦ inr (inr past) | inr same ↦ inr (inl (omega (arith, high, same))) ] ]

-- one more at the end
pub pushed_before : {A : Type 0} (xs : List A) (y : A) (j : ℕ) → j < length xs → slice_get (xs ++ y ∷ []) j ≡ slice_get xs j
pushed_before xs y j low = append_front xs (y ∷ []) j low

pub pushed_last : {A : Type 0} (xs : List A) (y : A) (j : ℕ) → j ≡ length xs → slice_get (xs ++ y ∷ []) j ≡ Some y
pushed_last xs y j is = append_back xs (y ∷ []) j 0 (omega (arith, is))

pub pushed_past : {A : Type 0} (xs : List A) (y : A) (j : ℕ) → length xs < j → slice_get (xs ++ y ∷ []) j ≡ None
pushed_past xs y j past = slice_get_past (xs ++ y ∷ []) j (omega (arith, past, length-append xs (y ∷ [])))

-- the row of a routine whose code comes to what was found
abbrev pub row_of : RawRoutine → ℕ → Known
row_of x depth = record { params = x.params; results = count x.result; locals = x.locals; depth = depth; cost = amount x.run x.susp x.waits }

pub row_held : (y : Option Found) (f : Found) (x : RawRoutine) → Some f ≡ hold y → held_known (row_of x f.depth) ≡ held_known (row_of x (found_or_nothing y).depth)
row_held None f x some = absurd cc
row_held (Some g) f x some =
    let same : f ≡ held g = cc in
    ap (λ (k : Found). held_known (row_of x k.depth)) same ∙ (let e : min (min g.depth 4097) 4097 ≡ min g.depth 4097 = omega arith in ap (λ n. record { params = x.params; results = count x.result; locals = x.locals; depth = n; cost = amount (cap x.run) (cap x.susp) (cap x.waits) }) e)

pub rows_on : (ks : List code.RoutineCost) (k : code.RoutineCost) (rows : List Known) (r : ℕ) (row : Known) → length ks ≡ r → AreAlike (map known_of ks) (take r rows) → slice_get rows r ≡ Some row → held_known (known_of k) ≡ held_known row
    → AreAlike (map known_of (ks ++ k ∷ [])) (take (r + 1) rows)
rows_on ks k rows r row long alike at same j = elim (cases j r) [
  | inl low ↦
      slice j ∙ ap (λ o. option_map held_known (option_map known_of o)) (pushed_before ks k j (omega (arith, low, long))) ∙ sym (whole j) ∙ alike j
      ∙ ap (option_map held_known) (take_get r j rows low ∙ sym (take_get (r + 1) j rows (omega (arith, low))))
  | inr rest ↦ elim rest [
    | inl is ↦
        slice j ∙ ap (λ o. option_map held_known (option_map known_of o)) (pushed_last ks k j (omega (arith, is, long))) ∙ ap (λ y. Some y) same
        ∙ ap (option_map held_known) (sym at ∙ ap (λ n. slice_get rows n) (sym is) ∙ sym (take_get (r + 1) j rows (omega (arith, is))))
    | inr past ↦
        slice j ∙ ap (λ o. option_map held_known (option_map known_of o)) (pushed_past ks k j (omega (arith, past, long)))
        ∙ ap (option_map held_known) (sym (take_past (r + 1) j rows (omega (arith, past))))
  ]
] where
  slice : (i : ℕ) → option_map held_known (slice_get (map known_of (ks ++ k ∷ [])) i) ≡ option_map held_known (option_map known_of (slice_get (ks ++ k ∷ []) i))
  slice i = ap (option_map held_known) (slice_get-map known_of (ks ++ k ∷ []) i)

  whole : (i : ℕ) → option_map held_known (slice_get (map known_of ks) i) ≡ option_map held_known (option_map known_of (slice_get ks i))
  whole i = ap (option_map held_known) (slice_get-map known_of ks i)
