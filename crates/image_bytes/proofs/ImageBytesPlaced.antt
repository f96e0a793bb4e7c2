-- What stands at places.
use Rattle.std.proofs.Common.{◌≡◌, ◌⊎◌, inl, inr, ◌≤◌, ◌<◌, ℕ, zero, suc, true, List, [], ◌∷◌, length, drop, Ok, Err, Option, Some, None, refl, sym, ap, ◌∙◌, subst, arith}
use Rattle.std.specs.Prelude.{slice_get}
use Rattle.std.specs.Result.{is_ok}
use Rattle.std.proofs.lemmas.Bool.{cases_lt}
use Rattle.std.proofs.lemmas.List.{drop_all}
use Rattle.image_format.specs.declared.fault.ByteFault.{ByteFault}
use Rattle.image_format.specs.Format.{Format, Read}
use Rattle.image_bytes.specs.Places.{AreAt}

-- there are as many places as things
as_many : {A : Type 0} (f : Format A) (bytes places : List ℕ) (xs : List A) → AreAt f bytes places xs → length places ≡ length xs
as_many f bytes [] [] are = refl
as_many f bytes (at ∷ places) (x ∷ xs) are = ap (λ k. suc k) (as_many f bytes places xs are.1)
as_many f bytes [] (x ∷ xs) are = absurd are
as_many f bytes (at ∷ places) [] are = absurd are

-- the thing of the number, and the place where it is read
record Found {A : Type 0} (f : Format A) (bytes places : List ℕ) (xs : List A) (number : ℕ) : Type 0 where
  at : ℕ
  thing : A
  rest : List ℕ
  place : slice_get places number ≡ Some at
  there : slice_get xs number ≡ Some thing
  is_read : f.read (drop at bytes) ≡ Ok (thing, rest)

found : {A : Type 0} (f : Format A) (bytes places : List ℕ) (xs : List A) (number : ℕ) → AreAt f bytes places xs → number < length xs → Found f bytes places xs number
found f bytes [] [] number are lt = absurd (omega (arith, lt))
found f bytes (p ∷ places) (x ∷ xs) zero are lt = record { at = p; thing = x; rest = are.0.0; place = refl; there = refl; is_read = are.0.1 }
found f bytes (p ∷ places) (x ∷ xs) (suc number) are lt =
    let next = found f bytes places xs number are.1 (omega (arith, lt)) in
    record { at = next.at; thing = next.thing; rest = next.rest; place = next.place; there = next.there; is_read = next.is_read }
found f bytes [] (x ∷ xs) number are lt = absurd are
found f bytes (p ∷ places) [] number are lt = absurd are

same_thing : {A : Type 0} (x y : A) (a b : List ℕ) (r : Read A) → r ≡ Ok (x, a) → r ≡ Ok (y, b) → x ≡ y
same_thing {A = A} x y a b r one other = ap value (sym one ∙ other) where
  value : Read A → A
  value (Ok z) = z.0
  value (Err e) = x

same_place : (x y : ℕ) (o : Option ℕ) → o ≡ Some x → o ≡ Some y → x ≡ y
same_place x y o one other = ap value (sym one ∙ other) where
  value : Option ℕ → ℕ
  value (Some z) = z
  value None = x

-- the same bytes, places and things
pub there : {A : Type 0} (f : Format A) {bytes more places other : List ℕ} {xs ys : List A} → bytes ≡ more → places ≡ other → xs ≡ ys → AreAt f bytes places xs → AreAt f more other ys
there f {bytes = bytes} {more = more} {places = places} {other = other} {xs = xs} {ys = ys} same_bytes same_places same are =
    subst (λ zs. AreAt f more other zs) same (subst (λ (ps : List ℕ). AreAt f more ps xs) same_places (subst (λ (bs : List ℕ). AreAt f bs places xs) same_bytes are))

module _ {A : Type 0} (f : Format A) (bytes places : List ℕ) (xs : List A) (number : ℕ) (are : AreAt f bytes places xs) (lt : number < length xs) where
  -- the number is one of the places
  pub is_place : number < length places
  is_place = omega (arith, lt, as_many f bytes places xs are)

  -- which is within the bytes
  pub is_within : (e : ByteFault) → f.read [] ≡ Err e → (at : ℕ) → slice_get places number ≡ Some at → at ≤ length bytes
  is_within e none at is = by (cases_lt (length bytes) at) where
    by : (length bytes < at) ⊎ (at ≤ length bytes) → at ≤ length bytes
    by (inl past) =
        let x = found f bytes places xs number are lt in
        let same : x.at ≡ at = same_place x.at at (slice_get places number) x.place is in
        let read : f.read (drop at bytes) ≡ Ok (x.thing, x.rest) = ap (λ k. f.read (drop k bytes)) (sym same) ∙ x.is_read in
        let nothing : f.read (drop at bytes) ≡ Err e = ap (λ (left : List ℕ). f.read left) (drop_all at bytes (omega (arith, past))) ∙ none in
        let bad = sym nothing ∙ read in
        absurd cc
    by (inr within) = within

  -- what is read there is the thing of that number
  pub is_the_thing : (left : List ℕ) (y : A) (rest : List ℕ) → ((at : ℕ) → slice_get places number ≡ Some at → left ≡ drop at bytes) → f.read left ≡ Ok (y, rest) → slice_get xs number ≡ Some y
  is_the_thing left y rest here read =
      let x = found f bytes places xs number are lt in
      let other : f.read (drop x.at bytes) ≡ Ok (y, rest) = ap (λ (bytes : List ℕ). f.read bytes) (sym (here x.at x.place)) ∙ read in
      x.there ∙ ap (λ z. Some z) (same_thing x.thing y x.rest rest (f.read (drop x.at bytes)) x.is_read other)

  -- and reading does not fail
  pub no_fault : (left : List ℕ) (e : ByteFault) → ((at : ℕ) → slice_get places number ≡ Some at → left ≡ drop at bytes) → f.read left ≡ Err e → ⊥
  no_fault left e here read =
      let x = found f bytes places xs number are lt in
      let other : f.read (drop x.at bytes) ≡ Err e = ap (λ (bytes : List ℕ). f.read bytes) (sym (here x.at x.place)) ∙ read in
      let bad = sym other ∙ x.is_read in
      cc

  -- and reading goes well
  pub is_read_there : (left : List ℕ) → ((at : ℕ) → slice_get places number ≡ Some at → left ≡ drop at bytes) → is_ok (f.read left) ≡ true
  is_read_there left here =
      let x = found f bytes places xs number are lt in
      ap is_ok (ap (λ (bytes : List ℕ). f.read bytes) (here x.at x.place) ∙ x.is_read)
