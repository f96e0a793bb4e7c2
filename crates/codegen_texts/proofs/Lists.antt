-- Lists of texts, of which a table tells what they are.
use Rattle.std.proofs.Common.{◌≡◌, ◌<◌, ◌≤◌, ◌+◌, ◌∙◌, ℕ, List, [], ◌∷◌, ◌++◌, Some, length, map, take, get_or, refl, sym, ap, arith, length-append}
use Rattle.std.specs.Prelude.{slice_get, option_map}
use Rattle.std.proofs.lemmas.List.{length-map, map-append, take_all, take_more}
use Rattle.std.proofs.lemmas.Option.{slice_get-map, slice_get_read, slice_get_within, get_or_from_slice_get, same_Some}

module _ {A B : Type 0} (told : A → B) where
  -- a text at a place is what the table tells of it
  pub told_at : (xs : List A) (ys : List B) (n : ℕ) (x : A) (y : B) → map told xs ≡ ys → n < length xs → x ≡ get_or xs n x → slice_get ys n ≡ Some y → told x ≡ y
  told_at xs ys n x y e within is at =
      same_Some (told x) y
      (sym (ap (option_map told) (slice_get_read xs (length xs) n x refl within is)) ∙ sym (slice_get-map told xs n) ∙ ap (λ zs. slice_get zs n) e ∙ at)

  -- there are as many as the table tells of
  pub told_length : (xs : List A) (ys : List B) → map told xs ≡ ys → length xs ≡ length ys
  told_length xs ys e = sym (length-map xs told) ∙ ap length e

  -- one more text
  pub told_more : (xs zs : List A) (ys : List B) (x : A) (y : B) → zs ≡ xs ++ x ∷ [] → map told xs ≡ take (length (map told xs)) ys → slice_get ys (length xs) ≡ Some y → told x ≡ y
      → map told zs ≡ take (length (map told zs)) ys
  told_more xs zs ys x y is first at e =
      let n = length xs in
      let one : length zs ≡ n + 1 = ap length is ∙ length-append xs (x ∷ []) in
      let front : map told xs ≡ take n ys = first ∙ ap (λ k. take k ys) (length-map xs told) in
      ap (map told) is ∙ map-append told xs (x ∷ [])
      ∙ ap (λ l. l ++ told x ∷ []) front
      ∙ ap (λ b. take n ys ++ b ∷ []) (e ∙ sym (get_or_from_slice_get ys n y y at))
      ∙ sym (take_more ys n y (slice_get_within ys n y at))
      ∙ ap (λ k. take k ys) (sym (length-map zs told ∙ one))

  -- all texts
  pub told_all : (xs : List A) (ys : List B) → map told xs ≡ take (length (map told xs)) ys → length xs ≡ length ys → map told xs ≡ ys
  told_all xs ys first long =
      let whole : length ys ≤ length (map told xs) = omega (arith, length-map xs told, long) in
      first ∙ take_all (length (map told xs)) ys whole
