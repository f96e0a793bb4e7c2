-- Elements of arrays and of lists.
use Rattle.std.specs.Prelude.{◌≡◌, ◌<◌, ℕ, zero, suc, Bool, true, false, cond, List, [], ◌∷◌, Some, None, ℤ, pos, negsuc, ◌-ℤ◌, length, map, slice_get, nat_lt}
use Rattle.std.proofs.Common.{refl, sym, ◌∙◌, ap, arith, get_or}
use Rattle.std.proofs.lemmas.Option.{slice_get_read}
use Rattle.std.proofs.lemmas.Bool.Decides.{nat_tests}
use Rattle.base.specs.Words.{word, raised}
use Rattle.source_semantics.specs.Store.{place_at, place_in, element_at}

place_below : (low : ℤ) (ws : List ℤ) (d : ℤ) (k : ℕ) → Some k ≡ place_in low ws d → k < length ws
place_below low ws (pos n) k e = by_case (nat_lt n (length ws)) refl
  where
    by_case : (b : Bool) → nat_lt n (length ws) ≡ b → k < length ws
    by_case true h = let s : Some k ≡ Some n = e ∙ ap (λ b. cond b (Some n) None) h in let is : k ≡ n = cc in grind (arith, nat_tests)
    by_case false h = let s : Some k ≡ None = e ∙ ap (λ b. cond b (Some n) None) h in absurd cc
place_below low ws (negsuc n) k e = absurd cc

pub element_read : (low : ℤ) (ws : List ℤ) (i : ℤ) (k : ℕ) (v : ℤ) → Some k ≡ place_at low ws i → v ≡ get_or ws k v → word v ≡ element_at ws (place_at low ws i)
element_read low ws i k v e got =
    let found : slice_get ws k ≡ Some v = slice_get_read ws (length ws) k v refl (place_below low ws (i -ℤ low) k e) got in
    sym (ap (element_at ws) (sym e) ∙ ap (λ o. elim o [ Some v ↦ word v | None ↦ raised 3 ]) found)

pub mapped_get : {A B : Type 0} (f : A → B) (xs : List A) (k : ℕ) (x : A) → slice_get xs k ≡ Some x → slice_get (map f xs) k ≡ Some (f x)
mapped_get f [] k x h = absurd cc
mapped_get f (y ∷ xs) zero x h = let e : y ≡ x = cc in ap (λ z. Some (f z)) e
mapped_get f (y ∷ xs) (suc k) x h = mapped_get f xs k x h
