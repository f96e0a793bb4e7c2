-- Turns of loops that list something of each element.
use Rattle.std.proofs.Common.{◌≡◌, ◌<◌, ◌≤◌, ◌+◌, ◌∙◌, ℕ, List, [], ◌∷◌, ◌++◌, length, drop, get_or, sym, ap, append_assoc, append-nil}
use Rattle.std.proofs.lemmas.List.{drop_all, drop_more}

module _ {A B : Type 0} where
  -- one more is listed
  pub turn : (F G : List A → List B) (done new : List B) (xs : List A) (i : ℕ) (x : A) (y : B) (all : List B) → F (x ∷ drop (i + 1) xs) ≡ y ∷ G (drop (i + 1) xs) → new ≡ done ++ y ∷ []
      → x ≡ get_or xs i x → i < length xs → done ++ F (drop i xs) ≡ all → new ++ G (drop (i + 1) xs) ≡ all
  turn F G done new xs i x y all step pushed is within before =
      let rest = drop (i + 1) xs in
      let one : List B = y ∷ [] in
      ap (λ l. l ++ G rest) pushed ∙ append_assoc done one (G rest) ∙ ap (λ l. done ++ l) (sym step)
      ∙ ap (λ l. done ++ F l) (ap (λ z. z ∷ rest) is ∙ sym (drop_more xs i x within)) ∙ before

  -- all are listed
  pub last : (F : List A → List B) (done : List B) (xs : List A) (i : ℕ) (all : List B) → F [] ≡ [] → length xs ≤ i → done ++ F (drop i xs) ≡ all → done ≡ all
  last F done xs i all none past before = sym (append-nil done) ∙ ap (λ l. done ++ l) (sym (ap F (drop_all i xs past) ∙ none)) ∙ before
