-- Steps of loops that list the calls of one item after another.
use Rattle.std.proofs.Common.{◌≡◌, ◌<◌, ◌≤◌, ◌+◌, ◌++◌, ℕ, List, [], ◌∷◌, length, drop, get_or, sym, ap, ◌∙◌}
use Rattle.std.proofs.lemmas.List.{drop_all}
use Rattle.syntax_tree.specs.declared.place.Place.{Place}
use Rattle.static_names.proofs.Walks.{drop-item}

module _ {X : Type 0} (calls : List X → List Place → List Place) (start : List Place) (whole : List Place → List Place) where
  -- what is left to list of the items
  abbrev pub Left : List Place → List X → Type 0
  Left f xs = (more : List Place) → f ++ calls xs more ≡ start ++ whole more

  pub step : (one : X → List Place → List Place) → ((x : X) (xs : List X) (more : List Place) → calls (x ∷ xs) more ≡ one x (calls xs more))
      → (xs : List X) (i : ℕ) (x : X) (f g : List Place) → i < length xs → x ≡ get_or xs i x → ((more : List Place) → g ++ more ≡ f ++ one x more)
      → Left f (drop i xs) → Left g (drop (i + 1) xs)
  step one splits xs i x f g below item listed_one left more =
      listed_one (calls (drop (i + 1) xs) more) ∙ ap (λ (l : List Place). f ++ l) (sym (splits x (drop (i + 1) xs) more) ∙ ap (λ l. calls l more) (sym (drop-item xs i x below item))) ∙ left more

  pub finish : ((more : List Place) → calls [] more ≡ more) → (xs : List X) (i : ℕ) (f : List Place) → length xs ≤ i → Left f (drop i xs) → (more : List Place) → f ++ more ≡ start ++ whole more
  finish ends xs i f past left more = ap (λ (l : List Place). f ++ l) (sym (ends more) ∙ ap (λ l. calls l more) (sym (drop_all i xs past))) ∙ left more
