-- Steps of loops that note the names of one item after another.
use Rattle.std.proofs.Common.{◌≡◌, ◌<◌, ◌≤◌, ◌+◌, ℕ, List, [], ◌∷◌, length, drop, get_or, sym, ap, ◌∙◌, add-one, drop-cons}
use Rattle.std.proofs.lemmas.List.{drop_all}
use Rattle.static_names.specs.Occurrences.{Occurrence}
use Rattle.static_names.specs.Findings.{Found, noted}

pub drop-item : {X : Type 0} (xs : List X) (i : ℕ) (x : X) → i < length xs → x ≡ get_or xs i x → drop i xs ≡ x ∷ drop (i + 1) xs
drop-item xs i x below item =
    let split : drop i xs ≡ get_or xs i x ∷ drop (i + 1) xs = rw add-one (drop-cons xs i x below) in
    split ∙ ap (λ y. y ∷ drop (i + 1) xs) (sym item)

module _ {X : Type 0} (names : List X → List Occurrence → List Occurrence) (start : Found) (whole : List Occurrence → List Occurrence) where
  -- what is left to note of the items from i on
  abbrev pub Left : Found → List X → Type 0
  Left f xs = (more : List Occurrence) → noted f (names xs more) ≡ noted start (whole more)

  pub step : (one : X → List Occurrence → List Occurrence) → ((x : X) (xs : List X) (more : List Occurrence) → names (x ∷ xs) more ≡ one x (names xs more))
      → (xs : List X) (i : ℕ) (x : X) (f g : Found) → i < length xs → x ≡ get_or xs i x → ((more : List Occurrence) → noted g more ≡ noted f (one x more))
      → Left f (drop i xs) → Left g (drop (i + 1) xs)
  step one splits xs i x f g below item noted_one left more =
      noted_one (names (drop (i + 1) xs) more) ∙ ap (noted f) (sym (splits x (drop (i + 1) xs) more) ∙ ap (λ l. names l more) (sym (drop-item xs i x below item))) ∙ left more

  pub finish : ((more : List Occurrence) → names [] more ≡ more) → (xs : List X) (i : ℕ) (f : Found) → length xs ≤ i → Left f (drop i xs) → (more : List Occurrence) → noted f more ≡ noted start (whole more)
  finish ends xs i f past left more = ap (noted f) (sym (ends more) ∙ ap (λ l. names l more) (sym (drop_all i xs past))) ∙ left more
