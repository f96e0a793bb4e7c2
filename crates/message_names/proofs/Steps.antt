-- Steps of loops that put the names of one item after another.
use Rattle.std.proofs.Common.{◌≡◌, ◌<◌, ◌≤◌, ◌+◌, ◌++◌, ℕ, List, [], ◌∷◌, length, drop, get_or, sym, ap, ◌∙◌, add-one, drop-cons, append_assoc}
use Rattle.std.proofs.lemmas.List.{append-nil, drop_all}
use Rattle.message_names.specs.Mentions.{Mention}

drop-item : {X : Type 0} (xs : List X) (i : ℕ) (x : X) → i < length xs → x ≡ get_or xs i x → drop i xs ≡ x ∷ drop (i + 1) xs
drop-item xs i x below item =
    let split : drop i xs ≡ get_or xs i x ∷ drop (i + 1) xs = rw add-one (drop-cons xs i x below) in
    split ∙ ap (λ y. y ∷ drop (i + 1) xs) (sym item)

module _ {X : Type 0} (of : List X → List Mention) (whole : List Mention) where
  -- with the names of the items that are left it is all
  abbrev pub Left : List Mention → List X → Type 0
  Left ms xs = ms ++ of xs ≡ whole

  pub step : (one : X → List Mention) → ((x : X) (xs : List X) → of (x ∷ xs) ≡ one x ++ of xs)
      → (xs : List X) (i : ℕ) (x : X) (ms new : List Mention) → i < length xs → x ≡ get_or xs i x → new ≡ ms ++ one x
      → Left ms (drop i xs) → Left new (drop (i + 1) xs)
  step one splits xs i x ms new below item put left =
      let rest = drop (i + 1) xs in
      ap (λ l. l ++ of rest) put ∙ append_assoc ms (one x) (of rest)
      ∙ ap (λ l. ms ++ l) (sym (splits x rest) ∙ ap of (sym (drop-item xs i x below item))) ∙ left

  pub finish : of [] ≡ [] → (xs : List X) (i : ℕ) (ms : List Mention) → length xs ≤ i → Left ms (drop i xs) → ms ≡ whole
  finish ends xs i ms past left =
      sym (append-nil ms) ∙ ap (λ l. ms ++ l) (sym ends ∙ ap of (sym (drop_all i xs past))) ∙ left
