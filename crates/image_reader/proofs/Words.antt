-- Whether a word is one of a list.
use Rattle.std.proofs.Common.{◌≡◌, ◌||◌, ℕ, zero, suc, Bool, List, [], ◌∷◌, true, false, Some, refl, ap, ◌∙◌}
use Rattle.std.specs.Prelude.{nat_eq, slice_get}
use Rattle.std.specs.List.{Contains}
use Rattle.std.specs.Cmp.Lexicographic.{pointwise}
use Rattle.std.proofs.lemmas.Cmp.{nat_list_eq_equiv}
use Rattle.std.proofs.lemmas.Bool.{eqb-true, and_parts}
use Rattle.std.proofs.lemmas.Map.Views.{Contains-from_any}
use Rattle.image_reader.specs.Grammar.{has}

pub same_words : (x y : List ℕ) → pointwise nat_eq x y ≡ true → x ≡ y
same_words [] [] h = refl
same_words [] (b ∷ bs) h = cc
same_words (a ∷ more) [] h = cc
same_words (a ∷ more) (b ∷ bs) h =
    let p = and_parts (nat_eq a b) (pointwise nat_eq more bs) h in
    let first : a ≡ b = eqb-true a b p.0 in
    let rest : more ≡ bs = same_words more bs p.1 in
    rw (first, rest) refl

pub has_got : (words : List (List ℕ)) (at : ℕ) (word : List ℕ) → slice_get words at ≡ Some word → has words word ≡ true
has_got [] at word got = cc
has_got (w ∷ words) zero word got =
    let same : w ≡ word = cc in
    ap (λ b. b || has words word) (ap (pointwise nat_eq word) same ∙ nat_list_eq_equiv.refl word)
has_got (w ∷ words) (suc at) word got = by (pointwise nat_eq word w) (has_got words at word got) where
  by : (b : Bool) → has words word ≡ true → (b || has words word) ≡ true
  by true more = refl
  by false more = more

pub has_not : (words : List (List ℕ)) (word : List ℕ) → (Contains words word → ⊥) → has words word ≡ false
has_not words word not_in = by (has words word) refl where
  by : (b : Bool) → has words word ≡ b → b ≡ false
  by true h = absurd (not_in (Contains-from_any same_words word words h))
  by false h = refl
