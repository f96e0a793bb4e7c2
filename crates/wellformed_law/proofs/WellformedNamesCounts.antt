-- How many names of a list stand at one place.
use Rattle.std.proofs.Common.{◌≡◌, ℕ, ◌+◌, Bool, cond, List, [], ◌∷◌, refl, ap, ◌∙◌}
use Rattle.std.proofs.lemmas.List.Sums.{sum_by-cons}
use Rattle.syntax_tree.specs.declared.place.Place.{Place}
use Rattle.syntax_tree.specs.Parts.{same_place}
use Rattle.static_names.specs.Occurrences.{Occurrence}
use Rattle.static_names.specs.Rules.{place_of}
use Rattle.static_semantics.specs.Places.{count_at}

-- one where the test passes, else none
abbrev pub one : Bool → ℕ
one b = cond b 1 0

-- how many of the names stand at the place, name by name
abbrev pub standing : Place → List Occurrence → ℕ
standing q [] = 0
standing q (o ∷ os) = one (same_place (place_of o) q) + standing q os

pub count-standing : (q : Place) (os : List Occurrence) → count_at q os ≡ standing q os
count-standing q [] = refl
count-standing q (o ∷ os) = sum_by-cons (λ x. cond (same_place (place_of x) q) 1 0) o os ∙ ap (λ n. one (same_place (place_of o) q) + n) (count-standing q os)
