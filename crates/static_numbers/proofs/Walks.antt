-- Steps of loops that go through a list, one item after another.
use Rattle.std.proofs.Common.{◌≡◌, ◌<◌, ◌≤◌, ◌+◌, ℕ, List, [], ◌∷◌, Option, None, length, drop, get_or, sym, ap, subst, ◌∙◌}
use Rattle.std.proofs.lemmas.List.{drop_all}
use Rattle.syntax_tree.specs.declared.place.Place.{Place}
use Rattle.static_rule.specs.declared.violation.Violation.{Violation}
use Rattle.static_rule.specs.First.{IsFirstOf, Either, sooner}
use Rattle.static_rule.specs.Parts.{Rule, FailsAmong, blame, noted}
use Rattle.static_rule.proofs.Soonest.{both, noted-is-first}
use Rattle.static_names.proofs.Walks.{drop-item}

-- What a state and the items that are left come to stays what it is.
module _ {X S R : Type 0} (left : S → List X → R) (whole : R) where
  pub step : (xs : List X) (i : ℕ) (x : X) (s t : S) → i < length xs → x ≡ get_or xs i x → ((rest : List X) → left t rest ≡ left s (x ∷ rest)) → left s (drop i xs) ≡ whole → left t (drop (i + 1) xs) ≡ whole
  step xs i x s t below item one h = one (drop (i + 1) xs) ∙ ap (left s) (sym (drop-item xs i x below item)) ∙ h

  pub finish : (xs : List X) (i : ℕ) (s : S) → length xs ≤ i → left s (drop i xs) ≡ whole → left s [] ≡ whole
  finish xs i s past h = ap (left s) (sym (drop_all i xs past)) ∙ h

-- The parts of one item after another are visited.
module _ {S X B Found : Type 0} (found : S → List B → Found) (parts : List X → List B → List B) (start : S) (whole : List B → List B) where
  abbrev pub Left : S → List X → Type 0
  Left now xs = (more : List B) → found now (parts xs more) ≡ found start (whole more)

  pub visit_step : (one : X → List B → List B) → ((x : X) (xs : List X) (more : List B) → parts (x ∷ xs) more ≡ one x (parts xs more))
      → (xs : List X) (i : ℕ) (x : X) (s t : S) → i < length xs → x ≡ get_or xs i x → ((more : List B) → found t more ≡ found s (one x more))
      → Left s (drop i xs) → Left t (drop (i + 1) xs)
  visit_step one splits xs i x s t below item visited h more =
      step (λ s ys. found s (parts ys more)) (found start (whole more)) xs i x s t below item
      (λ rest. visited (parts rest more) ∙ ap (found s) (sym (splits x rest more))) (h more)

  pub visit_finish : ((more : List B) → parts [] more ≡ more) → (xs : List X) (i : ℕ) (s : S) → length xs ≤ i → Left s (drop i xs) → (more : List B) → found s more ≡ found start (whole more)
  visit_finish ends xs i s past h more = ap (found s) (sym (ends more)) ∙ finish (λ s ys. found s (parts ys more)) (found start (whole more)) xs i s past (h more)

-- What the pass finds is the first failure.
pub first-noted : {X : Type 0} (rules : List (Rule X)) (parts : List X) (first : Option Violation) → first ≡ noted rules None parts → IsFirstOf (FailsAmong rules parts) first
first-noted rules parts first e = subst (IsFirstOf (FailsAmong rules parts)) (sym e) (noted-is-first rules parts)

-- The sooner of two first failures is the first of both.
pub first-sooner : (f g : ℕ → Place → Type 0) (x y first : Option Violation) → first ≡ sooner x y → IsFirstOf f x → IsFirstOf g y → IsFirstOf (Either f g) first
first-sooner f g x y first e h k = subst (IsFirstOf (Either f g)) (sym e) (both f g x y h k)

-- What is known before one more rule is tried, and what the rule says, may be replaced by what they are.
pub then : (number : ℕ) (x y first : Option Violation) (p q : Option Place) → first ≡ blame x number p → x ≡ y → p ≡ q → first ≡ blame y number q
then number x y first p q e is says = e ∙ (λ i. blame (is i) number (says i))
