-- A value is given to the first item, if there is one.
use Rattle.std.specs.Prelude.{◌≡◌, ◌<◌, ◌≤◌, ℤ, List, [], ◌∷◌, Option, Some, None, map, length}
use Rattle.std.proofs.Common.{◌∙◌, ap, arith, get_or, refl, set, sym}
use Rattle.source_semantics.specs.Run as run
use Rattle.source_semantics.specs.Next.{given_item}
use Rattle.replay_state.specs.View.{item_of}
use Rattle.replay_state.specs.declared.call.Item.{Item}

pub first_given : (v : Option ℤ) (xs : List Item) (x y : Item) → 0 < length xs → x ≡ get_or xs 0 x
    → ((is : List run.Item) → given_item v (item_of x ∷ is) ≡ item_of y ∷ is)
    → map item_of (set xs 0 y) ≡ given_item v (map item_of xs)
first_given v [] x y below at given = absurd (omega arith)
first_given v (z ∷ xs) x y below at given =
    sym (given (map item_of xs)) ∙ ap (λ (w : Item). given_item v (item_of w ∷ map item_of xs)) at

pub none_given : (v : Option ℤ) (xs : List Item) → length xs ≤ 0 → map item_of xs ≡ given_item v (map item_of xs)
none_given None [] none = refl
none_given (Some v) [] none = refl
none_given v (x ∷ xs) none = absurd (omega arith)
