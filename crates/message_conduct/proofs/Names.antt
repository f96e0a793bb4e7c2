-- The names of routines that stand one behind another.
use Rattle.std.proofs.Common.{◌≡◌, ◌++◌, List, Option, Some, None, find, option_map, refl, ap, ◌∙◌}
use Rattle.std.specs.Option.{option_or}
use Rattle.std.proofs.lemmas.List.Folds.{find-append}
use Rattle.syntax_tree.specs.Placed.{Routine}
use Rattle.syntax_tree.specs.Parts.{same_place}
use Rattle.syntax_tree.specs.declared.place.Place.{Place}
use Rattle.message_conduct.specs.Sentences.{name_at}

map-or : {X Y : Type 0} (f : X → Y) (x y : Option X) → option_map f (option_or x y) ≡ option_or (option_map f x) (option_map f y)
map-or f None y = refl
map-or f (Some x) y = refl

-- the name is that of one of the routines, or of those behind them
pub name-append : (place : Place) (rs more : List (Routine Place)) → name_at place (rs ++ more) ≡ option_or (name_at place rs) (name_at place more)
name-append place rs more =
    let is = λ (r : Routine Place). same_place r.place place in
    ap (option_map (λ r. r.name)) (find-append is rs more) ∙ map-or (λ r. r.name) (find is rs) (find is more)
