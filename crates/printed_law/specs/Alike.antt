-- Two placings of the positions of a tree that set the same of them apart.
use Rattle.std.specs.Prelude.{◌≡◌}
use Rattle.syntax_tree.specs.declared.place.Place.{Place}
use Rattle.syntax_tree.specs.Parts.{same_place}

-- two positions have one place by the one placing just where they have one by the other
abbrev pub AreAlike : {X : Type 0} → (a b : X → Place) → Type 0
AreAlike {X} a b = (x y : X) → same_place (a x) (a y) ≡ same_place (b x) (b y)

-- the place is that of a position, at whose other place this holds
pub record Stays {X : Type 0} (a b : X → Place) (place : Place) (Holds : Place → Type 0) : Type 0 where
  pub at : X
  pub is : place ≡ a at
  pub holds : Holds (b at)
