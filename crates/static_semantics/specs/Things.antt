-- The declarations of a program are known by their places.
use Rattle.std.specs.Prelude.{◌≡◌, List, [], ◌∷◌, Contains}
use Rattle.syntax_tree.specs.Plain.{Name}
use Rattle.syntax_tree.specs.Placed.{Constant, loop, Stmts, Prog}
use Rattle.syntax_tree.specs.declared.place.Place.{Place}
use Rattle.static_declarations.specs.Things.{Thing, loop_thing, other_thing, decls_things, thing_at}
use Rattle.static_declarations.specs.declared.home.Where.{Where}
use Rattle.static_declarations.specs.Parts.{statement, parts}

-- all declarations with the places of their names, the program's included
abbrev pub things : Prog Place → List (Place × Thing)
things g = decls_things g.decls ((g.place, other_thing) ∷ [])

-- at the place of a declaration stands what is declared there, and at that of a loop's variable no
-- declaration
pub record ThingsKnown (g : Prog Place) : Type 0 where
  pub declared : (place : Place) (thing : Thing) → Contains (things g) (place, thing) → thing_at g place ≡ thing
  pub loops : (where_it_stands : Where) (p : Place) (name : Name) (place : Place) (low high : Constant Place) (body : Stmts Place)
      → Contains (parts g) (statement where_it_stands (loop p name place low high body)) → thing_at g place ≡ loop_thing
