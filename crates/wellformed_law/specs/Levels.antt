-- Levels of the routines of a program, by the places of their names.
use Rattle.std.specs.Prelude.{◌≡◌, ℕ, ◌<◌, length, Contains}
use Rattle.syntax_tree.specs.Placed.{Routine, Prog}
use Rattle.syntax_tree.specs.declared.place.Place.{Place}
use Rattle.syntax_tree.specs.Parts.{routines}
use Rattle.static_calls.specs.Reaching.{Calls}

-- a routine stands above each that it calls, and the levels are fewer than the routines
pub record ArePlaceLevels (g : Prog Place) (level : Place → ℕ) : Type 0 where
  pub falls : (from to : Place) → Calls g from to → (one : Routine Place) → Contains (routines g.decls) one → one.place ≡ to → level to < level from
  pub few : (one : Routine Place) → Contains (routines g.decls) one → level one.place < length (routines g.decls)

-- there are levels
pub record HasPlaceLevels (g : Prog Place) : Type 0 where
  pub level : Place → ℕ
  pub are_levels : ArePlaceLevels g level
