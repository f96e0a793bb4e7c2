use Rattle.std.proofs.Common.{◌≡◌, List, map, drop}
use Rattle.syntax_tree.specs.Placed.{placed_routine}
use Rattle.static_declarations.specs.Things.{learn, routines_things}
use Rattle.static_declarations.specs.Seen.{Declared, known_things}
use Rattle.static_declarations.proofs.things.routines.Given as goal

abbrev pub invariant-loop-one : goal.invariant-loop-one
invariant-loop-one l = (more : List Declared) → learn (known_things l.things.entries) (routines_things l.is_entry (map placed_routine (drop l.one-index l.list)) more) ≡ learn (known_things l.fn.things.entries) (routines_things l.is_entry (map placed_routine l.list) more)
