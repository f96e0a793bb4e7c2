use Rattle.std.proofs.Common.{◌≡◌, List, map, drop}
use Rattle.syntax_tree.specs.Placed.{placed_routine}
use Rattle.static_declarations.specs.Parts.{Part, routines_parts}
use Rattle.static_parts.proofs.walk.routines.Given as goal

abbrev pub invariant-loop-one : goal.invariant-loop-one
invariant-loop-one g l = (more : List Part) → g.V.PartVisitor.found l.fn.visitor (routines_parts l.is_entry (map placed_routine l.list) more) ≡ g.V.PartVisitor.found l.visitor (routines_parts l.is_entry (map placed_routine (drop l.one-index l.list)) more)
