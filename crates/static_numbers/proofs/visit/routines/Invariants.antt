use Rattle.std.proofs.Common.{map, drop}
use Rattle.syntax_tree.specs.Placed.{placed_routine}
use Rattle.static_numbers.specs.Types.{routines_bounds}
use Rattle.static_numbers.proofs.Walks.{Left}
use Rattle.static_numbers.proofs.visit.routines.Given as goal

abbrev pub invariant-loop-one : goal.invariant-loop-one
invariant-loop-one g l = Left g.V.BoundsVisitor.found (λ xs. routines_bounds (map placed_routine xs)) l.fn.visitor (routines_bounds (map placed_routine l.list)) l.visitor (drop l.one-index l.list)
