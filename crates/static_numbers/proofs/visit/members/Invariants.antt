use Rattle.std.proofs.Common.{map, drop}
use Rattle.syntax_tree.specs.Placed.{placed_member}
use Rattle.static_numbers.specs.Types.{members_bounds}
use Rattle.static_numbers.proofs.Walks.{Left}
use Rattle.static_numbers.proofs.visit.members.Given as goal

abbrev pub invariant-loop-one : goal.invariant-loop-one
invariant-loop-one g l = Left g.V.BoundsVisitor.found (λ xs. members_bounds (map placed_member xs)) l.fn.visitor (members_bounds (map placed_member l.list)) l.visitor (drop l.one-index l.list)
