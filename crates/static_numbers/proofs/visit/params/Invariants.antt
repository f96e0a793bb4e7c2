use Rattle.std.proofs.Common.{map, drop}
use Rattle.syntax_tree.specs.Placed.{placed_param}
use Rattle.static_numbers.specs.Types.{params_bounds}
use Rattle.static_numbers.proofs.Walks.{Left}
use Rattle.static_numbers.proofs.visit.params.Given as goal

abbrev pub invariant-loop-param : goal.invariant-loop-param
invariant-loop-param g l = Left g.V.BoundsVisitor.found (λ xs. params_bounds (map placed_param xs)) l.fn.visitor (params_bounds (map placed_param l.list)) l.visitor (drop l.param-index l.list)
