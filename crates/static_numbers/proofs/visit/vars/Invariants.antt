use Rattle.std.proofs.Common.{map, drop}
use Rattle.syntax_tree.specs.Placed.{placed_var}
use Rattle.static_numbers.specs.Types.{vars_bounds}
use Rattle.static_numbers.proofs.Walks.{Left}
use Rattle.static_numbers.proofs.visit.vars.Given as goal

abbrev pub invariant-loop-var : goal.invariant-loop-var
invariant-loop-var g l = Left g.V.BoundsVisitor.found (λ xs. vars_bounds (map placed_var xs)) l.fn.visitor (vars_bounds (map placed_var l.list)) l.visitor (drop l.var-index l.list)
