use Rattle.std.proofs.Common.{map, refl, arith}
use Rattle.syntax_tree.specs.Placed.{placed_param, placed_scalar}
use Rattle.static_numbers.specs.Types.{scalar_bounds, params_bounds}
use Rattle.static_numbers.proofs.Walks.{visit_step, visit_finish}
use Rattle.static_numbers.proofs.visit.params.Goals as goal

pub loop-param-preserved : goal.loop-param-preserved
loop-param-preserved g c =
    visit_step g.V.BoundsVisitor.found (λ xs. params_bounds (map placed_param xs)) c.args.visitor.now (params_bounds (map placed_param c.args.list.now)) (λ x. scalar_bounds (placed_scalar x.kind)) (λ x xs more. refl)
    c.args.list.now c.loop-param.param-index c.param-item.result c.loop-param.visitor c.scalar.new.visitor (omega arith) c.param-item.is c.scalar.ensures c.loop-param.invariant

pub returns : goal.returns
returns g c =
    visit_finish g.V.BoundsVisitor.found (λ xs. params_bounds (map placed_param xs)) c.args.visitor.now (params_bounds (map placed_param c.args.list.now)) (λ more. refl)
    c.args.list.now c.loop-param.param-index c.loop-param.visitor (omega arith) c.loop-param.invariant
