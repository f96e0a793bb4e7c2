use Rattle.std.proofs.Common.{map, refl, arith}
use Rattle.syntax_tree.specs.Placed.{placed_routine}
use Rattle.static_numbers.specs.Types.{routine_bounds, routines_bounds}
use Rattle.static_numbers.proofs.Walks.{visit_step, visit_finish}
use Rattle.static_numbers.proofs.visit.routines.Goals as goal

pub loop-one-preserved : goal.loop-one-preserved
loop-one-preserved g c =
    visit_step g.V.BoundsVisitor.found (λ xs. routines_bounds (map placed_routine xs)) c.args.visitor.now (routines_bounds (map placed_routine c.args.list.now)) (λ x. routine_bounds (placed_routine x)) (λ x xs more. refl)
    c.args.list.now c.loop-one.one-index c.one-item.result c.loop-one.visitor c.routine.new.visitor (omega arith) c.one-item.is c.routine.ensures c.loop-one.invariant

pub returns : goal.returns
returns g c =
    visit_finish g.V.BoundsVisitor.found (λ xs. routines_bounds (map placed_routine xs)) c.args.visitor.now (routines_bounds (map placed_routine c.args.list.now)) (λ more. refl)
    c.args.list.now c.loop-one.one-index c.loop-one.visitor (omega arith) c.loop-one.invariant
