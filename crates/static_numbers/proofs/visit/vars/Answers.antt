use Rattle.std.proofs.Common.{map, refl, arith}
use Rattle.syntax_tree.specs.Placed.{placed_kind, placed_var}
use Rattle.static_numbers.specs.Types.{kind_bounds, vars_bounds}
use Rattle.static_numbers.proofs.Walks.{visit_step, visit_finish}
use Rattle.static_numbers.proofs.visit.vars.Goals as goal

pub loop-var-preserved : goal.loop-var-preserved
loop-var-preserved g c =
    visit_step g.V.BoundsVisitor.found (λ xs. vars_bounds (map placed_var xs)) c.args.visitor.now (vars_bounds (map placed_var c.args.list.now)) (λ x. kind_bounds (placed_kind x.kind)) (λ x xs more. refl)
    c.args.list.now c.loop-var.var-index c.var-item.result c.loop-var.visitor c.kind.new.visitor (omega arith) c.var-item.is c.kind.ensures c.loop-var.invariant

pub returns : goal.returns
returns g c =
    visit_finish g.V.BoundsVisitor.found (λ xs. vars_bounds (map placed_var xs)) c.args.visitor.now (vars_bounds (map placed_var c.args.list.now)) (λ more. refl)
    c.args.list.now c.loop-var.var-index c.loop-var.visitor (omega arith) c.loop-var.invariant
