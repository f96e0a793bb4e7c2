use Rattle.std.proofs.Common.{refl, arith}
use Rattle.syntax_tree.specs.Placed.{placed, placed_expr, placed_exprs}
use Rattle.static_calls.specs.Calls.{expr_calls, exprs_calls}
use Rattle.static_calls.specs.Tables.{declared_in}
use Rattle.static_calls.proofs.Walks.{step, finish}
use Rattle.static_calls.proofs.calls.exprs.Goals as goal

pub loop-e-preserved : goal.loop-e-preserved
loop-e-preserved c = let declared = declared_in (placed c.args.declarations.now) in
    step (λ es. exprs_calls declared (placed_exprs es)) c.args.calls.now.items (exprs_calls declared (placed_exprs c.args.list.now)) (λ e. expr_calls declared (placed_expr e)) (λ e es more. refl)
    c.args.list.now c.loop-e.e-index c.e-item.result c.loop-e.calls.items c.expr.new.calls.items (omega arith) c.e-item.is c.in_ok-expr.ensures c.loop-e.invariant

pub returns : goal.returns
returns c = let declared = declared_in (placed c.args.declarations.now) in
    finish (λ es. exprs_calls declared (placed_exprs es)) c.args.calls.now.items (exprs_calls declared (placed_exprs c.args.list.now)) (λ more. refl)
    c.args.list.now c.loop-e.e-index c.loop-e.calls.items (omega arith) c.loop-e.invariant
