use Rattle.std.proofs.Common.{refl, arith}
use Rattle.syntax_tree.specs.Placed.{placed, placed_expr, placed_exprs, placed_operands}
use Rattle.static_calls.specs.Calls.{expr_calls, exprs_calls, operands_calls}
use Rattle.static_calls.specs.Tables.{declared_in}
use Rattle.static_calls.proofs.Walks.{step, finish}
use Rattle.static_calls.proofs.calls.+expr.Goals as goal

pub loop-arg-preserved : goal.loop-arg-preserved
loop-arg-preserved t c = let declared = declared_in (placed c.args.declarations.now) in
    step (λ es. exprs_calls declared (placed_exprs es)) c.args.calls.now.items (expr_calls declared (placed_expr c.args.e.now)) (λ e. expr_calls declared (placed_expr e)) (λ e es more. refl)
    c.as_slice-arg-items.result.now c.loop-arg.arg-index c.arg-item.result c.loop-arg.calls.items c.expr-in-loop-arg.new.calls.items (omega arith) c.arg-item.is c.in_ok-expr-in-Call.ensures c.loop-arg.invariant

pub returns-after-loop-arg : goal.returns-after-loop-arg
returns-after-loop-arg t c = let declared = declared_in (placed c.args.declarations.now) in
    finish (λ es. exprs_calls declared (placed_exprs es)) c.args.calls.now.items (expr_calls declared (placed_expr c.args.e.now)) (λ more. refl)
    c.as_slice-arg-items.result.now c.loop-arg.arg-index c.loop-arg.calls.items (omega arith) c.loop-arg.invariant

pub loop-pair-preserved : goal.loop-pair-preserved
loop-pair-preserved t c = let declared = declared_in (placed c.args.declarations.now) in
    step (λ rs. operands_calls declared (placed_operands rs)) c.args.calls.now.items (expr_calls declared (placed_expr c.args.e.now)) (λ r. expr_calls declared (placed_expr r.1)) (λ r rs more. refl)
    c.as_slice-pair-items.result.now c.loop-pair.pair-index c.pair-item.result c.loop-pair.calls.items c.expr-in-loop-pair.new.calls.items (omega arith) c.pair-item.is c.in_ok-expr-in-Chain-2.ensures c.loop-pair.invariant

pub returns-after-loop-pair : goal.returns-after-loop-pair
returns-after-loop-pair t c = let declared = declared_in (placed c.args.declarations.now) in
    finish (λ rs. operands_calls declared (placed_operands rs)) c.args.calls.now.items (expr_calls declared (placed_expr c.args.e.now)) (λ more. refl)
    c.as_slice-pair-items.result.now c.loop-pair.pair-index c.loop-pair.calls.items (omega arith) c.loop-pair.invariant
