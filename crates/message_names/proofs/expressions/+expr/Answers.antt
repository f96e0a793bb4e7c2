use Rattle.std.proofs.Common.{◌++◌, refl, arith}
use Rattle.syntax_tree.specs.Placed.{placed_expr, placed_exprs, placed_operands}
use Rattle.message_names.specs.Mentions.{expr_mentions, exprs_mentions, operands_mentions}
use Rattle.message_names.proofs.Steps.{step, finish}
use Rattle.message_names.proofs.expressions.+expr.Goals as goal

pub exprs-loop-e-preserved : goal.exprs-loop-e-preserved
exprs-loop-e-preserved t c =
    step (λ xs. exprs_mentions (placed_exprs xs)) (c.args.mentions.now ++ exprs_mentions (placed_exprs c.args.list.now)) (λ x. expr_mentions (placed_expr x)) (λ x xs. refl)
    c.args.list.now c.loop-e.e-index c.e-item.result c.loop-e.mentions c.expr.new.mentions (omega arith) c.e-item.is c.in-Ok.ensures c.loop-e.invariant

pub exprs-returns : goal.exprs-returns
exprs-returns t c =
    finish (λ xs. exprs_mentions (placed_exprs xs)) (c.args.mentions.now ++ exprs_mentions (placed_exprs c.args.list.now)) refl
    c.args.list.now c.loop-e.e-index c.loop-e.mentions (omega arith) c.loop-e.invariant

pub operands-loop-operand-preserved : goal.operands-loop-operand-preserved
operands-loop-operand-preserved t c =
    step (λ xs. operands_mentions (placed_operands xs)) (c.args.mentions.now ++ operands_mentions (placed_operands c.args.list.now)) (λ x. expr_mentions (placed_expr x.1)) (λ x xs. refl)
    c.args.list.now c.loop-operand.operand-index c.operand-item.result c.loop-operand.mentions c.expr.new.mentions (omega arith) c.operand-item.is c.in-Ok.ensures c.loop-operand.invariant

pub operands-returns : goal.operands-returns
operands-returns t c =
    finish (λ xs. operands_mentions (placed_operands xs)) (c.args.mentions.now ++ operands_mentions (placed_operands c.args.list.now)) refl
    c.args.list.now c.loop-operand.operand-index c.loop-operand.mentions (omega arith) c.loop-operand.invariant
