use Rattle.std.proofs.lemmas.Grind.{common_steps}
use Rattle.std.proofs.Common.{arith, ◌+◌, [], ◌∷◌, ◌++◌, drop, ap, ◌∙◌, append_assoc}
use Rattle.syntax.specs.Words.{COMMA, RIGHT_PAREN}
use Rattle.syntax.specs.ExprGrammar.{op_word}
use Rattle.syntax_tree.specs.Placed.{op_of, placed_expr, placed_exprs, placed_operands}
use Rattle.syntax_printer.specs.Canonical.{Line, expr_words, more_args_words, operands_words}
use Rattle.syntax_printer.specs.Pages.{put, puts}
use Rattle.syntax_tree.proofs.Views.{expr-Chain}
use Rattle.syntax_printer.proofs.Steps.{puts_append, turned, said, on_ok}
use Rattle.syntax_printer.proofs.page.Page.+expr.Goals as goal

pub args-loop-arg-preserved : goal.args-loop-arg-preserved
args-loop-arg-preserved t c =
    let x = c.arg-item.result in
    let words : Line = expr_words (placed_expr x) in
    let rest : Line = more_args_words (placed_exprs (drop (c.loop-arg.arg-index + 1) c.in-Some.more.now)) in
    turned (λ p ys. puts p (more_args_words (placed_exprs ys) ++ RIGHT_PAREN ∷ [])) c.in-Some.more.now c.loop-arg.arg-index x c.loop-arg.self c.expr-in-loop-arg.new.self _ c.loop-arg-test.true c.arg-item.is
    c.loop-arg.invariant
    (ap (puts (put c.loop-arg.self COMMA)) (append_assoc words rest (RIGHT_PAREN ∷ []))
    ∙ said c.loop-arg.self c.sign-in-loop-arg.new.self c.expr-in-loop-arg.new.self COMMA words (rest ++ RIGHT_PAREN ∷ []) c.in_ok-sign-2.ensures c.in_ok-expr-2.ensures)

pub operands-loop-operand-preserved : goal.operands-loop-operand-preserved
operands-loop-operand-preserved t c =
    let x = c.operand-item.result in
    let rest : Line = operands_words (placed_operands (drop (c.loop-operand.operand-index + 1) c.args.operands.now)) in
    turned (λ p ys. puts p (operands_words (placed_operands ys))) c.args.operands.now c.loop-operand.operand-index x c.loop-operand.self c.expr.new.self _ c.loop-operand-test.true c.operand-item.is
    c.loop-operand.invariant
    (said c.loop-operand.self c.operator.new.self c.expr.new.self (op_word (op_of x.0)) (expr_words (placed_expr x.1)) rest c.in_ok-operator.ensures c.in_ok-expr.ensures)

pub expr-returns-in_ok-expr-in-Chain : goal.expr-returns-in_ok-expr-in-Chain
expr-returns-in_ok-expr-in-Chain t c =
    let old = c.args.self.now in
    let words : Line = expr_words (placed_expr c.in-Chain.first.value) in
    let rest : Line = operands_words (placed_operands c.in-Chain.rest) in
    on_ok c.operands.result c.operands.ensures (λ e.
    let v = expr-Chain c.in-Chain.first c.in-Chain.rest in
    let a = puts_append old words rest in
    grind (arith, common_steps))
