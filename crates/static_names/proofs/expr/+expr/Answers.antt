use Rattle.std.proofs.Common.{◌≡◌, ◌∙◌, ap, arith, refl, sym}
use Rattle.std.proofs.lemmas.Result.{on_ok_weaker}
use Rattle.syntax_tree.specs.Placed.{placed_expr, placed_exprs, placed_operands, row}
use Rattle.syntax_tree.proofs.Views.{expr-Chain}
use Rattle.static_names.specs.Occurrences.{expr_names, exprs_names, operands_names}
use Rattle.static_names.specs.Findings.{noted}
use Rattle.static_names.specs.Seen.{site}
use Rattle.static_names.proofs.Walks.{step, finish}
use Rattle.static_names.proofs.expr.+expr.Goals as goal

pub exprs-loop-e-preserved : goal.exprs-loop-e-preserved
exprs-loop-e-preserved t c = let here = site c.args.around.now c.args.loops.now in
    step (λ es. exprs_names here (placed_exprs es)) c.args.findings.now (exprs_names here (placed_exprs c.args.list.now)) (λ e. expr_names here (placed_expr e)) (λ e es more. refl)
    c.args.list.now c.loop-e.e-index c.e-item.result c.loop-e.findings c.expr.new.findings (omega arith) c.e-item.is c.in-Ok.ensures c.loop-e.invariant

pub exprs-returns : goal.exprs-returns
exprs-returns t c = let here = site c.args.around.now c.args.loops.now in
    finish (λ es. exprs_names here (placed_exprs es)) c.args.findings.now (exprs_names here (placed_exprs c.args.list.now)) (λ more. refl)
    c.args.list.now c.loop-e.e-index c.loop-e.findings (omega arith) c.loop-e.invariant

pub operands-loop-operand-preserved : goal.operands-loop-operand-preserved
operands-loop-operand-preserved t c = let here = site c.args.around.now c.args.loops.now in
    step (λ rs. operands_names here (placed_operands rs)) c.args.findings.now (operands_names here (placed_operands c.args.list.now)) (λ r. expr_names here (placed_expr r.1)) (λ r rs more. refl)
    c.args.list.now c.loop-operand.operand-index c.operand-item.result c.loop-operand.findings c.expr.new.findings (omega arith) c.operand-item.is c.in-Ok.ensures c.loop-operand.invariant

pub operands-returns : goal.operands-returns
operands-returns t c = let here = site c.args.around.now c.args.loops.now in
    finish (λ rs. operands_names here (placed_operands rs)) c.args.findings.now (operands_names here (placed_operands c.args.list.now)) (λ more. refl)
    c.args.list.now c.loop-operand.operand-index c.loop-operand.findings (omega arith) c.loop-operand.invariant

pub expr-returns-in-Ok-expr : goal.expr-returns-in-Ok-expr
expr-returns-in-Ok-expr t c = let here = site c.args.around.now c.args.loops.now in
    let old = c.args.findings.now in
    let rest = placed_operands c.in-Chain.rest in
    let whole : placed_expr c.args.e.now ≡ row (placed_expr c.in-Chain.first.value) rest = ap placed_expr c.in-Chain.is ∙ expr-Chain c.in-Chain.first c.in-Chain.rest in
    on_ok_weaker c.operands.result (λ told more.
    told more ∙ ap (λ rs. noted c.expr-in-Chain.new.findings (operands_names here (placed_operands rs) more)) c.as_slice-in-Chain.ensures
    ∙ c.in-Ok-expr.ensures (operands_names here rest more)
    ∙ ap (λ e. noted old (expr_names here (placed_expr e) (operands_names here rest more))) c.deref-in-Chain.ensures
    ∙ ap (λ e. noted old (expr_names here e more)) (sym whole)) c.operands.ensures
