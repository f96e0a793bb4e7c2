use Rattle.std.proofs.Common.{◌∙◌, ◌++◌, ap, sym}
use Rattle.std.proofs.lemmas.Result.{on_ok_weaker}
use Rattle.syntax_tree.specs.Placed.{placed_expr, placed_exprs, placed_operands, plain_expr, plain_exprs, plain_operands}
use Rattle.syntax_tree.proofs.Views.{expr-Call, expr-Chain}
use Rattle.code_names.specs.Calls.{calls_told, expr_called, exprs_called, row_called}
use Rattle.code_names.proofs.calls.+expr.Goals as goal

pub expr-returns-in_ok-call-in-Call : goal.expr-returns-in_ok-call-in-Call
expr-returns-in_ok-call-in-Call t c =
    let old = calls_told c.args.calls.now.items in
    on_ok_weaker c.exprs.result (λ told more.
    told more ∙ ap (λ es. calls_told c.call.new.calls.items ++ exprs_called (plain_exprs (placed_exprs es)) more) c.as_slice.ensures
    ∙ c.in_ok-call-in-Call.ensures (exprs_called (plain_exprs (placed_exprs c.in-Call.args)) more)
    ∙ sym (ap (λ e. old ++ expr_called (plain_expr e) more) (ap placed_expr c.in-Call.is ∙ expr-Call c.in-Call.place c.in-Call.name c.in-Call.args)))
    c.exprs.ensures

pub expr-returns-in_ok-expr-in-Chain : goal.expr-returns-in_ok-expr-in-Chain
expr-returns-in_ok-expr-in-Chain t c =
    let old = calls_told c.args.calls.now.items in
    on_ok_weaker c.operands.result (λ told more.
    told more ∙ ap (λ rs. calls_told c.expr-in-Chain.new.calls.items ++ row_called (plain_operands (placed_operands rs)) more) c.as_slice-in-Chain.ensures
    ∙ c.in_ok-expr-in-Chain.ensures (row_called (plain_operands (placed_operands c.in-Chain.rest)) more)
    ∙ ap (λ e. old ++ expr_called (plain_expr (placed_expr e)) (row_called (plain_operands (placed_operands c.in-Chain.rest)) more)) c.deref-in-Chain.ensures
    ∙ sym (ap (λ e. old ++ expr_called (plain_expr e) more) (ap placed_expr c.in-Chain.is ∙ expr-Chain c.in-Chain.first c.in-Chain.rest)))
    c.operands.ensures
