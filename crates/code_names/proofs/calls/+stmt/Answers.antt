use Rattle.std.proofs.Common.{◌∙◌, ◌++◌, ◌∷◌, ap, sym}
use Rattle.std.proofs.lemmas.Result.{on_ok_weaker}
use Rattle.syntax_tree.specs.Placed.{placed_expr, placed_exprs, placed_stmt, placed_stmts, plain_expr, plain_exprs, plain_stmt, plain_stmts}
use Rattle.syntax_tree.specs.declared.stmt.Stmt.TheVariants as v
use Rattle.syntax_tree.proofs.StmtViews.{stmt-Assign, stmt-AssignEntry, stmt-Call, stmt-CallEntry, stmt-IfElse}
use Rattle.code_spec.specs.Numbering.{calls_routine, calls_entry}
use Rattle.code_names.specs.Calls.{calls_told, expr_called, exprs_called, stmt_called, stmts_called}
use Rattle.code_names.proofs.calls.+stmt.Goals as goal

pub stmt-returns-in_ok-target-in-Assign : goal.stmt-returns-in_ok-target-in-Assign
stmt-returns-in_ok-target-in-Assign t c =
    let old = calls_told c.args.calls.now.items in
    on_ok_weaker c.expr-in-Assign.result (λ told more.
    told more ∙ c.in_ok-target-in-Assign.ensures (expr_called (plain_expr (placed_expr c.in-Assign.value)) more)
    ∙ sym (ap (λ s. old ++ stmt_called (plain_stmt s) more) (ap placed_stmt c.in-Assign.is ∙ stmt-Assign c.in-Assign.to c.in-Assign.value)))
    c.expr-in-Assign.ensures

pub stmt-returns-in_ok-target-in-AssignEntry : goal.stmt-returns-in_ok-target-in-AssignEntry
stmt-returns-in_ok-target-in-AssignEntry t c =
    let old = calls_told c.args.calls.now.items in
    let s = c.in-AssignEntry in
    let entry = calls_entry s.mon s.entry in
    on_ok_weaker c.call_with.result (λ told more.
    told more ∙ ap (λ es. calls_told c.target-in-AssignEntry.new.calls.items ++ entry ∷ exprs_called (plain_exprs (placed_exprs es)) more) c.as_slice-in-AssignEntry.ensures
    ∙ c.in_ok-target-in-AssignEntry.ensures (entry ∷ exprs_called (plain_exprs (placed_exprs s.args)) more)
    ∙ sym (ap (λ x. old ++ stmt_called (plain_stmt x) more) (ap placed_stmt s.is ∙ stmt-AssignEntry s.to s.mon s.mon_place s.entry s.entry_place s.args)))
    c.call_with.ensures

pub stmt-returns-in-Call : goal.stmt-returns-in-Call
stmt-returns-in-Call t c =
    let old = calls_told c.args.calls.now.items in
    let s = c.in-Call in
    on_ok_weaker c.call_with-in-Call.result (λ told more.
    told more ∙ ap (λ es. old ++ calls_routine s.name ∷ exprs_called (plain_exprs (placed_exprs es)) more) c.as_slice-in-Call.ensures
    ∙ sym (ap (λ x. old ++ stmt_called (plain_stmt x) more) (ap placed_stmt s.is ∙ stmt-Call s.place s.name s.args)))
    c.call_with-in-Call.ensures

pub stmt-returns-in-CallEntry : goal.stmt-returns-in-CallEntry
stmt-returns-in-CallEntry t c =
    let old = calls_told c.args.calls.now.items in
    let s = c.in-CallEntry in
    on_ok_weaker c.call_with-in-CallEntry.result (λ told more.
    told more ∙ ap (λ es. old ++ calls_entry s.mon s.entry ∷ exprs_called (plain_exprs (placed_exprs es)) more) c.as_slice-in-CallEntry.ensures
    ∙ sym (ap (λ x. old ++ stmt_called (plain_stmt x) more) (ap placed_stmt s.is ∙ stmt-CallEntry s.place s.mon s.entry s.entry_place s.args)))
    c.call_with-in-CallEntry.ensures

pub stmt-returns-in-Some : goal.stmt-returns-in-Some
stmt-returns-in-Some t c =
    let old = calls_told c.args.calls.now.items in
    let s = c.in-If in
    on_ok_weaker c.stmts-in-Some.result (λ told more.
    let second = stmts_called (plain_stmts (placed_stmts c.in-Some.second)) more in
    told more ∙ ap (λ ss. calls_told c.stmts.new.calls.items ++ stmts_called (plain_stmts (placed_stmts ss)) more) c.as_slice-in-Some.ensures
    ∙ c.in_ok-stmts-in-If.ensures second
    ∙ ap (λ ss. calls_told c.expr.new.calls.items ++ stmts_called (plain_stmts (placed_stmts ss)) second) c.as_slice.ensures
    ∙ c.in_ok-expr-in-If.ensures (stmts_called (plain_stmts (placed_stmts s.first)) second)
    ∙ sym (ap (λ x. old ++ stmt_called (plain_stmt x) more) (ap placed_stmt (s.is ∙ ap (λ o. v.If s.place s.test s.first o) c.in-Some.is) ∙ stmt-IfElse s.place s.test s.first c.in-Some.second)))
    c.stmts-in-Some.ensures
