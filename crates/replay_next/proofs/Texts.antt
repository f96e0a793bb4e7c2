-- What an expression or a statement is, by its form in the code.
use Rattle.std.specs.Prelude.{◌≡◌, ℕ, List, Option, Some, None, Box, true, false}
use Rattle.std.specs.Global.{Global}
use Rattle.std.proofs.Common.{◌∙◌, ap, sym}
use Rattle.syntax_tree.specs.Plain as plain
use Rattle.syntax_tree.specs.Plain.{Name}
use Rattle.syntax_tree.specs.Placed.{placed_constant, placed_ref, placed_stmt, plain_constant, plain_expr, plain_ref, plain_stmt, ref_of}
use Rattle.syntax_tree.specs.declared.place.Place.{Place}
use Rattle.syntax_tree.specs.declared.expr.Op.{Op}
use Rattle.syntax_tree.specs.declared.expr.Constant.{Constant}
use Rattle.syntax_tree.specs.declared.expr.Expr.{Expr}
use Rattle.syntax_tree.specs.declared.expr.Expr.TheVariants as e_is
use Rattle.syntax_tree.specs.declared.stmt.Ref.{Ref}
use Rattle.syntax_tree.specs.declared.stmt.Stmt.{Stmt}
use Rattle.syntax_tree.specs.declared.stmt.Stmt.TheVariants as s_is
use Rattle.syntax_tree.proofs.Views as e_views
use Rattle.syntax_tree.proofs.StmtViews as s_views
use Rattle.replay_next.specs.Remains.{expr_of, exprs_of, operands_of, stmts_of}

-- ---- expressions

pub of_literal : (e : Expr) (p : Place) (n : ℕ) → e ≡ e_is.Literal p n → expr_of e ≡ plain.literal n
of_literal e p n is = ap expr_of is ∙ ap plain_expr (e_views.expr-Literal p n)

pub of_true : (e : Expr) (p : Place) → e ≡ e_is.True p → expr_of e ≡ plain.truth true
of_true e p is = ap expr_of is ∙ ap plain_expr (e_views.expr-True p)

pub of_false : (e : Expr) (p : Place) → e ≡ e_is.False p → expr_of e ≡ plain.truth false
of_false e p is = ap expr_of is ∙ ap plain_expr (e_views.expr-False p)

pub of_variable : (e : Expr) (p : Place) (n : Name) → e ≡ e_is.Variable p n → expr_of e ≡ plain.variable n
of_variable e p n is = ap expr_of is ∙ ap plain_expr (e_views.expr-Variable p n)

pub of_element : (e x : Expr) (p : Place) (n : Name) (i : Box Expr Global) → e ≡ e_is.Element p n i → x ≡ i.value → expr_of e ≡ plain.element n (expr_of x)
of_element e x p n i is same = ap expr_of is ∙ (ap plain_expr (e_views.expr-Element p n i) ∙ ap (λ y. plain.element n (expr_of y)) (sym same))

pub of_call : (e : Expr) (p : Place) (n : Name) (es xs : List Expr) → e ≡ e_is.Call p n es → xs ≡ es → expr_of e ≡ plain.call n (exprs_of xs)
of_call e p n es xs is same = ap expr_of is ∙ (ap plain_expr (e_views.expr-Call p n es) ∙ ap (λ y. plain.call n (exprs_of y)) (sym same))

pub of_minus : (e x : Expr) (p : Place) (i : Box Expr Global) → e ≡ e_is.Minus p i → x ≡ i.value → expr_of e ≡ plain.minus (expr_of x)
of_minus e x p i is same = ap expr_of is ∙ (ap plain_expr (e_views.expr-Minus p i) ∙ ap (λ y. plain.minus (expr_of y)) (sym same))

pub of_not : (e x : Expr) (p : Place) (i : Box Expr Global) → e ≡ e_is.Not p i → x ≡ i.value → expr_of e ≡ plain.negation (expr_of x)
of_not e x p i is same = ap expr_of is ∙ (ap plain_expr (e_views.expr-Not p i) ∙ ap (λ y. plain.negation (expr_of y)) (sym same))

pub of_paren : (e x : Expr) (p : Place) (i : Box Expr Global) → e ≡ e_is.Paren p i → x ≡ i.value → expr_of e ≡ plain.paren (expr_of x)
of_paren e x p i is same = ap expr_of is ∙ (ap plain_expr (e_views.expr-Paren p i) ∙ ap (λ y. plain.paren (expr_of y)) (sym same))

pub of_chain : (e x : Expr) (i : Box Expr Global) (rs ys : List (Op × Expr)) → e ≡ e_is.Chain i rs → x ≡ i.value → ys ≡ rs → expr_of e ≡ plain.row (expr_of x) (operands_of ys)
of_chain e x i rs ys is first same =
    ap expr_of is
    ∙ (ap plain_expr (e_views.expr-Chain i rs)
    ∙ (ap (λ y. plain.row (expr_of y) (operands_of rs)) (sym first) ∙ ap (λ y. plain.row (expr_of x) (operands_of y)) (sym same)))

-- ---- statements

abbrev pub stmt_of : Stmt → plain.Stmt
stmt_of s = plain_stmt (placed_stmt s)

abbrev pub aim_of : Ref → plain.Ref
aim_of r = plain_ref (placed_ref r)

abbrev pub constant_of : Constant → plain.Constant
constant_of k = plain_constant (placed_constant k)

index_of : (p : Place) (n : Name) (o : Option (Box Expr Global)) (i : Box Expr Global) (x : Expr) → o ≡ Some i → x ≡ i.value → plain_ref (ref_of p n o) ≡ plain.part n (expr_of x)
index_of p n o i x is same = ap (λ y. plain_ref (ref_of p n y)) is ∙ ap (λ y. plain.part n (expr_of y)) (sym same)

pub of_part : (r : Ref) (i : Box Expr Global) (x : Expr) → r.index ≡ Some i → x ≡ i.value → aim_of r ≡ plain.part r.name (expr_of x)
of_part r i x is same = index_of r.place r.name r.index i x is same

pub of_whole : (r : Ref) → r.index ≡ None → aim_of r ≡ plain.whole r.name
of_whole r is = ap (λ y. plain_ref (ref_of r.place r.name y)) is

pub of_assign : (s : Stmt) (r : Ref) (e : Expr) → s ≡ s_is.Assign r e → stmt_of s ≡ plain.assign (aim_of r) (expr_of e)
of_assign s r e is = ap stmt_of is ∙ ap plain_stmt (s_views.stmt-Assign r e)

pub of_assign_entry : (s : Stmt) (r : Ref) (mon : Name) (p : Place) (entry : Name) (q : Place) (es xs : List Expr) → s ≡ s_is.AssignEntry r mon p entry q es → xs ≡ es
    → stmt_of s ≡ plain.assign_entry (aim_of r) mon entry (exprs_of xs)
of_assign_entry s r mon p entry q es xs is same =
    ap stmt_of is ∙ (ap plain_stmt (s_views.stmt-AssignEntry r mon p entry q es) ∙ ap (λ y. plain.assign_entry (aim_of r) mon entry (exprs_of y)) (sym same))

pub of_assign_empty : (s : Stmt) (r : Ref) (x : Name) (p : Place) → s ≡ s_is.AssignEmpty r x p → stmt_of s ≡ plain.assign_empty (aim_of r) x
of_assign_empty s r x p is = ap stmt_of is ∙ ap plain_stmt (s_views.stmt-AssignEmpty r x p)

pub of_perform : (s : Stmt) (p : Place) (n : Name) (es xs : List Expr) → s ≡ s_is.Call p n es → xs ≡ es → stmt_of s ≡ plain.perform n (exprs_of xs)
of_perform s p n es xs is same = ap stmt_of is ∙ (ap plain_stmt (s_views.stmt-Call p n es) ∙ ap (λ y. plain.perform n (exprs_of y)) (sym same))

pub of_perform_entry : (s : Stmt) (p : Place) (mon entry : Name) (q : Place) (es xs : List Expr) → s ≡ s_is.CallEntry p mon entry q es → xs ≡ es
    → stmt_of s ≡ plain.perform_entry mon entry (exprs_of xs)
of_perform_entry s p mon entry q es xs is same =
    ap stmt_of is ∙ (ap plain_stmt (s_views.stmt-CallEntry p mon entry q es) ∙ ap (λ y. plain.perform_entry mon entry (exprs_of y)) (sym same))

pub of_for : (s : Stmt) (p : Place) (i : Name) (q : Place) (low high : Box Constant Global) (a xs : List Stmt) → s ≡ s_is.For p i q low high a → xs ≡ a
    → stmt_of s ≡ plain.loop i (constant_of low.value) (constant_of high.value) (stmts_of xs)
of_for s p i q low high a xs is same =
    ap stmt_of is ∙ (ap plain_stmt (s_views.stmt-For p i q low high a) ∙ ap (λ y. plain.loop i (constant_of low.value) (constant_of high.value) (stmts_of y)) (sym same))

pub of_exit : (s : Stmt) (p : Place) (e : Expr) → s ≡ s_is.ExitWhen p e → stmt_of s ≡ plain.exit_when (expr_of e)
of_exit s p e is = ap stmt_of is ∙ ap plain_stmt (s_views.stmt-ExitWhen p e)

pub of_assert : (s : Stmt) (p : Place) (e : Expr) → s ≡ s_is.Assert p e → stmt_of s ≡ plain.assert (expr_of e)
of_assert s p e is = ap stmt_of is ∙ ap plain_stmt (s_views.stmt-Assert p e)

pub of_get : (s : Stmt) (p : Place) (dev : Name) (q : Place) (r : Ref) → s ≡ s_is.Get p dev q r → stmt_of s ≡ plain.get dev (aim_of r)
of_get s p dev q r is = ap stmt_of is ∙ ap plain_stmt (s_views.stmt-Get p dev q r)

pub of_put : (s : Stmt) (p : Place) (dev : Name) (q : Place) (e : Expr) → s ≡ s_is.Put p dev q e → stmt_of s ≡ plain.put dev (expr_of e)
of_put s p dev q e is = ap stmt_of is ∙ ap plain_stmt (s_views.stmt-Put p dev q e)

pub of_wait : (s : Stmt) (p : Place) (x : Name) (q : Place) (limit number : Box Constant Global) → s ≡ s_is.Wait p x q limit number
    → stmt_of s ≡ plain.wait x (constant_of limit.value) (constant_of number.value)
of_wait s p x q limit number is = ap stmt_of is ∙ ap plain_stmt (s_views.stmt-Wait p x q limit number)

pub of_signal : (s : Stmt) (p : Place) (x : Name) (q : Place) → s ≡ s_is.Signal p x q → stmt_of s ≡ plain.signal x
of_signal s p x q is = ap stmt_of is ∙ ap plain_stmt (s_views.stmt-Signal p x q)

pub of_broadcast : (s : Stmt) (p : Place) (x : Name) (q : Place) → s ≡ s_is.Broadcast p x q → stmt_of s ≡ plain.broadcast x
of_broadcast s p x q is = ap stmt_of is ∙ ap plain_stmt (s_views.stmt-Broadcast p x q)

pub of_except : (s : Stmt) (p : Place) (k : Constant) → s ≡ s_is.Except p k → stmt_of s ≡ plain.except (constant_of k)
of_except s p k is = ap stmt_of is ∙ ap plain_stmt (s_views.stmt-Except p k)

pub of_if : (s : Stmt) (p : Place) (e : Expr) (a : List Stmt) → s ≡ s_is.If p e a None → stmt_of s ≡ plain.when (expr_of e) (stmts_of a)
of_if s p e a is = ap stmt_of is ∙ ap plain_stmt (s_views.stmt-If p e a)

pub of_if_else : (s : Stmt) (p : Place) (e : Expr) (a b : List Stmt) → s ≡ s_is.If p e a (Some b) → stmt_of s ≡ plain.when_else (expr_of e) (stmts_of a) (stmts_of b)
of_if_else s p e a b is = ap stmt_of is ∙ ap plain_stmt (s_views.stmt-IfElse p e a b)
