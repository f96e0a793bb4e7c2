-- The equations of `placed_stmt`, one for each form of the code's statements.
use Rattle.std.proofs.Common.{◌≡◌, List, Some, None, Box, Global, rules}
use Rattle.syntax_tree.specs.Plain.{Name}
use Rattle.syntax_tree.specs.Placed.{placed_constant, placed_expr, placed_exprs, placed_ref, placed_stmt, placed_stmts, assign, assign_entry, assign_empty, perform, perform_entry, when, when_else, loop, exit_when, get, put, wait, signal, broadcast, except, assert}
use Rattle.syntax_tree.specs.declared.place.Place.{Place}
use Rattle.syntax_tree.specs.declared.expr.Constant.{Constant}
use Rattle.syntax_tree.specs.declared.expr.Expr.{Expr}
use Rattle.syntax_tree.specs.declared.stmt.Ref.{Ref}
use Rattle.syntax_tree.specs.declared.stmt.Stmt.{Stmt, the_lemmas}
use Rattle.syntax_tree.specs.declared.stmt.Stmt.TheVariants as v

pub stmt-Assign : (r : Ref) (e : Expr) → placed_stmt (v.Assign r e) ≡ assign (placed_ref r) (placed_expr e)
stmt-Assign r e = search (rules, the_lemmas)

pub stmt-AssignEntry : (r : Ref) (mon : Name) (p : Place) (entry : Name) (q : Place) (es : List Expr) → placed_stmt (v.AssignEntry r mon p entry q es) ≡ assign_entry (placed_ref r) mon p entry q (placed_exprs es)
stmt-AssignEntry r mon p entry q es = search (rules, the_lemmas)

pub stmt-AssignEmpty : (r : Ref) (cond : Name) (p : Place) → placed_stmt (v.AssignEmpty r cond p) ≡ assign_empty (placed_ref r) cond p
stmt-AssignEmpty r cond p = search (rules, the_lemmas)

pub stmt-Call : (p : Place) (n : Name) (es : List Expr) → placed_stmt (v.Call p n es) ≡ perform p n (placed_exprs es)
stmt-Call p n es = search (rules, the_lemmas)

pub stmt-CallEntry : (p : Place) (mon : Name) (entry : Name) (q : Place) (es : List Expr) → placed_stmt (v.CallEntry p mon entry q es) ≡ perform_entry p mon entry q (placed_exprs es)
stmt-CallEntry p mon entry q es = search (rules, the_lemmas)

pub stmt-If : (p : Place) (e : Expr) (a : List Stmt) → placed_stmt (v.If p e a None) ≡ when p (placed_expr e) (placed_stmts a)
stmt-If p e a = search (rules, the_lemmas)

pub stmt-IfElse : (p : Place) (e : Expr) (a b : List Stmt) → placed_stmt (v.If p e a (Some b)) ≡ when_else p (placed_expr e) (placed_stmts a) (placed_stmts b)
stmt-IfElse p e a b = search (rules, the_lemmas)

pub stmt-For : (p : Place) (n : Name) (q : Place) (low high : Box Constant Global) (a : List Stmt) → placed_stmt (v.For p n q low high a) ≡ loop p n q (placed_constant low.value) (placed_constant high.value) (placed_stmts a)
stmt-For p n q low high a = search (rules, the_lemmas)

pub stmt-ExitWhen : (p : Place) (e : Expr) → placed_stmt (v.ExitWhen p e) ≡ exit_when p (placed_expr e)
stmt-ExitWhen p e = search (rules, the_lemmas)

pub stmt-Get : (p : Place) (dev : Name) (q : Place) (r : Ref) → placed_stmt (v.Get p dev q r) ≡ get p dev q (placed_ref r)
stmt-Get p dev q r = search (rules, the_lemmas)

pub stmt-Put : (p : Place) (dev : Name) (q : Place) (e : Expr) → placed_stmt (v.Put p dev q e) ≡ put p dev q (placed_expr e)
stmt-Put p dev q e = search (rules, the_lemmas)

pub stmt-Wait : (p : Place) (cond : Name) (q : Place) (limit number : Box Constant Global) → placed_stmt (v.Wait p cond q limit number) ≡ wait p cond q (placed_constant limit.value) (placed_constant number.value)
stmt-Wait p cond q limit number = search (rules, the_lemmas)

pub stmt-Signal : (p : Place) (cond : Name) (q : Place) → placed_stmt (v.Signal p cond q) ≡ signal p cond q
stmt-Signal p cond q = search (rules, the_lemmas)

pub stmt-Broadcast : (p : Place) (cond : Name) (q : Place) → placed_stmt (v.Broadcast p cond q) ≡ broadcast p cond q
stmt-Broadcast p cond q = search (rules, the_lemmas)

pub stmt-Except : (p : Place) (number : Constant) → placed_stmt (v.Except p number) ≡ except p (placed_constant number)
stmt-Except p number = search (rules, the_lemmas)

pub stmt-Assert : (p : Place) (e : Expr) → placed_stmt (v.Assert p e) ≡ assert p (placed_expr e)
stmt-Assert p e = search (rules, the_lemmas)
