-- What is made of the parts of a text, as the code has them.
use Rattle.std.specs.Prelude.{List, Option}
use Rattle.syntax_tree.specs.Plain.{Program}
use Rattle.syntax_tree.specs.Placed.{placed_expr, placed_exprs, placed_operands, placed_ref, placed_stmt, placed_stmts, plain_expr, plain_exprs, plain_operands, plain_ref, plain_stmt, plain_stmts}
use Rattle.syntax_tree.specs.declared.expr.Op.{Op}
use Rattle.syntax_tree.specs.declared.expr.Expr.{Expr}
use Rattle.syntax_tree.specs.declared.stmt.Ref.{Ref}
use Rattle.syntax_tree.specs.declared.stmt.Stmt.{Stmt}
use Rattle.code_spec.specs.Layout.{Scope}
use Rattle.codegen_spec.specs.declared.var_location.ValueRange.{ValueRange}
use Rattle.codegen_spec.specs.Made.{Out, args_out, expr_out, index_out, put_out, row_out, stmt_out, stmts_out, store_out}

abbrev pub expr_of : Program → Scope → Expr → Out → Out
expr_of g c e o = expr_out g c (plain_expr (placed_expr e)) o

abbrev pub row_of : Program → Scope → List (Op × Expr) → Out → Out
row_of g c rs o = row_out g c (plain_operands (placed_operands rs)) o

abbrev pub args_of : Program → Scope → List Expr → List (Option ValueRange) → Out → Out
args_of g c es rs o = args_out g c (plain_exprs (placed_exprs es)) rs o

abbrev pub index_of : Program → Scope → Ref → Out → Out
index_of g c r o = index_out g c (plain_ref (placed_ref r)) o

abbrev pub put_of : Program → Scope → Ref → Out → Out
put_of g c r o = put_out g c (plain_ref (placed_ref r)) o

abbrev pub store_of : Program → Scope → Ref → Out → Out
store_of g c r o = store_out g c (plain_ref (placed_ref r)) o

abbrev pub stmt_of : Program → Scope → Stmt → Out → Out
stmt_of g c s o = stmt_out g c (plain_stmt (placed_stmt s)) o

abbrev pub stmts_of : Program → Scope → List Stmt → Out → Out
stmts_of g c ss o = stmts_out g c (plain_stmts (placed_stmts ss)) o
