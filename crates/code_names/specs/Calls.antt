-- What texts call, as the code lists it. Each definition gives what its part of the tree calls, in
-- the order in which the names stand, and then `more`.
use Rattle.std.specs.Prelude.{List, ◌∷◌, map, Option, Some, None}
use Rattle.syntax_tree.specs.Plain.{Expr, literal, truth, variable, element, call, minus, negation, paren, row, Exprs, no_exprs, exprs, Operands, no_operands, operand, Ref, whole, part, Stmt, assign, assign_entry, assign_empty, perform, perform_entry, when, when_else, loop, exit_when, get, put, wait, signal, broadcast, except, assert, Stmts, no_stmts, stmts, Answers}
use Rattle.code_spec.specs.Numbering.{Called, calls_routine, calls_entry}
use Rattle.code_names.specs.declared.calls.Called as code_called
use Rattle.code_names.specs.declared.calls.Called.TheVariants as called_is

abbrev pub called_of : code_called.Called → Called
called_of (called_is.Routine name) = calls_routine name.now
called_of (called_is.Entry monitor name) = calls_entry monitor.now name.now

abbrev pub calls_told : List code_called.Called → List Called
calls_told calls = map called_of calls

abbrev mutual
  pub expr_called : Expr → List Called → List Called
  expr_called (literal n) more = more
  expr_called (truth b) more = more
  expr_called (variable x) more = more
  expr_called (element x e) more = expr_called e more
  expr_called (call f es) more = calls_routine f ∷ exprs_called es more
  expr_called (minus e) more = expr_called e more
  expr_called (negation e) more = expr_called e more
  expr_called (paren e) more = expr_called e more
  expr_called (row e r) more = expr_called e (row_called r more)

  pub exprs_called : Exprs → List Called → List Called
  exprs_called no_exprs more = more
  exprs_called (exprs e es) more = expr_called e (exprs_called es more)

  pub row_called : Operands → List Called → List Called
  row_called no_operands more = more
  row_called (operand op e r) more = expr_called e (row_called r more)

abbrev pub ref_called : Ref → List Called → List Called
ref_called (whole x) more = more
ref_called (part x e) more = expr_called e more

abbrev mutual
  pub stmt_called : Stmt → List Called → List Called
  stmt_called (assign r e) more = ref_called r (expr_called e more)
  stmt_called (assign_entry r m e es) more = ref_called r (calls_entry m e ∷ exprs_called es more)
  stmt_called (assign_empty r x) more = ref_called r more
  stmt_called (perform f es) more = calls_routine f ∷ exprs_called es more
  stmt_called (perform_entry m e es) more = calls_entry m e ∷ exprs_called es more
  stmt_called (when e a) more = expr_called e (stmts_called a more)
  stmt_called (when_else e a b) more = expr_called e (stmts_called a (stmts_called b more))
  stmt_called (loop i low high ss) more = stmts_called ss more
  stmt_called (exit_when e) more = expr_called e more
  stmt_called (get d r) more = ref_called r more
  stmt_called (put d e) more = expr_called e more
  stmt_called (wait x limit number) more = more
  stmt_called (signal x) more = more
  stmt_called (broadcast x) more = more
  stmt_called (except n) more = more
  stmt_called (assert e) more = expr_called e more

  pub stmts_called : Stmts → List Called → List Called
  stmts_called no_stmts more = more
  stmts_called (stmts s ss) more = stmt_called s (stmts_called ss more)

abbrev pub answers_called : Option Answers → List Called → List Called
answers_called None more = more
answers_called (Some a) more = expr_called a.value more
