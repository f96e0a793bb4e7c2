-- Which routines statements call, each by the place where its name is declared, and which
-- statements wait.
use Rattle.std.specs.Prelude.{Bool, true, false, ◌||◌, List, [], ◌∷◌, Option, Some, None}
use Rattle.syntax_tree.specs.Placed.{Expr, literal, truth, variable, element, call, minus, negation, paren, row, Exprs, no_exprs, exprs, Operands, no_operands, operand, Ref, whole, part, Stmt, assign, assign_entry, assign_empty, perform, perform_entry, when, when_else, loop, exit_when, get, put, wait, signal, broadcast, except, assert, Stmts, no_stmts, stmts, Routine}
use Rattle.syntax_tree.specs.declared.place.Place.{Place}

-- where the name that is used at a place is declared
abbrev pub Declared : Type 0
Declared = Place → Option Place

-- Each definition gives the routines that its part of the tree calls, in the order of the calls,
-- and then `more`.

abbrev pub called : Option Place → List Place → List Place
called None more = more
called (Some p) more = p ∷ more

abbrev mutual
  pub expr_calls : Declared → Expr Place → List Place → List Place
  expr_calls declared (literal p n) more = more
  expr_calls declared (truth p b) more = more
  expr_calls declared (variable p name) more = more
  expr_calls declared (element p name i) more = expr_calls declared i more
  expr_calls declared (call p name es) more = called (declared p) (exprs_calls declared es more)
  expr_calls declared (minus p e) more = expr_calls declared e more
  expr_calls declared (negation p e) more = expr_calls declared e more
  expr_calls declared (paren p e) more = expr_calls declared e more
  expr_calls declared (row e rs) more = expr_calls declared e (operands_calls declared rs more)

  pub exprs_calls : Declared → Exprs Place → List Place → List Place
  exprs_calls declared no_exprs more = more
  exprs_calls declared (exprs e es) more = expr_calls declared e (exprs_calls declared es more)

  pub operands_calls : Declared → Operands Place → List Place → List Place
  operands_calls declared no_operands more = more
  operands_calls declared (operand op e rs) more = expr_calls declared e (operands_calls declared rs more)

abbrev pub ref_calls : Declared → Ref Place → List Place → List Place
ref_calls declared (whole p name) more = more
ref_calls declared (part p name i) more = expr_calls declared i more

abbrev mutual
  pub stmt_calls : Declared → Stmt Place → List Place → List Place
  stmt_calls declared (assign r e) more = ref_calls declared r (expr_calls declared e more)
  stmt_calls declared (assign_entry r mon p entry q es) more = ref_calls declared r (called (declared q) (exprs_calls declared es more))
  stmt_calls declared (assign_empty r cond p) more = ref_calls declared r more
  stmt_calls declared (perform p name es) more = called (declared p) (exprs_calls declared es more)
  stmt_calls declared (perform_entry p mon entry q es) more = called (declared q) (exprs_calls declared es more)
  stmt_calls declared (when p e a) more = expr_calls declared e (stmts_calls declared a more)
  stmt_calls declared (when_else p e a b) more = expr_calls declared e (stmts_calls declared a (stmts_calls declared b more))
  stmt_calls declared (loop p name q low high a) more = stmts_calls declared a more
  stmt_calls declared (exit_when p e) more = expr_calls declared e more
  stmt_calls declared (get p dev q r) more = ref_calls declared r more
  stmt_calls declared (put p dev q e) more = expr_calls declared e more
  stmt_calls declared (wait p cond q limit number) more = more
  stmt_calls declared (signal p cond q) more = more
  stmt_calls declared (broadcast p cond q) more = more
  stmt_calls declared (except p number) more = more
  stmt_calls declared (assert p e) more = expr_calls declared e more

  pub stmts_calls : Declared → Stmts Place → List Place → List Place
  stmts_calls declared no_stmts more = more
  stmts_calls declared (stmts s ss) more = stmt_calls declared s (stmts_calls declared ss more)

abbrev pub answer_calls : Declared → Option (Expr Place) → List Place → List Place
answer_calls declared None more = more
answer_calls declared (Some e) more = expr_calls declared e more

-- the routines that a routine calls
abbrev pub routine_calls : Declared → Routine Place → List Place
routine_calls declared r = stmts_calls declared r.body (answer_calls declared r.value [])

abbrev mutual
  -- there is a wait among the statements
  pub stmt_waits : Stmt Place → Bool
  stmt_waits (assign r e) = false
  stmt_waits (assign_entry r mon p entry q es) = false
  stmt_waits (assign_empty r cond p) = false
  stmt_waits (perform p name es) = false
  stmt_waits (perform_entry p mon entry q es) = false
  stmt_waits (when p e a) = stmts_wait a
  stmt_waits (when_else p e a b) = stmts_wait a || stmts_wait b
  stmt_waits (loop p name q low high a) = stmts_wait a
  stmt_waits (exit_when p e) = false
  stmt_waits (get p dev q r) = false
  stmt_waits (put p dev q e) = false
  stmt_waits (wait p cond q limit number) = true
  stmt_waits (signal p cond q) = false
  stmt_waits (broadcast p cond q) = false
  stmt_waits (except p number) = false
  stmt_waits (assert p e) = false

  pub stmts_wait : Stmts Place → Bool
  stmts_wait no_stmts = false
  stmts_wait (stmts s ss) = stmt_waits s || stmts_wait ss
