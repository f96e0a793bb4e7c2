-- How many words of stack each form takes at most, above those that are there where it begins. An
-- expression leaves one, a statement none.
use Rattle.std.specs.Prelude.{ℕ, ◌+◌, Option, Some, None, max}
use Rattle.syntax_tree.specs.Plain.{Expr, literal, truth, variable, element, call, minus, negation, paren, row, Exprs, no_exprs, exprs, Operands, no_operands, operand, Ref, whole, part, Stmt, assign, assign_entry, assign_empty, perform, perform_entry, when, when_else, loop, exit_when, get, put, wait, signal, broadcast, except, assert, Stmts, no_stmts, stmts, Answers, Routine, Handler, Process, Program}
use Rattle.code_spec.specs.Layout.{Owner, routine_words, frame_words}
use Rattle.code_spec.specs.Numbering.{Text, routine_in, entry_in}
use Rattle.code_cost_spec.specs.Names.{Calls}

-- a call, whose arguments take so many: two words, the routine's locals, and what it takes itself
abbrev pub call_height : Program → Calls → Option Text → (args : ℕ) → ℕ
call_height g k None args = args
call_height g k (Some t) args = max args (2 + routine_words g t.routine + k.height t)

abbrev mutual
  pub expr_height : Program → Owner → Calls → Expr → ℕ
  expr_height g o k (literal v) = 1
  expr_height g o k (truth b) = 1
  expr_height g o k (variable x) = 1
  expr_height g o k (element x e) = expr_height g o k e
  expr_height g o k (call f es) = call_height g k (routine_in g o f) (args_height g o k es)
  expr_height g o k (minus e) = expr_height g o k e
  expr_height g o k (negation e) = expr_height g o k e
  expr_height g o k (paren e) = expr_height g o k e
  expr_height g o k (row e r) = max (expr_height g o k e) (row_height g o k r)

  -- above the operand before it
  pub row_height : Program → Owner → Calls → Operands → ℕ
  row_height g o k no_operands = 0
  row_height g o k (operand op e r) = max (1 + expr_height g o k e) (row_height g o k r)

  -- each argument above those before it
  pub args_height : Program → Owner → Calls → Exprs → ℕ
  args_height g o k no_exprs = 0
  args_height g o k (exprs e es) = max (expr_height g o k e) (1 + args_height g o k es)

abbrev pub index_height : Program → Owner → Calls → Ref → ℕ
index_height g o k (whole x) = 0
index_height g o k (part x e) = expr_height g o k e

-- the index stays below what is assigned
abbrev pub index_words : Ref → ℕ
index_words (whole x) = 0
index_words (part x e) = 1

abbrev pub target_height : Program → Owner → Calls → Ref → (value : ℕ) → ℕ
target_height g o k r value = max (index_height g o k r) (index_words r + value)

abbrev mutual
  pub stmt_height : Program → Owner → Calls → Stmt → ℕ
  stmt_height g o k (assign r e) = target_height g o k r (expr_height g o k e)
  stmt_height g o k (assign_entry r m e es) = target_height g o k r (call_height g k (entry_in g m e) (args_height g o k es))
  stmt_height g o k (assign_empty r x) = target_height g o k r 1
  stmt_height g o k (perform f es) = call_height g k (routine_in g o f) (args_height g o k es)
  stmt_height g o k (perform_entry m e es) = call_height g k (entry_in g m e) (args_height g o k es)
  stmt_height g o k (when e a) = max (expr_height g o k e) (stmts_height g o k a)
  stmt_height g o k (when_else e a b) = max (expr_height g o k e) (max (stmts_height g o k a) (stmts_height g o k b))
  -- above the counter; counting on takes two
  stmt_height g o k (loop x low high ss) = 1 + max (stmts_height g o k ss) 2
  stmt_height g o k (exit_when e) = expr_height g o k e
  stmt_height g o k (get d r) = target_height g o k r 1
  stmt_height g o k (put d e) = expr_height g o k e
  stmt_height g o k (wait x limit number) = 0
  stmt_height g o k (signal x) = 0
  stmt_height g o k (broadcast x) = 0
  stmt_height g o k (except e) = 0
  stmt_height g o k (assert e) = expr_height g o k e

  pub stmts_height : Program → Owner → Calls → Stmts → ℕ
  stmts_height g o k no_stmts = 0
  stmts_height g o k (stmts s ss) = max (stmt_height g o k s) (stmts_height g o k ss)

abbrev pub answers_height : Program → Owner → Calls → Option Answers → ℕ
answers_height g o k None = 0
answers_height g o k (Some a) = expr_height g o k a.value

abbrev pub routine_height : Program → Owner → Calls → Routine → ℕ
routine_height g o k r = max (stmts_height g o k r.body) (answers_height g o k r.answers)

abbrev pub handler_height : Program → Owner → Calls → Option Handler → ℕ
handler_height g o k None = 0
handler_height g o k (Some h) = stmts_height g o k h.body

-- the stack of a process: its locals and what body and handler take
abbrev pub stack_of : Program → Owner → Calls → Process → ℕ
stack_of g o k p = frame_words p + max (stmts_height g o k p.body) (handler_height g o k p.handler)
