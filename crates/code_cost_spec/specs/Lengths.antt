-- How many instructions each form has.
use Rattle.std.specs.Prelude.{ℕ, ◌+◌, List, [], ◌∷◌, Option, Some, None}
use Rattle.syntax_tree.specs.Plain.{Param, Expr, literal, truth, variable, element, call, minus, negation, paren, row, Exprs, no_exprs, exprs, Operands, no_operands, operand, Ref, whole, part, Stmt, assign, assign_entry, assign_empty, perform, perform_entry, when, when_else, loop, exit_when, get, put, wait, signal, broadcast, except, assert, Stmts, no_stmts, stmts, Answers, Handler, Process, Program}
use Rattle.source_semantics.specs.Store.{Range, range_of}
use Rattle.code_spec.specs.Layout.{Owner, by_program, by_process, by_monitor}
use Rattle.code_spec.specs.Numbering.{Text, routine_in, entry_in}
use Rattle.code_spec.specs.Code.{ref_name}
use Rattle.code_cost_spec.specs.Names.{Names, inside, range_seen}

-- the check of a range, where there is one
abbrev pub check_length : Option Range → ℕ
check_length None = 0
check_length (Some r) = 1

abbrev pub call_length : Option Text → (List Param → ℕ) → ℕ
call_length None args = 0
call_length (Some t) args = args t.routine.params + 1

abbrev mutual
  pub expr_length : Program → Owner → Expr → ℕ
  expr_length g o (literal v) = 1
  expr_length g o (truth b) = 1
  expr_length g o (variable x) = 1
  expr_length g o (element x e) = expr_length g o e + 1
  expr_length g o (call f es) = call_length (routine_in g o f) (λ ps. args_length g o es ps)
  expr_length g o (minus e) = expr_length g o e + 1
  expr_length g o (negation e) = expr_length g o e + 1
  expr_length g o (paren e) = expr_length g o e
  expr_length g o (row e r) = expr_length g o e + row_length g o r

  pub row_length : Program → Owner → Operands → ℕ
  row_length g o no_operands = 0
  row_length g o (operand op e r) = expr_length g o e + (1 + row_length g o r)

  pub args_length : Program → Owner → Exprs → List Param → ℕ
  args_length g o no_exprs ps = 0
  args_length g o (exprs e es) [] = 0
  args_length g o (exprs e es) (p ∷ ps) = expr_length g o e + (check_length (range_of g p.kind) + args_length g o es ps)

abbrev pub index_length : Program → Owner → Ref → ℕ
index_length g o (whole x) = 0
index_length g o (part x e) = expr_length g o e

-- the check and the store of what is assigned
abbrev pub put_length : Names → Ref → ℕ
put_length n r = check_length (range_seen (n.view (ref_name r))) + 1

abbrev mutual
  pub stmt_length : Program → Names → Stmt → ℕ
  stmt_length g n (assign r e) = index_length g n.owner r + (expr_length g n.owner e + put_length n r)
  stmt_length g n (assign_entry r m e es) = index_length g n.owner r + (call_length (entry_in g m e) (λ ps. args_length g n.owner es ps) + put_length n r)
  stmt_length g n (assign_empty r x) = index_length g n.owner r + 2
  stmt_length g n (perform f es) = call_length (routine_in g n.owner f) (λ ps. args_length g n.owner es ps)
  stmt_length g n (perform_entry m e es) = call_length (entry_in g m e) (λ ps. args_length g n.owner es ps)
  stmt_length g n (when e a) = expr_length g n.owner e + (1 + stmts_length g n a + 1)
  stmt_length g n (when_else e a b) = expr_length g n.owner e + (1 + stmts_length g n a + 1 + stmts_length g n b)
  stmt_length g n (loop x low high ss) = 3 + stmts_length g (inside n x) ss + 5
  stmt_length g n (exit_when e) = expr_length g n.owner e + 1
  stmt_length g n (get d r) = index_length g n.owner r + (1 + put_length n r)
  stmt_length g n (put d e) = expr_length g n.owner e + 1
  stmt_length g n (wait x limit number) = 2
  stmt_length g n (signal x) = 1
  stmt_length g n (broadcast x) = 1
  stmt_length g n (except e) = 1
  stmt_length g n (assert e) = expr_length g n.owner e + 3

  pub stmts_length : Program → Names → Stmts → ℕ
  stmts_length g n no_stmts = 0
  stmts_length g n (stmts s ss) = stmt_length g n s + stmts_length g n ss

abbrev pub answers_length : Program → Names → Option Answers → ℕ
answers_length g n None = 0
answers_length g n (Some a) = expr_length g n.owner a.value + check_length (range_of g a.kind)

-- an entry is entered and left
abbrev pub monitor_length : Owner → ℕ
monitor_length by_program = 0
monitor_length (by_process k) = 0
monitor_length (by_monitor m) = 2

abbrev pub routine_length : Program → Names → Text → ℕ
routine_length g n t = stmts_length g n t.routine.body + answers_length g n t.routine.answers + monitor_length t.owner + 1

abbrev pub handler_length : Program → Names → Option Handler → ℕ
handler_length g n None = 0
handler_length g n (Some h) = stmts_length g n h.body + 1

abbrev pub process_length : Program → Names → Process → ℕ
process_length g n p = stmts_length g n p.body + 1 + handler_length g n p.handler
