-- The segment trees of a program, from its text: each line as long as it can be.
use Rattle.std.specs.Prelude.{ℕ, zero, suc, ◌+◌, List, [], ◌∷◌, Option, Some, None, length}
use Rattle.syntax_tree.specs.Plain.{Param, Expr, literal, truth, variable, element, call, minus, negation, paren, row, Exprs, no_exprs, exprs, Operands, no_operands, operand, Ref, whole, part, Stmt, assign, assign_entry, assign_empty, perform, perform_entry, when, when_else, loop, exit_when, get, put, wait, signal, broadcast, except, assert, Stmts, no_stmts, stmts, Answers, Routine, Program}
use Rattle.source_semantics.specs.Names.{constant_value}
use Rattle.source_semantics.specs.Store.{range_of}
use Rattle.machine_semantics.specs.Trees.{Segs, Line, Fork, Rep, Call, Stay, Wait, Exit, Nil, Cons}
use Rattle.code_spec.specs.Layout.{Owner, by_program, by_process, by_monitor, Scope, spot_of}
use Rattle.code_spec.specs.Numbering.{Text, routine_in, entry_in, number_of}
use Rattle.code_spec.specs.Code.{range_code, range_of_spot, ref_name}
use Rattle.code_spec.specs.Emits.{turns_of}

-- so many plain instructions more before a tree
abbrev pub before : ℕ → Segs → Segs
before k Nil = Cons (Line k) Nil
before k (Cons (Line n) rest) = Cons (Line (k + n)) rest
before k rest = Cons (Line k) rest

abbrev pub line : ℕ → Segs → Segs
line zero after = after
line (suc k) after = before (suc k) after

-- a call with its arguments, before a tree
abbrev pub call_segs : Program → Option Text → (List Param → Segs → Segs) → Segs → Segs
call_segs g None args after = after
call_segs g (Some t) args after = args t.routine.params (Cons (Call (number_of g t)) after)

-- an expression, before a tree
abbrev mutual
  pub expr_segs : Program → Scope → Expr → Segs → Segs
  expr_segs g c (literal n) after = line 1 after
  expr_segs g c (truth b) after = line 1 after
  expr_segs g c (variable x) after = line 1 after
  expr_segs g c (element x e) after = expr_segs g c e (line 1 after)
  expr_segs g c (call f es) after = call_segs g (routine_in g c.owner f) (λ ps k. args_segs g c es ps k) after
  expr_segs g c (minus e) after = expr_segs g c e (line 1 after)
  expr_segs g c (negation e) after = expr_segs g c e (line 1 after)
  expr_segs g c (paren e) after = expr_segs g c e after
  expr_segs g c (row e r) after = expr_segs g c e (row_segs g c r after)

  pub row_segs : Program → Scope → Operands → Segs → Segs
  row_segs g c no_operands after = after
  row_segs g c (operand op e r) after = expr_segs g c e (line 1 (row_segs g c r after))

  pub args_segs : Program → Scope → Exprs → List Param → Segs → Segs
  args_segs g c no_exprs ps after = after
  args_segs g c (exprs e es) [] after = after
  args_segs g c (exprs e es) (p ∷ ps) after = expr_segs g c e (line (length (range_code (range_of g p.kind))) (args_segs g c es ps after))

abbrev pub index_segs : Program → Scope → Ref → Segs → Segs
index_segs g c (whole x) after = after
index_segs g c (part x e) after = expr_segs g c e after

-- the check of the range, if any, and the store
abbrev pub put_segs : Program → Scope → Ref → Segs → Segs
put_segs g c r after = line (length (range_code (range_of_spot (spot_of g c (ref_name r)))) + 1) after

-- a statement, before a tree
abbrev mutual
  pub stmt_segs : Program → Scope → Stmt → Segs → Segs
  stmt_segs g c (assign r e) after = index_segs g c r (expr_segs g c e (put_segs g c r after))
  stmt_segs g c (assign_entry r m e es) after = index_segs g c r (call_segs g (entry_in g m e) (λ ps k. args_segs g c es ps k) (put_segs g c r after))
  stmt_segs g c (assign_empty r x) after = index_segs g c r (line 2 after)
  stmt_segs g c (perform f es) after = call_segs g (routine_in g c.owner f) (λ ps k. args_segs g c es ps k) after
  stmt_segs g c (perform_entry m e es) after = call_segs g (entry_in g m e) (λ ps k. args_segs g c es ps k) after
  stmt_segs g c (when e a) after = expr_segs g c e (Cons (Fork (stmts_segs g c a Nil) Nil) after)
  stmt_segs g c (when_else e a b) after = expr_segs g c e (Cons (Fork (stmts_segs g c a Nil) (stmts_segs g c b Nil)) after)
  stmt_segs g c (loop x low high ss) after =
      line 2 (Cons (Rep (turns_of (constant_value g low) (constant_value g high)) (stmts_segs g c ss (line 4 Nil))) after)
  stmt_segs g c (exit_when e) after = expr_segs g c e (Cons Exit after)
  stmt_segs g c (get d r) after = index_segs g c r (line 1 (put_segs g c r after))
  stmt_segs g c (put d e) after = expr_segs g c e (line 1 after)
  stmt_segs g c (wait x limit number) after = Cons Wait after
  stmt_segs g c (signal x) after = line 1 after
  stmt_segs g c (broadcast x) after = line 1 after
  stmt_segs g c (except n) after = line 1 after
  stmt_segs g c (assert e) after = expr_segs g c e (Cons (Fork Nil (line 1 Nil)) after)

  pub stmts_segs : Program → Scope → Stmts → Segs → Segs
  stmts_segs g c no_stmts after = after
  stmts_segs g c (stmts s ss) after = stmt_segs g c s (stmts_segs g c ss after)

-- the result expression of a function, with the check of its range
abbrev pub answers_segs : Program → Scope → Option Answers → Segs
answers_segs g c None = Nil
answers_segs g c (Some a) = expr_segs g c a.value (line (length (range_code (range_of g a.kind))) Nil)

-- a routine, but for the return that ends it; an entry is a stay in its monitor
abbrev pub routine_segs : Program → Scope → Owner → Routine → Segs
routine_segs g c (by_monitor m) r = Cons (Stay m (stmts_segs g c r.body (answers_segs g c r.answers))) Nil
routine_segs g c by_program r = stmts_segs g c r.body (answers_segs g c r.answers)
routine_segs g c (by_process k) r = stmts_segs g c r.body (answers_segs g c r.answers)
