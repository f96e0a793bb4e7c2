-- The trees of a program's code nest no deeper than its statements do.
use Rattle.std.proofs.Common.{ℕ, zero, suc, List, [], ◌∷◌, Option, Some, None, arith}
use Rattle.syntax_tree.specs.Plain.{Param, Expr, literal, truth, variable, element, call, minus, negation, paren, row, Exprs, no_exprs, exprs, Operands, no_operands, operand, Ref, whole, part, Stmt, assign, assign_entry, assign_empty, perform, perform_entry, when, when_else, loop, exit_when, get, put, wait, signal, broadcast, except, assert, Stmts, no_stmts, stmts, Answers, Routine, Program}
use Rattle.source_semantics.specs.Names.{constant_value}
use Rattle.source_semantics.specs.Store.{range_of}
use Rattle.std.specs.Prelude.{length}
use Rattle.machine_semantics.specs.Trees.{Segs, Line, Fork, Rep, Call, Stay, Wait, Exit, Nil, Cons}
use Rattle.code_spec.specs.Code.{range_code}
use Rattle.code_spec.specs.Emits.{turns_of}
use Rattle.code_spec.specs.Layout.{Owner, by_program, by_process, by_monitor, Scope}
use Rattle.code_spec.specs.Numbering.{Text, entry_in, number_of, routine_in}
use Rattle.code_spec.specs.Segments.{answers_segs, args_segs, call_segs, expr_segs, index_segs, line, put_segs, routine_segs, row_segs, stmt_segs, stmts_segs}
use Rattle.replay_law.proofs.Trees.{Within, within_more}

-- ---- statements inside statements, this many at most

abbrev mutual
  pub StmtNests : ℕ → Stmt → Type 0
  StmtNests n (assign r e) = Unit {0}
  StmtNests n (assign_entry r m e es) = Unit {0}
  StmtNests n (assign_empty r x) = Unit {0}
  StmtNests n (perform f es) = Unit {0}
  StmtNests n (perform_entry m e es) = Unit {0}
  StmtNests zero (when e a) = ⊥
  StmtNests (suc n) (when e a) = Nests n a
  StmtNests zero (when_else e a b) = ⊥
  StmtNests (suc n) (when_else e a b) = Nests n a × Nests n b
  StmtNests zero (loop x low high ss) = ⊥
  StmtNests (suc n) (loop x low high ss) = Nests n ss
  StmtNests n (exit_when e) = Unit {0}
  StmtNests n (get d r) = Unit {0}
  StmtNests n (put d e) = Unit {0}
  StmtNests n (wait x limit number) = Unit {0}
  StmtNests n (signal x) = Unit {0}
  StmtNests n (broadcast x) = Unit {0}
  StmtNests n (except k) = Unit {0}
  StmtNests n (assert e) = Unit {0}

  pub Nests : ℕ → Stmts → Type 0
  Nests n no_stmts = Unit {0}
  Nests n (stmts s ss) = StmtNests n s × Nests n ss

-- ---- lines

line_within : (n k : ℕ) (after : Segs) → Within n after → Within n (line k after)
line_within n zero after h = h
line_within n (suc k) Nil h = (tt, tt)
line_within n (suc k) (Cons (Line m) rest) h = h
line_within n (suc k) (Cons (Fork a b) rest) h = (tt, h)
line_within n (suc k) (Cons (Rep m a) rest) h = (tt, h)
line_within n (suc k) (Cons (Call r) rest) h = (tt, h)
line_within n (suc k) (Cons (Stay m a) rest) h = (tt, h)
line_within n (suc k) (Cons Wait rest) h = (tt, h)
line_within n (suc k) (Cons Exit rest) h = (tt, h)

module _ (g : Program) (c : Scope) where
  call_within : (n : ℕ) (o : Option Text) (args : List Param → Segs → Segs) (after : Segs) → ((ps : List Param) (k : Segs) → Within n k → Within n (args ps k)) → Within n after → Within n (call_segs g o args after)
  call_within n None args after each h = h
  call_within n (Some t) args after each h = each t.routine.params (Cons (Call (number_of g t)) after) (tt, h)

  mutual
    expr_within : (n : ℕ) (e : Expr) (after : Segs) → Within n after → Within n (expr_segs g c e after)
    expr_within n (literal k) after h = line_within n 1 after h
    expr_within n (truth b) after h = line_within n 1 after h
    expr_within n (variable x) after h = line_within n 1 after h
    expr_within n (element x e) after h = expr_within n e (line 1 after) (line_within n 1 after h)
    expr_within n (call f es) after h = call_within n (routine_in g c.owner f) (λ ps k. args_segs g c es ps k) after (λ ps k inner. args_within n es ps k inner) h
    expr_within n (minus e) after h = expr_within n e (line 1 after) (line_within n 1 after h)
    expr_within n (negation e) after h = expr_within n e (line 1 after) (line_within n 1 after h)
    expr_within n (paren e) after h = expr_within n e after h
    expr_within n (row e r) after h = expr_within n e (row_segs g c r after) (row_within n r after h)

    row_within : (n : ℕ) (r : Operands) (after : Segs) → Within n after → Within n (row_segs g c r after)
    row_within n no_operands after h = h
    row_within n (operand op e r) after h = expr_within n e (line 1 (row_segs g c r after)) (line_within n 1 (row_segs g c r after) (row_within n r after h))

    args_within : (n : ℕ) (es : Exprs) (ps : List Param) (after : Segs) → Within n after → Within n (args_segs g c es ps after)
    args_within n no_exprs ps after h = h
    args_within n (exprs e es) [] after h = h
    args_within n (exprs e es) (p ∷ ps) after h =
        let k = length (range_code (range_of g p.kind)) in
        expr_within n e (line k (args_segs g c es ps after)) (line_within n k (args_segs g c es ps after) (args_within n es ps after h))

  index_within : (n : ℕ) (r : Ref) (after : Segs) → Within n after → Within n (index_segs g c r after)
  index_within n (whole x) after h = h
  index_within n (part x e) after h = expr_within n e after h

  put_within : (n : ℕ) (r : Ref) (after : Segs) → Within n after → Within n (put_segs g c r after)
  put_within n r after h = line_within n _ after h

  entry_within : (n : ℕ) (m e : List ℕ) (es : Exprs) (after : Segs) → Within n after → Within n (call_segs g (entry_in g m e) (λ ps k. args_segs g c es ps k) after)
  entry_within n m e es after h = call_within n (entry_in g m e) (λ ps k. args_segs g c es ps k) after (λ ps k inner. args_within n es ps k inner) h

  -- ---- statements

  mutual
    stmt_within : (n : ℕ) (s : Stmt) (after : Segs) → StmtNests n s → Within (suc n) after → Within (suc n) (stmt_segs g c s after)
    stmt_within n (assign r e) after nests h = index_within (suc n) r _ (expr_within (suc n) e (put_segs g c r after) (put_within (suc n) r after h))
    stmt_within n (assign_entry r m e es) after nests h = index_within (suc n) r _ (entry_within (suc n) m e es (put_segs g c r after) (put_within (suc n) r after h))
    stmt_within n (assign_empty r x) after nests h = index_within (suc n) r _ (line_within (suc n) 2 after h)
    stmt_within n (perform f es) after nests h = call_within (suc n) (routine_in g c.owner f) (λ ps k. args_segs g c es ps k) after (λ ps k inner. args_within (suc n) es ps k inner) h
    stmt_within n (perform_entry m e es) after nests h = entry_within (suc n) m e es after h
    stmt_within zero (when e a) after nests h = absurd nests
    stmt_within (suc n) (when e a) after nests h =
        let rest : Within (suc (suc n)) (Cons (Fork (stmts_segs g c a Nil) Nil) after) = ((stmts_within n a Nil nests tt, tt), h) in
        expr_within (suc (suc n)) e (Cons (Fork (stmts_segs g c a Nil) Nil) after) rest
    stmt_within zero (when_else e a b) after nests h = absurd nests
    stmt_within (suc n) (when_else e a b) after nests h =
        let rest : Within (suc (suc n)) (Cons (Fork (stmts_segs g c a Nil) (stmts_segs g c b Nil)) after) = ((stmts_within n a Nil nests.0 tt, stmts_within n b Nil nests.1 tt), h) in
        expr_within (suc (suc n)) e (Cons (Fork (stmts_segs g c a Nil) (stmts_segs g c b Nil)) after) rest
    stmt_within zero (loop x low high ss) after nests h = absurd nests
    stmt_within (suc n) (loop x low high ss) after nests h =
        let turns = turns_of (constant_value g low) (constant_value g high) in
        let rest : Within (suc (suc n)) (Cons (Rep turns (stmts_segs g c ss (line 4 Nil))) after) = (stmts_within n ss (line 4 Nil) nests (line_within (suc n) 4 Nil tt), h) in
        line_within (suc (suc n)) 2 (Cons (Rep turns (stmts_segs g c ss (line 4 Nil))) after) rest
    stmt_within n (exit_when e) after nests h = expr_within (suc n) e (Cons Exit after) (tt, h)
    stmt_within n (get d r) after nests h = index_within (suc n) r _ (line_within (suc n) 1 _ (put_within (suc n) r after h))
    stmt_within n (put d e) after nests h = expr_within (suc n) e _ (line_within (suc n) 1 after h)
    stmt_within n (wait x limit number) after nests h = (tt, h)
    stmt_within n (signal x) after nests h = line_within (suc n) 1 after h
    stmt_within n (broadcast x) after nests h = line_within (suc n) 1 after h
    stmt_within n (except k) after nests h = line_within (suc n) 1 after h
    stmt_within n (assert e) after nests h =
        let rest : Within (suc n) (Cons (Fork Nil (line 1 Nil)) after) = ((tt, line_within n 1 Nil tt), h) in
        expr_within (suc n) e (Cons (Fork Nil (line 1 Nil)) after) rest

    pub stmts_within : (n : ℕ) (ss : Stmts) (after : Segs) → Nests n ss → Within (suc n) after → Within (suc n) (stmts_segs g c ss after)
    stmts_within n no_stmts after nests h = h
    stmts_within n (stmts s ss) after nests h = stmt_within n s (stmts_segs g c ss after) nests.0 (stmts_within n ss after nests.1 h)

  answers_within : (n : ℕ) (o : Option Answers) → Within n (answers_segs g c o)
  answers_within n None = tt
  answers_within n (Some a) = expr_within n a.value _ (line_within n _ Nil tt)

  -- a routine, and an entry with the stay in its monitor
  pub routine_within : (n : ℕ) (o : Owner) (r : Routine) → Nests n r.body → Within (suc (suc n)) (routine_segs g c o r)
  routine_within n (by_monitor m) r nests = (stmts_within n r.body (answers_segs g c r.answers) nests (answers_within (suc n) r.answers), tt)
  routine_within n by_program r nests = within_more (suc n) (suc (suc n)) (stmts_segs g c r.body (answers_segs g c r.answers)) (omega arith) (stmts_within n r.body (answers_segs g c r.answers) nests (answers_within (suc n) r.answers))
  routine_within n (by_process k) r nests = within_more (suc n) (suc (suc n)) (stmts_segs g c r.body (answers_segs g c r.answers)) (omega arith) (stmts_within n r.body (answers_segs g c r.answers) nests (answers_within (suc n) r.answers))
