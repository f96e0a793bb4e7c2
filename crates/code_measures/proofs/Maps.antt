-- What may be called by one account may be called by another.
use Rattle.std.specs.Prelude.{ℕ, List, [], ◌∷◌, Option, Some, None}
use Rattle.syntax_tree.specs.Plain.{Param, Expr, literal, truth, variable, element, call, minus, negation, paren, row, Exprs, no_exprs, exprs, Operands, no_operands, operand, Ref, whole, part, Stmt, assign, assign_entry, assign_empty, perform, perform_entry, when, when_else, loop, exit_when, get, put, wait, signal, broadcast, except, assert, Stmts, no_stmts, stmts, Answers, Handler, Process, Program}
use Rattle.code_spec.specs.Layout.{Scope}
use Rattle.code_spec.specs.Numbering.{Text}
use Rattle.code_spec.specs.Emits.{inner}
use Rattle.code_spec.specs.Compiled.{routine_scope, process_scope}
use Rattle.code_measures.specs.Sound.{SoundExpr, SoundRow, SoundArgs, SoundIndex, Sound, SoundAll, SoundAnswers, SoundRoutine, SoundHandler, SoundProcess}

module _ (g : Program) (may might : Text → Type 0) (so : (t : Text) → may t → might t) where
  mutual
    map_expr : (x : Expr) (c : Scope) → SoundExpr g may c x → SoundExpr g might c x
    map_expr (literal v) c ok = ok
    map_expr (truth b) c ok = ok
    map_expr (variable x) c ok = ok
    map_expr (element x e) c ok = (map_expr e c ok.0, ok.1)
    map_expr (call f es) c ok = (ok.0, ok.1, ok.2, so ok.0 ok.3, ok.4, map_args es ok.0.routine.params c ok.5)
    map_expr (minus e) c ok = map_expr e c ok
    map_expr (negation e) c ok = map_expr e c ok
    map_expr (paren e) c ok = map_expr e c ok
    map_expr (row e r) c ok = (map_expr e c ok.0, map_row r c ok.1)

    map_row : (x : Operands) (c : Scope) → SoundRow g may c x → SoundRow g might c x
    map_row no_operands c ok = ok
    map_row (operand op e r) c ok = (map_expr e c ok.0, map_row r c ok.1)

    map_args : (es : Exprs) (ps : List Param) (c : Scope) → SoundArgs g may c es ps → SoundArgs g might c es ps
    map_args no_exprs [] c ok = ok
    map_args no_exprs (p ∷ ps) c ok = absurd ok
    map_args (exprs e es) [] c ok = absurd ok
    map_args (exprs e es) (p ∷ ps) c ok = (map_expr e c ok.0, map_args es ps c ok.1)

  map_index : (x : Ref) (c : Scope) → SoundIndex g may c x → SoundIndex g might c x
  map_index (whole x) c ok = ok
  map_index (part x e) c ok = map_expr e c ok

  mutual
    map_stmt : (x : Stmt) (c : Scope) → Sound g may c x → Sound g might c x
    map_stmt (assign t e) c ok = (map_index t c ok.0, ok.1, map_expr e c ok.2)
    map_stmt (assign_entry t m en es) c ok = (map_index t c ok.0, ok.1, (ok.2.0, ok.2.1, ok.2.2, so ok.2.0 ok.2.3, ok.2.4, map_args es ok.2.0.routine.params c ok.2.5))
    map_stmt (assign_empty t x) c ok = (map_index t c ok.0, ok.1)
    map_stmt (perform f es) c ok = (ok.0, ok.1, so ok.0 ok.2, ok.3, map_args es ok.0.routine.params c ok.4)
    map_stmt (perform_entry m en es) c ok = (ok.0, ok.1, so ok.0 ok.2, ok.3, map_args es ok.0.routine.params c ok.4)
    map_stmt (when e x) c ok = (map_expr e c ok.0, map_all x c ok.1)
    map_stmt (when_else e x z) c ok = (map_expr e c ok.0, map_all x c ok.1, map_all z c ok.2)
    map_stmt (loop x low high ss) c ok = (ok.0, λ w q. map_all ss (inner c x w q) (ok.1 w q))
    map_stmt (exit_when e) c ok = map_expr e c ok
    map_stmt (get dev t) c ok = (map_index t c ok.0, ok.1)
    map_stmt (put dev e) c ok = map_expr e c ok
    map_stmt (wait x limit number) c ok = ok
    map_stmt (signal x) c ok = ok
    map_stmt (broadcast x) c ok = ok
    map_stmt (except e) c ok = ok
    map_stmt (assert e) c ok = map_expr e c ok

    map_all : (x : Stmts) (c : Scope) → SoundAll g may c x → SoundAll g might c x
    map_all no_stmts c ok = ok
    map_all (stmts s ss) c ok = (map_stmt s c ok.0, map_all ss c ok.1)

  map_answers : (o : Option Answers) (c : Scope) → SoundAnswers g may c o → SoundAnswers g might c o
  map_answers None c ok = ok
  map_answers (Some a) c ok = map_expr a.value c ok

  pub map_routine : (t : Text) → SoundRoutine g may t → SoundRoutine g might t
  map_routine t ok = (map_all t.routine.body (routine_scope g t) ok.0, map_answers t.routine.answers (routine_scope g t) ok.1)

  map_handler : (o : Option Handler) (c : Scope) → SoundHandler g may c o → SoundHandler g might c o
  map_handler None c ok = ok
  map_handler (Some h) c ok = map_all h.body c ok

  pub map_process : (j : ℕ) (p : Process) → SoundProcess g may j p → SoundProcess g might j p
  map_process j p ok = (map_all p.body (process_scope g j p) ok.0, map_handler p.handler (process_scope g j p) ok.1)
