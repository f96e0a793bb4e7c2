-- Where calls cost the same once capped, so does what calls; and where they take the same heights, so does it.
use Rattle.std.specs.Prelude.{◌≡◌, ◌+◌, ℕ, List, [], ◌∷◌, Option, Some, None, max}
use Rattle.std.proofs.Common.{refl, sym, ap, subst, ◌∙◌}
use Rattle.syntax_tree.specs.Plain.{Param, Expr, literal, truth, variable, element, call, minus, negation, paren, row, Exprs, no_exprs, exprs, Operands, no_operands, operand, Ref, whole, part, Stmt, assign, assign_entry, assign_empty, perform, perform_entry, when, when_else, loop, exit_when, get, put, wait, signal, broadcast, except, assert, Stmts, no_stmts, stmts, Answers, Handler, Process, Program}
use Rattle.base.specs.declared.capped.Cost.{Cost}
use Rattle.code_spec.specs.Layout.{Scope, routine_words}
use Rattle.code_spec.specs.Numbering.{Text, routine_in, entry_in}
use Rattle.code_spec.specs.Emits.{inner}
use Rattle.code_spec.specs.Compiled.{routine_scope, process_scope}
use Rattle.code_cost_spec.specs.Names.{Names, Calls, inside}
use Rattle.code_cost_spec.specs.Costs.{call_cost, expr_cost, row_cost, args_cost, index_cost, stmt_cost, stmts_cost, answers_cost, inner_cost, routine_cost, monitor_ticks, handler_cost, process_cost}
use Rattle.code_cost_spec.specs.Heights.{call_height, expr_height, row_height, args_height, index_height, index_words, target_height, stmt_height, stmts_height, answers_height, routine_height, handler_height}
use Rattle.code_cost_spec.specs.Levels.{routine_names, process_names}
use Rattle.code_measures.specs.Sound.{SoundExpr, SoundRow, SoundArgs, SoundIndex, Sound, SoundAll, SoundAnswers, SoundRoutine, SoundHandler, SoundProcess}
use Rattle.code_measures.specs.Like.{Like}
use Rattle.code_measures.proofs.Capped.{like_same, like_plus, like_longer, like_greater, like_loop}

-- of one cost once capped, and of one height
pub record Same (c d : Cost) (h j : ℕ) : Type 0 where
  pub cost : Like c d
  pub height : h ≡ j

-- calls of routines that are known cost the same
abbrev pub CallsSame : (Text → Type 0) → (k1 k2 : Calls) → Type 0
CallsSame may k1 k2 = (t : Text) → may t → Same (k1.cost t) (k2.cost t) (k1.height t) (k2.height t)

same : (c : Cost) (h : ℕ) → Same c c h h
same c h = record { cost = like_same c; height = refl }

module _ (g : Program) (may : Text → Type 0) (k1 k2 : Calls) (calls : CallsSame may k1 k2) where
  call_same : (n : Names) (o : Option Text) (t : Text) (args1 args2 : List Param → Cost) (h1 h2 : ℕ) → o ≡ Some t → may t → Same (args1 t.routine.params) (args2 t.routine.params) h1 h2
      → Same (call_cost k1 o args1) (call_cost k2 o args2) (call_height g k1 o h1) (call_height g k2 o h2)
  call_same n o t args1 args2 h1 h2 is knows s =
      subst (λ y. Same (call_cost k1 y args1) (call_cost k2 y args2) (call_height g k1 y h1) (call_height g k2 y h2)) (sym is) (record {
        cost = like_plus _ _ _ _ s.cost (like_longer 6 (k1.cost t) (k2.cost t) (calls t knows).cost);
        height = ap (λ y. max y (2 + routine_words g t.routine + k1.height t)) s.height ∙ ap (λ y. max h2 (2 + routine_words g t.routine + y)) (calls t knows).height;
      })

  mutual
    expr_same : (x : Expr) (c : Scope) (n : Names) → c.owner ≡ n.owner → SoundExpr g may c x → Same (expr_cost g n k1 x) (expr_cost g n k2 x) (expr_height g n.owner k1 x) (expr_height g n.owner k2 x)
    expr_same (literal v) c n own ok = same _ _
    expr_same (truth b) c n own ok = same _ _
    expr_same (variable x) c n own ok = same _ _
    expr_same (element x e) c n own ok = let s = expr_same e c n own ok.0 in record { cost = like_plus _ _ _ _ s.cost (like_same _); height = s.height }
    expr_same (call f es) c n own ok = call_same n (routine_in g n.owner f) ok.0 _ _ _ _ (subst (λ o. routine_in g o f ≡ Some ok.0) own ok.2) ok.3 (args_same es ok.0.routine.params c n own ok.5)
    expr_same (minus e) c n own ok = let s = expr_same e c n own ok in record { cost = like_plus _ _ _ _ s.cost (like_same _); height = s.height }
    expr_same (negation e) c n own ok = let s = expr_same e c n own ok in record { cost = like_plus _ _ _ _ s.cost (like_same _); height = s.height }
    expr_same (paren e) c n own ok = expr_same e c n own ok
    expr_same (row e r) c n own ok =
        let s = expr_same e c n own ok.0 in let u = row_same r c n own ok.1 in
        record { cost = like_plus _ _ _ _ s.cost u.cost; height = ap (λ y. max y (row_height g n.owner k1 r)) s.height ∙ ap (λ y. max (expr_height g n.owner k2 e) y) u.height }

    row_same : (x : Operands) (c : Scope) (n : Names) → c.owner ≡ n.owner → SoundRow g may c x → Same (row_cost g n k1 x) (row_cost g n k2 x) (row_height g n.owner k1 x) (row_height g n.owner k2 x)
    row_same no_operands c n own ok = same _ _
    row_same (operand op e r) c n own ok =
        let s = expr_same e c n own ok.0 in let u = row_same r c n own ok.1 in
        record { cost = like_plus _ _ _ _ s.cost (like_plus _ _ _ _ (like_same _) u.cost); height = ap (λ y. max (1 + y) (row_height g n.owner k1 r)) s.height ∙ ap (λ y. max (1 + expr_height g n.owner k2 e) y) u.height }

    args_same : (es : Exprs) (ps : List Param) (c : Scope) (n : Names) → c.owner ≡ n.owner → SoundArgs g may c es ps → Same (args_cost g n k1 es ps) (args_cost g n k2 es ps) (args_height g n.owner k1 es) (args_height g n.owner k2 es)
    args_same no_exprs ps c n own ok = same _ _
    args_same (exprs e es) [] c n own ok = absurd ok
    args_same (exprs e es) (p ∷ ps) c n own ok =
        let s = expr_same e c n own ok.0 in let u = args_same es ps c n own ok.1 in
        record { cost = like_plus _ _ _ _ s.cost (like_plus _ _ _ _ (like_same _) u.cost); height = ap (λ y. max y (1 + args_height g n.owner k1 es)) s.height ∙ ap (λ y. max (expr_height g n.owner k2 e) (1 + y)) u.height }

  index_same : (x : Ref) (c : Scope) (n : Names) → c.owner ≡ n.owner → SoundIndex g may c x → Same (index_cost g n k1 x) (index_cost g n k2 x) (index_height g n.owner k1 x) (index_height g n.owner k2 x)
  index_same (whole x) c n own ok = same _ _
  index_same (part x e) c n own ok = expr_same e c n own ok

  target_same : (x : Ref) (n : Names) (h1 h2 v1 v2 : ℕ) → index_height g n.owner k1 x ≡ index_height g n.owner k2 x → v1 ≡ v2 → target_height g n.owner k1 x v1 ≡ target_height g n.owner k2 x v2
  target_same x n h1 h2 v1 v2 e f = ap (λ y. max y (index_words x + v1)) e ∙ ap (λ y. max (index_height g n.owner k2 x) (index_words x + y)) f

  mutual
    stmt_same : (x : Stmt) (c : Scope) (n : Names) → c.owner ≡ n.owner → Sound g may c x → Same (stmt_cost g n k1 x) (stmt_cost g n k2 x) (stmt_height g n.owner k1 x) (stmt_height g n.owner k2 x)
    stmt_same (assign t e) c n own ok =
        let j = index_same t c n own ok.0 in let s = expr_same e c n own ok.2 in
        record { cost = like_plus _ _ _ _ j.cost (like_plus _ _ _ _ s.cost (like_same _)); height = target_same t n 0 0 _ _ j.height s.height }
    stmt_same (assign_entry t m en es) c n own ok =
        let j = index_same t c n own ok.0 in let s = call_same n (entry_in g m en) ok.2.0 _ _ _ _ ok.2.2 ok.2.3 (args_same es ok.2.0.routine.params c n own ok.2.5) in
        record { cost = like_plus _ _ _ _ j.cost (like_plus _ _ _ _ s.cost (like_same _)); height = target_same t n 0 0 _ _ j.height s.height }
    stmt_same (assign_empty t x) c n own ok =
        let j = index_same t c n own ok.0 in record { cost = like_plus _ _ _ _ j.cost (like_same _); height = target_same t n 0 0 1 1 j.height refl }
    stmt_same (perform f es) c n own ok = call_same n (routine_in g n.owner f) ok.0 _ _ _ _ (subst (λ o. routine_in g o f ≡ Some ok.0) own ok.1) ok.2 (args_same es ok.0.routine.params c n own ok.4)
    stmt_same (perform_entry m en es) c n own ok = call_same n (entry_in g m en) ok.0 _ _ _ _ ok.1 ok.2 (args_same es ok.0.routine.params c n own ok.4)
    stmt_same (when e x) c n own ok =
        let s = expr_same e c n own ok.0 in let u = stmts_same x c n own ok.1 in
        record { cost = like_plus _ _ _ _ s.cost (like_longer 2 _ _ (like_greater _ _ _ _ (like_longer 1 _ _ u.cost) (like_same _))); height = ap (λ y. max y (stmts_height g n.owner k1 x)) s.height ∙ ap (λ y. max (expr_height g n.owner k2 e) y) u.height }
    stmt_same (when_else e x z) c n own ok =
        let s = expr_same e c n own ok.0 in let u = stmts_same x c n own ok.1 in let v = stmts_same z c n own ok.2 in
        record {
          cost = like_plus _ _ _ _ s.cost (like_longer 2 _ _ (like_greater _ _ _ _ (like_longer 1 _ _ u.cost) v.cost));
          height = ap (λ y. max y (max (stmts_height g n.owner k1 x) (stmts_height g n.owner k1 z))) s.height
              ∙ (ap (λ y. max (expr_height g n.owner k2 e) (max y (stmts_height g n.owner k1 z))) u.height ∙ ap (λ y. max (expr_height g n.owner k2 e) (max (stmts_height g n.owner k2 x) y)) v.height);
        }
    stmt_same (loop x low high ss) c n own ok =
        let u = stmts_same ss (inner c x 0 0) (inside n x) own (ok.1 0 0) in
        record { cost = like_loop _ _ _ u.cost; height = ap (λ y. 1 + max y 2) u.height }
    stmt_same (exit_when e) c n own ok = let s = expr_same e c n own ok in record { cost = like_plus _ _ _ _ s.cost (like_same _); height = s.height }
    stmt_same (get dev t) c n own ok =
        let j = index_same t c n own ok.0 in record { cost = like_plus _ _ _ _ j.cost (like_same _); height = target_same t n 0 0 1 1 j.height refl }
    stmt_same (put dev e) c n own ok = let s = expr_same e c n own ok in record { cost = like_plus _ _ _ _ s.cost (like_same _); height = s.height }
    stmt_same (wait x limit number) c n own ok = same _ _
    stmt_same (signal x) c n own ok = same _ _
    stmt_same (broadcast x) c n own ok = same _ _
    stmt_same (except e) c n own ok = same _ _
    stmt_same (assert e) c n own ok = let s = expr_same e c n own ok in record { cost = like_longer 6 _ _ s.cost; height = s.height }

    stmts_same : (x : Stmts) (c : Scope) (n : Names) → c.owner ≡ n.owner → SoundAll g may c x → Same (stmts_cost g n k1 x) (stmts_cost g n k2 x) (stmts_height g n.owner k1 x) (stmts_height g n.owner k2 x)
    stmts_same no_stmts c n own ok = same _ _
    stmts_same (stmts s ss) c n own ok =
        let u = stmt_same s c n own ok.0 in let v = stmts_same ss c n own ok.1 in
        record { cost = like_plus _ _ _ _ u.cost v.cost; height = ap (λ y. max y (stmts_height g n.owner k1 ss)) u.height ∙ ap (λ y. max (stmt_height g n.owner k2 s) y) v.height }

  answers_same : (o : Option Answers) (c : Scope) (n : Names) → c.owner ≡ n.owner → SoundAnswers g may c o → Same (answers_cost g n k1 o) (answers_cost g n k2 o) (answers_height g n.owner k1 o) (answers_height g n.owner k2 o)
  answers_same None c n own ok = same _ _
  answers_same (Some a) c n own ok = let s = expr_same a.value c n own ok in record { cost = like_plus _ _ _ _ s.cost (like_same _); height = s.height }

  pub inner_same : (t : Text) → SoundRoutine g may t
      → Same (inner_cost g (routine_names g t) k1 t.routine) (inner_cost g (routine_names g t) k2 t.routine) (routine_height g t.owner k1 t.routine) (routine_height g t.owner k2 t.routine)
  inner_same t ok =
      let u = stmts_same t.routine.body (routine_scope g t) (routine_names g t) refl ok.0 in let v = answers_same t.routine.answers (routine_scope g t) (routine_names g t) refl ok.1 in
      record { cost = like_plus _ _ _ _ u.cost v.cost; height = ap (λ y. max y (answers_height g t.owner k1 t.routine.answers)) u.height ∙ ap (λ y. max (stmts_height g t.owner k2 t.routine.body) y) v.height }

  pub routine_same : (t : Text) → SoundRoutine g may t
      → Same (routine_cost g (routine_names g t) k1 t) (routine_cost g (routine_names g t) k2 t) (routine_height g t.owner k1 t.routine) (routine_height g t.owner k2 t.routine)
  routine_same t ok = let u = inner_same t ok in record { cost = like_longer (4 + monitor_ticks t.owner) _ _ u.cost; height = u.height }

  handler_same : (o : Option Handler) (c : Scope) (n : Names) → c.owner ≡ n.owner → SoundHandler g may c o → Same (handler_cost g n k1 o) (handler_cost g n k2 o) (handler_height g n.owner k1 o) (handler_height g n.owner k2 o)
  handler_same None c n own ok = same _ _
  handler_same (Some h) c n own ok = stmts_same h.body c n own ok

  pub process_same : (j : ℕ) (p : Process) → SoundProcess g may j p
      → Same (process_cost g (process_names g j p) k1 p) (process_cost g (process_names g j p) k2 p)
      (max (stmts_height g (process_names g j p).owner k1 p.body) (handler_height g (process_names g j p).owner k1 p.handler)) (max (stmts_height g (process_names g j p).owner k2 p.body) (handler_height g (process_names g j p).owner k2 p.handler))
  process_same j p ok =
      let u = stmts_same p.body (process_scope g j p) (process_names g j p) refl ok.0 in let v = handler_same p.handler (process_scope g j p) (process_names g j p) refl ok.1 in
      record { cost = like_longer 4 _ _ (like_plus _ _ _ _ u.cost v.cost); height = ap (λ y. max y (handler_height g (process_names g j p).owner k1 p.handler)) u.height ∙ ap (λ y. max (stmts_height g (process_names g j p).owner k2 p.body) y) v.height }
