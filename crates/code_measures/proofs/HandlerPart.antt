-- Handlers stand where they should, and reach no WAIT.
use Rattle.std.specs.Prelude.{◌≡◌, ◌<◌, ◌+◌, ◌&&◌, ◌||◌, not, ℕ, zero, suc, Bool, true, false, List, [], ◌∷◌, length, Option, Some, None, take, slice_get}
use Rattle.std.proofs.Common.{refl, sym, ap, subst, ◌∙◌, arith}
use Rattle.std.proofs.lemmas.Bool.{eq-eqb}
use Rattle.base.proofs.Lists.{take_get}
use Rattle.syntax_tree.specs.Plain.{Param, Expr, literal, truth, variable, element, call, minus, negation, paren, row, Exprs, no_exprs, exprs, Operands, no_operands, operand, Ref, whole, part, Stmt, assign, assign_entry, assign_empty, perform, perform_entry, when, when_else, loop, exit_when, get, put, wait, signal, broadcast, except, assert, Stmts, no_stmts, stmts, Answers, Handler, Process, Program}
use Rattle.source_semantics.specs.Names.{constant_value}
use Rattle.source_semantics.specs.Store.{range_of}
use Rattle.machine_semantics.specs.Image as image
use Rattle.machine_semantics.specs.Trees.{Segs, Line, Fork, Rep, Call, Stay, Wait, Exit, Nil, Cons, size}
use Rattle.valid_image.specs.Fault.{unless}
use Rattle.valid_image.specs.Tables.{Reach, reach, reach_of, waits_of, waits_at, tree_waits, handler_start}
use Rattle.valid_image.specs.Shape.{is_handler, handler_fault}
use Rattle.code_spec.specs.Layout.{Owner, by_program, by_process, by_monitor, Scope}
use Rattle.code_spec.specs.Numbering.{Text, routine_in, entry_in, numbered, number_of}
use Rattle.code_spec.specs.Code.{range_code}
use Rattle.code_spec.specs.Emits.{inner, turns_of}
use Rattle.code_spec.specs.Segments.{before, line, call_segs, expr_segs, row_segs, args_segs, index_segs, put_segs, stmt_segs, stmts_segs, answers_segs, routine_segs}
use Rattle.code_spec.specs.Compiled.{routine_scope, process_scope, EmitsHandler, IsCodeOf}
use Rattle.code_measures.specs.Sound.{SoundExpr, SoundRow, SoundArgs, SoundIndex, Sound, SoundAll, SoundAnswers, SoundRoutine}
use Rattle.code_measures.proofs.Sizes.{alike, stmts_size}
use Rattle.code_measures.specs.Declared.{IsBelow, IsSound, Declares}
use Rattle.code_measures.specs.Quiet.{NoWait, NoWaits, IsQuietBelow, QuietHandler, AreQuiet}
use Rattle.code_measures.proofs.Firsts.{row_is}
use Rattle.code_measures.proofs.Rows.{stands}
use Rattle.code_measures.proofs.Bodies.{BodyIs, body}
use Rattle.code_measures.proofs.CostPart.{none_all}

module _ (g : Program) (rows : List Reach) (may : Text → Type 0) (silent : (t : Text) → may t → waits_at rows (number_of g t) ≡ false) where
  before_quiet : (k : ℕ) (after : Segs) → tree_waits rows (before k after) ≡ tree_waits rows after
  before_quiet k Nil = refl
  before_quiet k (Cons (Line n) rest) = refl
  before_quiet k (Cons (Fork a b) rest) = refl
  before_quiet k (Cons (Rep n a) rest) = refl
  before_quiet k (Cons (Call r) rest) = refl
  before_quiet k (Cons (Stay m a) rest) = refl
  before_quiet k (Cons Wait rest) = refl
  before_quiet k (Cons Exit rest) = refl

  line_quiet : (k : ℕ) (after : Segs) → tree_waits rows (line k after) ≡ tree_waits rows after
  line_quiet zero after = refl
  line_quiet (suc k) after = before_quiet (suc k) after

  call_quiet : (o : Option Text) (t : Text) (args : List Param → Segs → Segs) (after : Segs) → o ≡ Some t → may t → ((k : Segs) → tree_waits rows (args t.routine.params k) ≡ tree_waits rows k)
      → tree_waits rows (call_segs g o args after) ≡ tree_waits rows after
  call_quiet o t args after is low same =
      subst (λ y. tree_waits rows (call_segs g y args after) ≡ tree_waits rows after) (sym is) (same (Cons (Call (number_of g t)) after) ∙ ap (λ b. b || tree_waits rows after) (silent t low))

  mutual
    expr_quiet : (x : Expr) (c d : Scope) (after : Segs) → c.owner ≡ d.owner → SoundExpr g may c x → tree_waits rows (expr_segs g d x after) ≡ tree_waits rows after
    expr_quiet (literal v) c d after own ok = line_quiet 1 after
    expr_quiet (truth b) c d after own ok = line_quiet 1 after
    expr_quiet (variable x) c d after own ok = line_quiet 1 after
    expr_quiet (element x e) c d after own ok = expr_quiet e c d (line 1 after) own ok.0 ∙ line_quiet 1 after
    expr_quiet (call f es) c d after own ok =
        call_quiet (routine_in g d.owner f) ok.0 (λ ps k. args_segs g d es ps k) after (subst (λ o. routine_in g o f ≡ Some ok.0) own ok.2) ok.3 (λ k. args_quiet es ok.0.routine.params c d k own ok.5)
    expr_quiet (minus e) c d after own ok = expr_quiet e c d (line 1 after) own ok ∙ line_quiet 1 after
    expr_quiet (negation e) c d after own ok = expr_quiet e c d (line 1 after) own ok ∙ line_quiet 1 after
    expr_quiet (paren e) c d after own ok = expr_quiet e c d after own ok
    expr_quiet (row e r) c d after own ok = expr_quiet e c d (row_segs g d r after) own ok.0 ∙ row_quiet r c d after own ok.1

    row_quiet : (x : Operands) (c d : Scope) (after : Segs) → c.owner ≡ d.owner → SoundRow g may c x → tree_waits rows (row_segs g d x after) ≡ tree_waits rows after
    row_quiet no_operands c d after own ok = refl
    row_quiet (operand op e r) c d after own ok = expr_quiet e c d (line 1 (row_segs g d r after)) own ok.0 ∙ (line_quiet 1 (row_segs g d r after) ∙ row_quiet r c d after own ok.1)

    args_quiet : (es : Exprs) (ps : List Param) (c d : Scope) (after : Segs) → c.owner ≡ d.owner → SoundArgs g may c es ps → tree_waits rows (args_segs g d es ps after) ≡ tree_waits rows after
    args_quiet no_exprs ps c d after own ok = refl
    args_quiet (exprs e es) [] c d after own ok = refl
    args_quiet (exprs e es) (p ∷ ps) c d after own ok =
        expr_quiet e c d (line (length (range_code (range_of g p.kind))) (args_segs g d es ps after)) own ok.0 ∙ (line_quiet (length (range_code (range_of g p.kind))) (args_segs g d es ps after) ∙ args_quiet es ps c d after own ok.1)

  index_quiet : (x : Ref) (c d : Scope) (after : Segs) → c.owner ≡ d.owner → SoundIndex g may c x → tree_waits rows (index_segs g d x after) ≡ tree_waits rows after
  index_quiet (whole x) c d after own ok = refl
  index_quiet (part x e) c d after own ok = expr_quiet e c d after own ok

  put_quiet : (x : Ref) (d : Scope) (after : Segs) → tree_waits rows (put_segs g d x after) ≡ tree_waits rows after
  put_quiet x d after = line_quiet _ after

  mutual
    stmt_quiet : (x : Stmt) (c d : Scope) (after : Segs) → c.owner ≡ d.owner → Sound g may c x → NoWait x → tree_waits rows (stmt_segs g d x after) ≡ tree_waits rows after
    stmt_quiet (assign t e) c d after own ok free = index_quiet t c d _ own ok.0 ∙ (expr_quiet e c d _ own ok.2 ∙ put_quiet t d after)
    stmt_quiet (assign_entry t m en es) c d after own ok free =
        index_quiet t c d _ own ok.0 ∙ (call_quiet (entry_in g m en) ok.2.0 (λ ps k. args_segs g d es ps k) _ ok.2.2 ok.2.3 (λ k. args_quiet es ok.2.0.routine.params c d k own ok.2.5) ∙ put_quiet t d after)
    stmt_quiet (assign_empty t x) c d after own ok free = index_quiet t c d _ own ok.0 ∙ line_quiet 2 after
    stmt_quiet (perform f es) c d after own ok free =
        call_quiet (routine_in g d.owner f) ok.0 (λ ps k. args_segs g d es ps k) after (subst (λ o. routine_in g o f ≡ Some ok.0) own ok.1) ok.2 (λ k. args_quiet es ok.0.routine.params c d k own ok.4)
    stmt_quiet (perform_entry m en es) c d after own ok free = call_quiet (entry_in g m en) ok.0 (λ ps k. args_segs g d es ps k) after ok.1 ok.2 (λ k. args_quiet es ok.0.routine.params c d k own ok.4)
    stmt_quiet (when e x) c d after own ok free =
        expr_quiet e c d (Cons (Fork (stmts_segs g d x Nil) Nil) after) own ok.0 ∙ ap (λ b. b || false || tree_waits rows after) (stmts_quiet x c d Nil own ok.1 free)
    stmt_quiet (when_else e x y) c d after own ok free =
        expr_quiet e c d (Cons (Fork (stmts_segs g d x Nil) (stmts_segs g d y Nil)) after) own ok.0
        ∙ (ap (λ b. b || tree_waits rows (stmts_segs g d y Nil) || tree_waits rows after) (stmts_quiet x c d Nil own ok.1 free.0) ∙ ap (λ b. b || tree_waits rows after) (stmts_quiet y c d Nil own ok.2 free.1))
    stmt_quiet (loop x low high ss) c d after own ok free =
        line_quiet 2 (Cons (Rep (turns_of (constant_value g low) (constant_value g high)) (stmts_segs g d ss (line 4 Nil))) after)
        ∙ ap (λ b. b || tree_waits rows after) (stmts_quiet ss (inner c x 0 0) d (line 4 Nil) own (ok.1 0 0) free ∙ line_quiet 4 Nil)
    stmt_quiet (exit_when e) c d after own ok free = expr_quiet e c d (Cons Exit after) own ok
    stmt_quiet (get dev t) c d after own ok free = index_quiet t c d _ own ok.0 ∙ (line_quiet 1 (put_segs g d t after) ∙ put_quiet t d after)
    stmt_quiet (put dev e) c d after own ok free = expr_quiet e c d (line 1 after) own ok ∙ line_quiet 1 after
    stmt_quiet (wait x limit number) c d after own ok free = absurd free
    stmt_quiet (signal x) c d after own ok free = line_quiet 1 after
    stmt_quiet (broadcast x) c d after own ok free = line_quiet 1 after
    stmt_quiet (except n) c d after own ok free = line_quiet 1 after
    stmt_quiet (assert e) c d after own ok free = expr_quiet e c d (Cons (Fork Nil (line 1 Nil)) after) own ok

    stmts_quiet : (x : Stmts) (c d : Scope) (after : Segs) → c.owner ≡ d.owner → SoundAll g may c x → NoWaits x → tree_waits rows (stmts_segs g d x after) ≡ tree_waits rows after
    stmts_quiet no_stmts c d after own ok free = refl
    stmts_quiet (stmts s ss) c d after own ok free = stmt_quiet s c d (stmts_segs g d ss after) own ok.0 free.0 ∙ stmts_quiet ss c d after own ok.1 free.1

  answers_quiet : (o : Option Answers) (c : Scope) → SoundAnswers g may c o → tree_waits rows (answers_segs g c o) ≡ false
  answers_quiet None c ok = refl
  answers_quiet (Some a) c ok = expr_quiet a.value c c _ refl ok ∙ line_quiet _ Nil

  routine_quiet : (t : Text) (w : Owner) → SoundRoutine g may t → NoWaits t.routine.body → tree_waits rows (routine_segs g (routine_scope g t) w t.routine) ≡ false
  routine_quiet t by_program ok free = stmts_quiet t.routine.body (routine_scope g t) (routine_scope g t) _ refl ok.0 free ∙ answers_quiet t.routine.answers (routine_scope g t) ok.1
  routine_quiet t (by_process k) ok free = stmts_quiet t.routine.body (routine_scope g t) (routine_scope g t) _ refl ok.0 free ∙ answers_quiet t.routine.answers (routine_scope g t) ok.1
  routine_quiet t (by_monitor m) ok free = ap (λ b. b || false) (stmts_quiet t.routine.body (routine_scope g t) (routine_scope g t) _ refl ok.0 free ∙ answers_quiet t.routine.answers (routine_scope g t) ok.1)

module _ (g : Program) (m : image.Image) (is : IsCodeOf g m) (sound : IsSound g) (declares : Declares g m) (quiet : Text → Bool) (are : AreQuiet g quiet) where
  quiet_below : (n r : ℕ) (t : Text) → r < n → slice_get (numbered g) r ≡ Some t → quiet t ≡ true → waits_at (reach m) r ≡ false
  quiet_below zero r t lt at q = absurd (omega (arith, lt))
  quiet_below (suc n) r t lt at q =
      let s = stands g m is r t at in
      let a = are.routines r t at q in
      ap (λ o. waits_of o) (row_is (reach_of m) m.routines r s.x s.there)
      ∙ (ap (λ z. tree_waits (take r (reach m)) z) s.is_r.tree
      ∙ routine_quiet g (take r (reach m)) (λ y. IsQuietBelow quiet g r y)
      (λ u low. ap (λ o. waits_of o) (take_get r (number_of g u) (reach m) low.below.low) ∙ quiet_below n (number_of g u) u (omega (arith, low.below.low, lt)) low.below.there low.is_quiet) t t.owner a.0 a.1)

  both_pass : (a b : Bool) → a ≡ true → b ≡ false → a && not b ≡ true
  both_pass a b e f = ap (λ x. x && not b) e ∙ ap (λ x. not x) f

  handler_passes : (k : ℕ) (x : image.Process) (p : Process) (o : Option Handler) (from q : ℕ) → EmitsHandler g m.code k p o from q x → from ≡ handler_start x → QuietHandler quiet g k p o → is_handler m x x.handler_tree ≡ true
  handler_passes k x p None from q h start ok = ap (λ z. is_handler m x z) h.3
  handler_passes k x p (Some y) from q h start ok =
      ap (λ z. is_handler m x z) h.5
      ∙ both_pass _ _ (eq-eqb x.handler (handler_start x) (h.3 ∙ start))
      (stmts_quiet g (reach m) (λ z. IsQuietBelow quiet g (length (numbered g)) z) (λ u low. quiet_below (suc (number_of g u)) (number_of g u) u (omega arith) low.below.there low.is_quiet) y.body (process_scope g k p) (process_scope g k p) Nil refl ok.0 ok.1)

  -- handlers are as they should be
  pub no_handler_fault : handler_fault m ≡ None
  no_handler_fault = none_all (λ k p. unless (is_handler m p p.handler_tree) k 0) m.processes (λ k x at. passes k x at)
    where
      starts : (k : ℕ) (x : image.Process) (b : BodyIs g m is sound declares k x) → b.emits.behind + 1 ≡ handler_start x
      starts k x b =
          let sized : b.emits.behind + size Nil ≡ x.start + size (stmts_segs g (process_scope g k b.text) b.text.body Nil) =
          stmts_size g (λ y. IsBelow g (length (numbered g)) y) b.text.body (process_scope g k b.text) (process_scope g k b.text) 0 x.start b.emits.behind Nil m.code (alike g (process_scope g k b.text)) b.emits.body (sound.bodies k b.text b.there).0 in
          let e : size x.body ≡ size (stmts_segs g (process_scope g k b.text) b.text.body Nil) = ap (λ z. size z) b.emits.tree in omega (arith, sized, e)

      passes : (k : ℕ) (x : image.Process) → slice_get m.processes k ≡ Some x → unless (is_handler m x x.handler_tree) k 0 ≡ None
      passes k x at =
          let b = body g m is sound declares k x at in
          ap (λ z. unless z k 0) (handler_passes k x b.text b.text.handler (b.emits.behind + 1) b.next b.emits.handler (starts k x b) (are.handlers k b.text b.there))
