-- A text that fits where it stands is sound, where what it calls is what the meaning finds.
use Rattle.std.specs.Prelude.{◌≡◌, ◌++◌, ℕ, List, [], ◌∷◌, Option, Some, None, slice_get, option_map, Contains}
use Rattle.std.proofs.Common.{refl, sym, ◌∙◌, ap, subst}
use Rattle.std.proofs.lemmas.Option.{none-some}
use Rattle.base.proofs.Members.{none_in}
use Rattle.syntax_tree.specs.Plain.{Name, Param, Answers, Var, Routine, Expr, literal, truth, variable, element, call, minus, negation, paren, row, Exprs, no_exprs, exprs, Operands, no_operands, operand, Ref, whole, part, Stmt, assign, assign_entry, assign_empty, perform, perform_entry, when, when_else, loop, exit_when, get, put, wait, signal, broadcast, except, assert, Stmts, no_stmts, stmts, Process, Program}
use Rattle.source_semantics.specs.Names.{processes}
use Rattle.source_semantics.specs.Run.{Found, routine_named, entry_named}
use Rattle.code_spec.specs.Layout.{Owner, by_program, by_process, by_monitor, home_of, Spot, Scope, spot_of}
use Rattle.code_spec.specs.Numbering.{Text, routine_in, entry_in, Called, calls_routine, calls_entry, expr_calls, exprs_calls, row_calls, ref_calls, stmt_calls, stmts_calls, answers_calls, routine_calls}
use Rattle.code_spec.specs.Code.{constant_named}
use Rattle.code_spec.specs.Emits.{inner}
use Rattle.code_spec.specs.Compiled.{routine_scope, process_scope}
use Rattle.code_spec.specs.Memory.{Setting}
use Rattle.code_spec.specs.Proper.{found_of, IsFree as IsFreeAs}
use Rattle.static_declarations.specs.declared.sort.Sort.{Sort}
use Rattle.static_declarations.specs.declared.sort.Sort.TheVariants as sort_is
use Rattle.static_semantics.specs.Here.{meant, scalar_sort, own_of, in_process, conditions_here}
use Rattle.static_semantics.specs.Typed.{answer_sort, params_of, IsOf, IsRow, AreArguments, IsTarget}
use Rattle.static_semantics.specs.Statements.{Fits, AllFit}
use Rattle.static_semantics.specs.WellFormed.{AnswersFit, RoutineFits}
use Rattle.code_measures.specs.Sound.{IsFree, SoundExpr, SoundRow, SoundArgs, SoundIndex, SoundRef, Sound, SoundAll, SoundAnswers, SoundRoutine}
use Rattle.codegen_law.proofs.Mirror.{here_of, OwnAt, OwnerKnown, SpotOf, routine_at, spot_meant, array_meant, free_meant, single_meant}
use Rattle.codegen_law.proofs.Turns.{turns_count}
use Rattle.codegen_law.specs.Called.{AllCalled}
use Rattle.codegen_law.proofs.Finding.{called_front, called_back}

some_none : {A : Type 0} (x : A) → Some x ≡ None → ⊥
some_none x e = cc

no_longer : (b : _) (s : Option Spot) → IsFreeAs b s → IsFree s
no_longer b None h = absurd h
no_longer b (Some s) h = h.0

-- what a call names in the code is what the meaning finds, and may be called
pub record Agrees (may : Text → Type 0) (in_code : Option Text) (in_source : Option Found) : Type 0 where
  pub text : Text
  pub is : in_code ≡ Some text
  pub found : in_source ≡ Some (found_of text)
  pub allowed : may text

abbrev pub CallAgrees : Program → Process → (Text → Type 0) → Owner → Called → Type 0
CallAgrees g p may o (calls_routine f) = Agrees may (routine_in g o f) (routine_named g p f)
CallAgrees g p may o (calls_entry m n) = Agrees may (entry_in g m n) (entry_named g m n)

module _ (e : Setting) (at : slice_get (processes e.program) e.number ≡ Some e.text) (may : Text → Type 0) where
  abbrev Agree : Owner → Called → Type 0
  Agree o c = CallAgrees e.program e.text may o c

  -- ---- what is called

  answers_some : (x : Option Found) (t : Text) (s : Sort) → x ≡ Some (found_of t) → answer_sort x ≡ Some s → (a : Answers) × (t.routine.answers ≡ Some a)
  answers_some x t s is h = by t.routine.answers (ap (λ y. answer_sort y) (sym is) ∙ h)
    where
      by : (an : Option Answers) → option_map (λ y. scalar_sort y.kind) an ≡ Some s → (a : Answers) × (an ≡ Some a)
      by None h = absurd (none-some s h)
      by (Some a) h = (a, refl)

  answers_none : (x : Option Found) (t : Text) → x ≡ Some (found_of t) → answer_sort x ≡ None → t.routine.answers ≡ None
  answers_none x t is h = by t.routine.answers (ap (λ y. answer_sort y) (sym is) ∙ h)
    where
      by : (an : Option Answers) → option_map (λ y. scalar_sort y.kind) an ≡ None → an ≡ None
      by None h = refl
      by (Some a) h = absurd (some_none (scalar_sort a.kind) h)

  -- where a text stands
  pub record Standing (c : Scope) (turns : List Name) (vars : List Var) : Type 0 where
    pub owner : OwnerKnown e c.owner
    pub own : OwnAt e.program turns vars c.own

  module _ (c : Scope) (turns : List Name) (vars : List Var) (stands : Standing c turns vars) where
    spot : (x : Name) → SpotOf e.program (meant (here_of e c turns vars) x) (spot_of e.program c x) (constant_named e.program x)
    spot x = spot_meant e c turns vars x at stands.owner stands.own

    mutual
      pub expr_sound : (x : Expr) (s : Sort) → IsOf (here_of e c turns vars) s x → AllCalled (Agree c.owner) (expr_calls x) → SoundExpr e.program may c x
      expr_sound (literal v) s h a = tt
      expr_sound (truth b) s h a = tt
      expr_sound (variable x) s h a = tt
      expr_sound (element x i) s h a =
          (expr_sound i sort_is.Number h.1 a, array_meant e.program (meant (here_of e c turns vars) x) (spot_of e.program c x) (constant_named e.program x) s (spot x) h.0)
      expr_sound (call f es) s h a =
          let an : (an : Answers) × (a.0.text.routine.answers ≡ Some an) = answers_some (routine_named e.program e.text f) a.0.text s a.0.found h.0 in
          (a.0.text, an.0, a.0.is, a.0.allowed, an.1, args_sound es a.0.text.routine.params (subst (λ y. AreArguments (here_of e c turns vars) (params_of y) es) a.0.found h.1) a.1)
      expr_sound (minus i) s h a = expr_sound i sort_is.Number h.1 a
      expr_sound (negation i) s h a = expr_sound i sort_is.Truth h.1 a
      expr_sound (paren i) s h a = expr_sound i s h a
      expr_sound (row i r) s h a = (expr_sound i h.0 h.1 (called_front (Agree c.owner) (expr_calls i) (row_calls r) a), row_sound r h.0 s h.2 (called_back (Agree c.owner) (expr_calls i) (row_calls r) a))

      row_sound : (r : Operands) (t s : Sort) → IsRow (here_of e c turns vars) t s r → AllCalled (Agree c.owner) (row_calls r) → SoundRow e.program may c r
      row_sound no_operands t s h a = tt
      row_sound (operand op i r) t s h a = (expr_sound i h.0 h.1 (called_front (Agree c.owner) (expr_calls i) (row_calls r) a), row_sound r _ s h.3 (called_back (Agree c.owner) (expr_calls i) (row_calls r) a))

      args_sound : (es : Exprs) (ps : List Param) → AreArguments (here_of e c turns vars) (Some ps) es → AllCalled (Agree c.owner) (exprs_calls es) → SoundArgs e.program may c es ps
      args_sound no_exprs [] h a = tt
      args_sound (exprs i es) [] h a = absurd h
      args_sound no_exprs (p ∷ ps) h a = absurd h
      args_sound (exprs i es) (p ∷ ps) h a =
          (expr_sound i (scalar_sort p.kind) h.0 (called_front (Agree c.owner) (expr_calls i) (exprs_calls es) a), args_sound es ps h.1 (called_back (Agree c.owner) (expr_calls i) (exprs_calls es) a))

    index_sound : (r : Ref) (s : Sort) → IsTarget (here_of e c turns vars) s r → AllCalled (Agree c.owner) (ref_calls r) → SoundIndex e.program may c r
    index_sound (whole x) s h a = tt
    index_sound (part x i) s h a = expr_sound i sort_is.Number h.2 a

    ref_sound : (r : Ref) (s : Sort) → IsTarget (here_of e c turns vars) s r → SoundRef e.program c r
    ref_sound (whole x) s h = (
      single_meant e.program (meant (here_of e c turns vars) x) (spot_of e.program c x) (constant_named e.program x) c.is_function s (spot x) h.0 h.1,
      no_longer c.is_function (spot_of e.program c x) (free_meant e.program (meant (here_of e c turns vars) x) (spot_of e.program c x) (constant_named e.program x) c.is_function (spot x) h.0),
    )
    ref_sound (part x i) s h = (
      array_meant e.program (meant (here_of e c turns vars) x) (spot_of e.program c x) (constant_named e.program x) s (spot x) h.1,
      no_longer c.is_function (spot_of e.program c x) (free_meant e.program (meant (here_of e c turns vars) x) (spot_of e.program c x) (constant_named e.program x) c.is_function (spot x) h.0),
    )

    -- a condition is named only in an entry
    waits_in : (x : Name) (o : Owner) → c.owner ≡ o → Contains (conditions_here e.program (home_of o)) x → (m : ℕ) × (c.owner ≡ by_monitor m)
    waits_in x by_program is h = absurd (none_in x h)
    waits_in x (by_process k) is h = absurd (none_in x h)
    waits_in x (by_monitor m) is h = (m, is)

  -- ---- statements

  inside_loop : (c : Scope) (turns : List Name) (vars : List Var) (x : Name) (i q : ℕ) → Standing c turns vars → Standing (inner c x i q) (x ∷ turns) vars
  inside_loop c turns vars x i q p = record { owner = p.owner; own = (refl, refl, refl, p.own) }

  mutual
    stmt_sound : (s : Stmt) (c : Scope) (turns : List Name) (vars : List Var) → Standing c turns vars → Fits (here_of e c turns vars) s → AllCalled (Agree c.owner) (stmt_calls s) → Sound e.program may c s
    stmt_sound (assign r x) c turns vars p h a =
        (index_sound c turns vars p r h.0 h.1 (called_front (Agree c.owner) (ref_calls r) (expr_calls x) a), ref_sound c turns vars p r h.0 h.1, expr_sound c turns vars p x h.0 h.2 (called_back (Agree c.owner) (ref_calls r) (expr_calls x) a))
    stmt_sound (assign_entry r m n es) c turns vars p h a =
        let k : AllCalled (Agree c.owner) (calls_entry m n ∷ exprs_calls es) = called_back (Agree c.owner) (ref_calls r) (calls_entry m n ∷ exprs_calls es) a in
        let an : (an : Answers) × (k.0.text.routine.answers ≡ Some an) = answers_some (entry_named e.program m n) k.0.text h.1.0 k.0.found h.1.2 in (
          index_sound c turns vars p r h.1.0 h.1.1 (called_front (Agree c.owner) (ref_calls r) (calls_entry m n ∷ exprs_calls es) a),
          ref_sound c turns vars p r h.1.0 h.1.1,
          (k.0.text, an.0, k.0.is, k.0.allowed, an.1, args_sound c turns vars p es k.0.text.routine.params (subst (λ y. AreArguments (here_of e c turns vars) (params_of y) es) k.0.found h.2) k.1),
        )
    stmt_sound (assign_empty r x) c turns vars p h a = (index_sound c turns vars p r sort_is.Truth h.0 a, ref_sound c turns vars p r sort_is.Truth h.0)
    stmt_sound (perform f es) c turns vars p h a =
        (a.0.text, a.0.is, a.0.allowed, answers_none (routine_named e.program e.text f) a.0.text a.0.found h.1, args_sound c turns vars p es a.0.text.routine.params (subst (λ y. AreArguments (here_of e c turns vars) (params_of y) es) a.0.found h.2) a.1)
    stmt_sound (perform_entry m n es) c turns vars p h a =
        (a.0.text, a.0.is, a.0.allowed, answers_none (entry_named e.program m n) a.0.text a.0.found h.1, args_sound c turns vars p es a.0.text.routine.params (subst (λ y. AreArguments (here_of e c turns vars) (params_of y) es) a.0.found h.2) a.1)
    stmt_sound (when x s) c turns vars p h a = (expr_sound c turns vars p x sort_is.Truth h.0 (called_front (Agree c.owner) (expr_calls x) (stmts_calls s) a), stmts_sound s c turns vars p h.1 (called_back (Agree c.owner) (expr_calls x) (stmts_calls s) a))
    stmt_sound (when_else x s t) c turns vars p h a =
        let rest : AllCalled (Agree c.owner) (stmts_calls s ++ stmts_calls t) = called_back (Agree c.owner) (expr_calls x) (stmts_calls s ++ stmts_calls t) a in (
          expr_sound c turns vars p x sort_is.Truth h.0 (called_front (Agree c.owner) (expr_calls x) (stmts_calls s ++ stmts_calls t) a),
          stmts_sound s c turns vars p h.1 (called_front (Agree c.owner) (stmts_calls s) (stmts_calls t) rest),
          stmts_sound t c turns vars p h.2 (called_back (Agree c.owner) (stmts_calls s) (stmts_calls t) rest),
        )
    stmt_sound (loop x low high ss) c turns vars p h a =
        let t = turns_count e.program low high h.0 in
        ((t.0, t.1), λ i q. stmts_sound ss (inner c x i q) (x ∷ turns) vars (inside_loop c turns vars x i q p) h.1 a)
    stmt_sound (exit_when x) c turns vars p h a = expr_sound c turns vars p x sort_is.Truth h.1 a
    stmt_sound (get d r) c turns vars p h a = (index_sound c turns vars p r sort_is.Number h.2 a, ref_sound c turns vars p r sort_is.Number h.2)
    stmt_sound (put d x) c turns vars p h a = expr_sound c turns vars p x sort_is.Number h.2 a
    stmt_sound (wait x limit number) c turns vars p h a = waits_in c turns vars p x c.owner refl h.0
    stmt_sound (signal x) c turns vars p h a = tt
    stmt_sound (broadcast x) c turns vars p h a = tt
    stmt_sound (except k) c turns vars p h a = tt
    stmt_sound (assert x) c turns vars p h a = expr_sound c turns vars p x sort_is.Truth h a

    pub stmts_sound : (ss : Stmts) (c : Scope) (turns : List Name) (vars : List Var) → Standing c turns vars → AllFit (here_of e c turns vars) ss → AllCalled (Agree c.owner) (stmts_calls ss) → SoundAll e.program may c ss
    stmts_sound no_stmts c turns vars p h a = tt
    stmts_sound (stmts s ss) c turns vars p h a =
        (stmt_sound s c turns vars p h.0 (called_front (Agree c.owner) (stmt_calls s) (stmts_calls ss) a), stmts_sound ss c turns vars p h.1 (called_back (Agree c.owner) (stmt_calls s) (stmts_calls ss) a))

  -- ---- routines and processes

  answers_sound : (c : Scope) (vars : List Var) → Standing c [] vars → (an : Option Answers) → AnswersFit e.program (here_of e c [] vars) an → AllCalled (Agree c.owner) (answers_calls an) → SoundAnswers e.program may c an
  answers_sound c vars p None h a = tt
  answers_sound c vars p (Some x) h a = expr_sound c [] vars p x.value (scalar_sort x.kind) h.1 a

  abbrev text_of : Owner → Routine → Text
  text_of o r = record { owner = o; routine = r }

  pub routine_sound : (o : Owner) (r : Routine) → OwnerKnown e o → RoutineFits e.program e.text (home_of o) r → AllCalled (Agree o) (routine_calls r) → SoundRoutine e.program may (record { owner = o; routine = r })
  routine_sound by_program r known fits a = (
    stmts_sound r.body (routine_scope e.program (text_of by_program r)) [] (own_of r) (record { owner = known; own = routine_at e.program r }) fits.body (called_front (Agree by_program) (stmts_calls r.body) (answers_calls r.answers) a),
    answers_sound (routine_scope e.program (text_of by_program r)) (own_of r) (record { owner = known; own = routine_at e.program r }) r.answers fits.answers (called_back (Agree by_program) (stmts_calls r.body) (answers_calls r.answers) a),
  )
  routine_sound (by_process k) r known fits a = (
    stmts_sound r.body (routine_scope e.program (text_of (by_process k) r)) [] (own_of r) (record { owner = known; own = routine_at e.program r }) fits.body (called_front (Agree (by_process k)) (stmts_calls r.body) (answers_calls r.answers) a),
    answers_sound (routine_scope e.program (text_of (by_process k) r)) (own_of r) (record { owner = known; own = routine_at e.program r }) r.answers fits.answers (called_back (Agree (by_process k)) (stmts_calls r.body) (answers_calls r.answers) a),
  )
  routine_sound (by_monitor m) r known fits a = (
    stmts_sound r.body (routine_scope e.program (text_of (by_monitor m) r)) [] (own_of r) (record { owner = known; own = routine_at e.program r }) fits.body (called_front (Agree (by_monitor m)) (stmts_calls r.body) (answers_calls r.answers) a),
    answers_sound (routine_scope e.program (text_of (by_monitor m) r)) (own_of r) (record { owner = known; own = routine_at e.program r }) r.answers fits.answers (called_back (Agree (by_monitor m)) (stmts_calls r.body) (answers_calls r.answers) a),
  )

  -- the body and the handler of the process
  pub own_sound : (ss : Stmts) → AllFit (in_process e.program e.text) ss → AllCalled (Agree (by_process e.number)) (stmts_calls ss) → SoundAll e.program may (process_scope e.program e.number e.text) ss
  own_sound ss fit a = stmts_sound ss (process_scope e.program e.number e.text) [] [] (record { owner = refl; own = tt }) fit a
