-- A well-formed program keeps the rules that the law of one process asks for.
use Rattle.std.specs.Prelude.{◌≡◌, ◌<◌, ℕ, zero, suc, true, false, List, [], ◌∷◌, ◌++◌, Option, Some, None, slice_get, option_map}
use Rattle.std.proofs.lemmas.Option.{none-some, same_Some}
use Rattle.std.proofs.Common.{refl, sym, ◌∙◌, ap, subst, arith}
use Rattle.std.proofs.lemmas.Bool.{false≢true}
use Rattle.syntax_tree.specs.Plain.{Name, Param, Answers, Var, Routine, Expr, literal, truth, variable, element, call, minus, negation, paren, row, Exprs, no_exprs, exprs, Operands, no_operands, operand, Ref, whole, part, Stmt, assign, assign_entry, assign_empty, perform, perform_entry, when, when_else, loop, exit_when, get, put, wait, signal, broadcast, except, assert, Stmts, no_stmts, stmts, Process, Program}
use Rattle.source_semantics.specs.Names.{named, routines, processes, routine_count}
use Rattle.source_semantics.specs.Run.{Found, of_program, of_process, routine_named, entry_named, entry_name, or_else}
use Rattle.source_semantics.specs.Nesting.{ExprBelow, ExprsBelow, OperandsBelow, RefBelow, StmtBelow, StmtsBelow, AnswersBelow, Levels}
use Rattle.source_semantics.specs.Ranks.{uses, uses_all, called_uses, reached, monitors_of}
use Rattle.code_spec.specs.Layout.{Owner, by_program, by_process, by_monitor, Scope}
use Rattle.code_spec.specs.Numbering.{Text, routine_of, process_routines, routine_in, Called, calls_routine, calls_entry, answers_calls}
use Rattle.code_spec.specs.Memory.{Setting}
use Rattle.code_spec.specs.Proper.{found_of, IsMine, ProperAnswers}
use Rattle.static_declarations.specs.declared.sort.Sort.{Sort}
use Rattle.static_declarations.specs.declared.sort.Sort.TheVariants as sort_is
use Rattle.static_semantics.specs.Here.{Here, in_loop, scalar_sort}
use Rattle.static_semantics.specs.Typed.{answer_sort, params_of, IsOf, IsRow, AreArguments, IsTarget}
use Rattle.static_semantics.specs.Statements.{may_call, Fits, AllFit}
use Rattle.static_semantics.specs.WellFormed.{AnswersFit}
use Rattle.codegen_law.specs.Ruled.{all_in, runs_of, AllOfProgram}
use Rattle.codegen_law.proofs.Mirror.{here_of}
use Rattle.codegen_law.proofs.RuledTexts.{AgreeName, AgreeAll, Whole, Place, UsesIn, expr_proper}

-- ---- calls of what fits have levels below the number of routines

module _ (level : Name → ℕ) (n : ℕ) (h : Here) (few : (f : Name) (x : Found) → routine_named h.program h.process f ≡ Some x → level f < n) where
  sorted : (f : Name) (s : Sort) (x : Option Found) → routine_named h.program h.process f ≡ x → answer_sort x ≡ Some s → level f < n
  sorted f s None is e = absurd (none-some s e)
  sorted f s (Some x) is e = few f x is

  mutual
    expr_below : (x : Expr) (s : Sort) → IsOf h s x → ExprBelow level n x
    expr_below (literal v) s k = tt
    expr_below (truth v) s k = tt
    expr_below (variable x) s k = tt
    expr_below (element x i) s k = expr_below i sort_is.Number k.1
    expr_below (call f es) s k = (sorted f s (routine_named h.program h.process f) refl k.0, exprs_below es (params_of (routine_named h.program h.process f)) k.1)
    expr_below (minus i) s k = expr_below i sort_is.Number k.1
    expr_below (negation i) s k = expr_below i sort_is.Truth k.1
    expr_below (paren i) s k = expr_below i s k
    expr_below (row i r) s k = (expr_below i k.0 k.1, row_below r k.0 s k.2)

    row_below : (r : Operands) (t s : Sort) → IsRow h t s r → OperandsBelow level n r
    row_below no_operands t s k = tt
    row_below (operand op i r) t s k = (expr_below i k.0 k.1, row_below r _ s k.3)

    exprs_below : (es : Exprs) (ps : Option (List Param)) → AreArguments h ps es → ExprsBelow level n es
    exprs_below no_exprs ps k = tt
    exprs_below (exprs i es) None k = absurd k
    exprs_below (exprs i es) (Some []) k = absurd k
    exprs_below (exprs i es) (Some (p ∷ ps)) k = (expr_below i (scalar_sort p.kind) k.0, exprs_below es (Some ps) k.1)

  ref_below : (r : Ref) (s : Sort) → IsTarget h s r → RefBelow level n r
  ref_below (whole x) s k = tt
  ref_below (part x i) s k = expr_below i sort_is.Number k.2

performed_below : (level : Name → ℕ) (n : ℕ) (h : Here) → ((f : Name) (x : Found) → routine_named h.program h.process f ≡ Some x → level f < n) → (f : Name) (es : Exprs) (x : Option Found) → routine_named h.program h.process f ≡ x → AreArguments h (params_of x) es → level f < n
performed_below level n h few f es None is k = absurd k
performed_below level n h few f es (Some x) is k = few f x is

mutual
  stmt_below : (level : Name → ℕ) (n : ℕ) (s : Stmt) (h : Here) → ((f : Name) (x : Found) → routine_named h.program h.process f ≡ Some x → level f < n) → Fits h s → StmtBelow level n s
  stmt_below level n (assign r x) h few k = (ref_below level n h few r k.0 k.1, expr_below level n h few x k.0 k.2)
  stmt_below level n (assign_entry r m e es) h few k = (ref_below level n h few r k.1.0 k.1.1, exprs_below level n h few es (params_of (entry_named h.program m e)) k.2)
  stmt_below level n (assign_empty r x) h few k = ref_below level n h few r sort_is.Truth k.0
  stmt_below level n (perform f es) h few k = (performed_below level n h few f es (routine_named h.program h.process f) refl k.2, exprs_below level n h few es (params_of (routine_named h.program h.process f)) k.2)
  stmt_below level n (perform_entry m e es) h few k = exprs_below level n h few es (params_of (entry_named h.program m e)) k.2
  stmt_below level n (when x s) h few k = (expr_below level n h few x sort_is.Truth k.0, stmts_below level n s h few k.1)
  stmt_below level n (when_else x s t) h few k = (expr_below level n h few x sort_is.Truth k.0, stmts_below level n s h few k.1, stmts_below level n t h few k.2)
  stmt_below level n (loop x lo hi ss) h few k = stmts_below level n ss (in_loop x h) few k.1
  stmt_below level n (exit_when x) h few k = expr_below level n h few x sort_is.Truth k.1
  stmt_below level n (get d r) h few k = ref_below level n h few r sort_is.Number k.2
  stmt_below level n (put d x) h few k = expr_below level n h few x sort_is.Number k.2
  stmt_below level n (wait x limit number) h few k = tt
  stmt_below level n (signal x) h few k = tt
  stmt_below level n (broadcast x) h few k = tt
  stmt_below level n (except c) h few k = tt
  stmt_below level n (assert x) h few k = expr_below level n h few x sort_is.Truth k

  pub stmts_below : (level : Name → ℕ) (n : ℕ) (ss : Stmts) (h : Here) → ((f : Name) (x : Found) → routine_named h.program h.process f ≡ Some x → level f < n) → AllFit h ss → StmtsBelow level n ss
  stmts_below level n no_stmts h few k = tt
  stmts_below level n (stmts s ss) h few k = (stmt_below level n s h few k.0, stmts_below level n ss h few k.1)

-- ---- what may call nothing uses no monitors

mutual
  stmt_quiet : (g : Program) (calls : Name → List ℕ) (s : Stmt) (h : Here) → may_call h ≡ false → Fits h s → uses g calls s ≡ []
  stmt_quiet g calls (assign r x) h q k = refl
  stmt_quiet g calls (assign_entry r m e es) h q k = absurd (false≢true (sym q ∙ k.0))
  stmt_quiet g calls (assign_empty r x) h q k = refl
  stmt_quiet g calls (perform f es) h q k = absurd (false≢true (sym q ∙ k.0))
  stmt_quiet g calls (perform_entry m e es) h q k = absurd (false≢true (sym q ∙ k.0))
  stmt_quiet g calls (when x s) h q k = stmts_quiet g calls s h q k.1
  stmt_quiet g calls (when_else x s t) h q k = ap (λ xs. xs ++ uses_all g calls t) (stmts_quiet g calls s h q k.1) ∙ stmts_quiet g calls t h q k.2
  stmt_quiet g calls (loop x lo hi ss) h q k = stmts_quiet g calls ss (in_loop x h) q k.1
  stmt_quiet g calls (exit_when x) h q k = refl
  stmt_quiet g calls (get d r) h q k = refl
  stmt_quiet g calls (put d x) h q k = refl
  stmt_quiet g calls (wait x limit number) h q k = refl
  stmt_quiet g calls (signal x) h q k = refl
  stmt_quiet g calls (broadcast x) h q k = refl
  stmt_quiet g calls (except c) h q k = refl
  stmt_quiet g calls (assert x) h q k = refl

  pub stmts_quiet : (g : Program) (calls : Name → List ℕ) (ss : Stmts) (h : Here) → may_call h ≡ false → AllFit h ss → uses_all g calls ss ≡ []
  stmts_quiet g calls no_stmts h q k = refl
  stmts_quiet g calls (stmts s ss) h q k = ap (λ xs. xs ++ uses_all g calls ss) (stmt_quiet g calls s h q k.0) ∙ stmts_quiet g calls ss h q k.1

-- ---- no greater depth reaches further

mutual
  stmt_same : (g : Program) (level : Name → ℕ) (n : ℕ) (a b : Name → List ℕ) (s : Stmt) → StmtBelow level n s → ((f : Name) → level f < n → a f ≡ b f) → uses g a s ≡ uses g b s
  stmt_same g level n a b (assign r x) k e = refl
  stmt_same g level n a b (assign_entry r m en es) k e = refl
  stmt_same g level n a b (assign_empty r x) k e = refl
  stmt_same g level n a b (perform f es) k e = e f k.0
  stmt_same g level n a b (perform_entry m en es) k e = refl
  stmt_same g level n a b (when x s) k e = stmts_same g level n a b s k.1 e
  stmt_same g level n a b (when_else x s t) k e = ap (λ xs. xs ++ uses_all g a t) (stmts_same g level n a b s k.1 e) ∙ ap (λ ys. uses_all g b s ++ ys) (stmts_same g level n a b t k.2 e)
  stmt_same g level n a b (loop x lo hi ss) k e = stmts_same g level n a b ss k e
  stmt_same g level n a b (exit_when x) k e = refl
  stmt_same g level n a b (get d r) k e = refl
  stmt_same g level n a b (put d x) k e = refl
  stmt_same g level n a b (wait x limit number) k e = refl
  stmt_same g level n a b (signal x) k e = refl
  stmt_same g level n a b (broadcast x) k e = refl
  stmt_same g level n a b (except c) k e = refl
  stmt_same g level n a b (assert x) k e = refl

  stmts_same : (g : Program) (level : Name → ℕ) (n : ℕ) (a b : Name → List ℕ) (ss : Stmts) → StmtsBelow level n ss → ((f : Name) → level f < n → a f ≡ b f) → uses_all g a ss ≡ uses_all g b ss
  stmts_same g level n a b no_stmts k e = refl
  stmts_same g level n a b (stmts s ss) k e = ap (λ xs. xs ++ uses_all g a ss) (stmt_same g level n a b s k.0 e) ∙ ap (λ ys. uses g b s ++ ys) (stmts_same g level n a b ss k.1 e)

deep : (g : Program) (p : Process) (level : Name → ℕ) → Levels g p level → (n : ℕ) (f : Name) → level f < n → reached g p n f ≡ reached g p (suc n) f
unfolding reached
deep g p level levels zero f lt = absurd (omega arith)
deep g p level levels (suc n) f lt = by_found (routine_named g p f) refl (λ k below. deep g p level levels n k below)
  where
    by_found : (x : Option Found) → routine_named g p f ≡ x → ((k : Name) → level k < n → reached g p n k ≡ reached g p (suc n) k)
        → called_uses (λ r. uses_all g (reached g p n) r.body) x ≡ called_uses (λ r. uses_all g (reached g p (suc n)) r.body) x
    by_found None is d = refl
    by_found (Some x) is d = stmts_same g level (level f) (reached g p n) (reached g p (suc n)) x.routine.body (levels.body f x is) (λ k below. d k (omega arith))

-- ---- what names in calls mean

-- in a process's own text
pub process_agrees : (e : Setting) (c : Scope) (k : ℕ) (f : Name) → c.owner ≡ by_process k → k ≡ e.number → slice_get (processes e.program) e.number ≡ Some e.text → AgreeName e c f
process_agrees e c k f own mine at x is =
    let here : slice_get (processes e.program) k ≡ Some e.text = ap (λ n. slice_get (processes e.program) n) mine ∙ at in
    let found : (t : Text) × (or_else (routine_of (by_process k) e.text.routines f) (routine_of by_program (routines e.program) f) ≡ Some t) × (found_of t ≡ x) × IsMine e t.owner =
    by_found (named (λ r. r.name) f e.text.routines) (named (λ r. r.name) f (routines e.program)) is in (
      found.0,
      subst (λ o. routine_in e.program o f ≡ Some found.0) (sym own) (subst (λ p. or_else (routine_of (by_process k) (process_routines p) f) (routine_of by_program (routines e.program) f) ≡ Some found.0) (sym here) found.1),
      found.2,
      found.3,
    )
  where
    same : (a : Found) → Some a ≡ Some x → a ≡ x
    same a h = same_Some a x h

    by_found : (a b : Option Routine) → or_else (option_map (λ r. record { home = of_process; routine = r }) a) (option_map (λ r. record { home = of_program; routine = r }) b) ≡ Some x
        → (t : Text) × (or_else (option_map (λ r. record { owner = by_process k; routine = r }) a) (option_map (λ r. record { owner = by_program; routine = r }) b) ≡ Some t) × (found_of t ≡ x) × IsMine e t.owner
    by_found (Some r) b h = (record { owner = by_process k; routine = r }, refl, same (record { home = of_process; routine = r }) h, mine)
    by_found None (Some r) h = (record { owner = by_program; routine = r }, refl, same (record { home = of_program; routine = r }) h, tt)
    by_found None None h = absurd (none-some x h)

pub all_agree : (e : Setting) (c : Scope) → ((f : Name) → AgreeName e c f) → (cs : List Called) → AgreeAll e c cs
all_agree e c h [] = tt
all_agree e c h (calls_routine f ∷ cs) = (h f, all_agree e c h cs)
all_agree e c h (calls_entry m f ∷ cs) = all_agree e c h cs

-- in the program's routines and in entries
program_agrees : (e : Setting) (c : Scope) (f : Name) (r : Routine) → routine_in e.program c.owner f ≡ routine_of by_program (routines e.program) f → named (λ k. k.name) f (routines e.program) ≡ Some r → named (λ k. k.name) f e.text.routines ≡ None
    → AgreeName e c f
program_agrees e c f r own found apart x is = (
  record { owner = by_program; routine = r },
  own ∙ ap (λ y. option_map (λ k. record { owner = by_program; routine = k }) y) found,
  same_Some (record { home = of_program; routine = r }) x
      (sym (ap (λ y. or_else (option_map (λ k. record { home = of_process; routine = k }) y) (option_map (λ k. record { home = of_program; routine = k }) (named entry_name f (routines e.program)))) apart
      ∙ ap (λ y. option_map (λ k. record { home = of_program; routine = k }) y) found) ∙ is),
  tt,
)

pub program_all_agree : (e : Setting) (c : Scope) → ((f : Name) → routine_in e.program c.owner f ≡ routine_of by_program (routines e.program) f)
    → ((f : Name) (r : Routine) → named (λ k. k.name) f (routines e.program) ≡ Some r → named (λ k. k.name) f e.text.routines ≡ None) → (cs : List Called) → AllOfProgram e.program cs → AgreeAll e c cs
program_all_agree e c own apart [] h = tt
program_all_agree e c own apart (calls_routine f ∷ cs) h = (program_agrees e c f h.0.0 (own f) h.0.1 (apart f h.0.0 h.0.1), program_all_agree e c own apart cs h.1)
program_all_agree e c own apart (calls_entry m f ∷ cs) h = program_all_agree e c own apart cs h.1

-- ---- the texts of a process

pub not_monitor : (k m : ℕ) → by_process k ≡ by_monitor m → ⊥
not_monitor k m h = cc

pub program_no_monitor : (m : ℕ) → by_program ≡ by_monitor m → ⊥
program_no_monitor m h = cc

pub monitor_same : (a b : ℕ) → by_monitor a ≡ by_monitor b → a ≡ b
monitor_same a b h = ap (λ o. number o) h
  where
    number : Owner → ℕ
    number (by_monitor m) = m
    number by_program = 0
    number (by_process k) = 0

pub answers_proper : (e : Setting) (w : Whole e) (n : ℕ) (c : Scope) (vars : List Var) → Place e c [] vars → (an : Option Answers) → AnswersFit e.program (here_of e c [] vars) an → AnswersBelow e.order.level n an → AgreeAll e c (answers_calls an) → ProperAnswers e c n an
answers_proper e w n c vars place None h b a = tt
answers_proper e w n c vars place (Some x) h b a = expr_proper e w n c [] vars place x.value (scalar_sort x.kind) h.1 b a

pub answers_below : (level : Name → ℕ) (n : ℕ) (h : Here) (g : Program) → ((f : Name) (x : Found) → routine_named h.program h.process f ≡ Some x → level f < n) → (an : Option Answers) → AnswersFit g h an → AnswersBelow level n an
answers_below level n h g few None k = tt
answers_below level n h g few (Some a) k = expr_below level n h few a.value (scalar_sort a.kind) k.1

-- what a routine that runs uses
pub run_uses : (e : Setting) (f : Name) (x : Found) → Levels e.program e.text e.order.level → routine_named e.program e.text f ≡ Some x → runs_of e.program e.text f ≡ true → UsesIn e (uses_all e.program (reached e.program e.text (routine_count e.program)) x.routine.body)
unfolding reached
run_uses e f x levels is run = by_count (routine_count e.program) refl (levels.few f x is) run
  where
    by_count : (n : ℕ) → routine_count e.program ≡ n → e.order.level f < n → all_in (reached e.program e.text n f) (monitors_of e.program e.text) ≡ true → UsesIn e (uses_all e.program (reached e.program e.text n) x.routine.body)
    by_count zero same lt h = absurd (omega arith)
    by_count (suc n) same lt h =
        subst (λ ms. all_in ms (monitors_of e.program e.text) ≡ true)
        (ap (λ y. called_uses (λ r. uses_all e.program (reached e.program e.text n) r.body) y) is
        ∙ stmts_same e.program e.order.level (e.order.level f) (reached e.program e.text n) (reached e.program e.text (suc n)) x.routine.body (levels.body f x is) (λ k below. deep e.program e.text e.order.level levels n k (omega arith))) h

-- a function uses nothing
pub function_runs : (e : Setting) (f : Name) (x : Found) (h : Here) → routine_named e.program e.text f ≡ Some x → may_call h ≡ false → AllFit h x.routine.body → runs_of e.program e.text f ≡ true
unfolding reached
function_runs e f x h is quiet fit = by_count (routine_count e.program)
  where
    by_count : (n : ℕ) → all_in (reached e.program e.text n f) (monitors_of e.program e.text) ≡ true
    by_count zero = refl
    by_count (suc n) = ap (λ ms. all_in ms (monitors_of e.program e.text)) (ap (λ y. called_uses (λ r. uses_all e.program (reached e.program e.text n) r.body) y) is ∙ stmts_quiet e.program (reached e.program e.text n) x.routine.body h quiet fit)
