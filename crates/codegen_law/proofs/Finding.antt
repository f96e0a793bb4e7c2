-- Each call in a text that fits finds a routine or an entry.
use Rattle.std.specs.Prelude.{◌≡◌, ◌++◌, Bool, true, List, [], ◌∷◌, Option, Some, None, IsSome, option_map, Contains}
use Rattle.std.proofs.Common.{inl, inr, refl, subst, ℕ, zero, suc, ◌<◌, length, slice_index_or, arith}
use Rattle.std.proofs.lemmas.Option.{none-some}
use Rattle.syntax_tree.specs.Plain.{Name, Param, Expr, literal, truth, variable, element, call, minus, negation, paren, row, Exprs, no_exprs, exprs, Operands, no_operands, operand, Ref, whole, part, Stmt, assign, assign_entry, assign_empty, perform, perform_entry, when, when_else, loop, exit_when, get, put, wait, signal, broadcast, except, assert, Stmts, no_stmts, stmts, Answers, Process, Program}
use Rattle.static_declarations.specs.declared.sort.Sort.{Sort}
use Rattle.static_declarations.specs.declared.sort.Sort.TheVariants as sort_is
use Rattle.source_semantics.specs.Run.{Found, routine_named, entry_named}
use Rattle.code_spec.specs.Numbering.{Called, calls_entry, expr_calls, exprs_calls, row_calls, ref_calls, stmt_calls, stmts_calls, answers_calls}
use Rattle.static_semantics.specs.Here.{Here, in_loop, scalar_sort}
use Rattle.static_semantics.specs.Typed.{answer_sort, params_of, IsOf, IsRow, AreArguments, IsTarget}
use Rattle.static_semantics.specs.Statements.{Fits, AllFit, may_call}
use Rattle.static_semantics.specs.WellFormed.{AnswersFit}
use Rattle.codegen_law.specs.Called.{AllCalled, FindsRoutine, FindsEntry, Finds, TextsCallWhatIsFound}

-- ---- lists of calls

pub called_both : (P : Called → Type 0) (xs ys : List Called) → AllCalled P xs → AllCalled P ys → AllCalled P (xs ++ ys)
called_both P [] ys h k = k
called_both P (x ∷ xs) ys h k = (h.0, called_both P xs ys h.1 k)

pub called_front : (P : Called → Type 0) (xs ys : List Called) → AllCalled P (xs ++ ys) → AllCalled P xs
called_front P [] ys h = tt
called_front P (x ∷ xs) ys h = (h.0, called_front P xs ys h.1)

pub called_back : (P : Called → Type 0) (xs ys : List Called) → AllCalled P (xs ++ ys) → AllCalled P ys
called_back P [] ys h = h
called_back P (x ∷ xs) ys h = called_back P xs ys h.1

-- one of them
pub called_one : (P : Called → Type 0) (cs : List Called) (c : Called) → AllCalled P cs → Contains cs c → P c
called_one P cs c h i = at cs i.0 h i.1 i.2
  where
    at : (ds : List Called) (k : ℕ) → AllCalled P ds → k < length ds → slice_index_or ds k c ≡ c → P c
    at [] k h below is = absurd (omega arith)
    at (d ∷ ds) zero h below is = subst P is h.0
    at (d ∷ ds) (suc k) h below is = at ds k h.1 (omega arith) is

-- and all, where it holds of each
pub called_all : (P : Called → Type 0) (cs : List Called) → ((c : Called) → Contains cs c → P c) → AllCalled P cs
called_all P [] h = tt
called_all P (c ∷ cs) h = (h c (0, omega arith, refl), called_all P cs (λ d i. h d (suc i.0, let k = i.1 in omega arith, i.2)))

-- ---- what is found

function_found : (g : Program) (p : Process) (may : Bool) (f : Name) (s : Sort) → answer_sort (routine_named g p f) ≡ Some s → FindsRoutine g p may f
function_found g p may f s e = by (routine_named g p f) refl e
  where
    answers : (a : Option Answers) → option_map (λ x. scalar_sort x.kind) a ≡ Some s → IsSome a
    answers None h = absurd (none-some s h)
    answers (Some a) h = refl

    by : (x : Option Found) → routine_named g p f ≡ x → answer_sort x ≡ Some s → FindsRoutine g p may f
    by None is h = absurd (none-some s h)
    by (Some x) is h = record { found = x; is = is; allowed = inl (answers x.routine.answers h) }

routine_found : (h : Here) (f : Name) (es : Exprs) → may_call h ≡ true → AreArguments h (params_of (routine_named h.program h.process f)) es → FindsRoutine h.program h.process (may_call h) f
routine_found h f es may k = by (routine_named h.program h.process f) refl k
  where
    by : (x : Option Found) → routine_named h.program h.process f ≡ x → AreArguments h (params_of x) es → FindsRoutine h.program h.process (may_call h) f
    by None is k = absurd k
    by (Some x) is k = record { found = x; is = is; allowed = inr may }

entry_found : (h : Here) (m e : Name) (es : Exprs) → may_call h ≡ true → AreArguments h (params_of (entry_named h.program m e)) es → FindsEntry h.program (may_call h) m e
entry_found h m e es may k = by (entry_named h.program m e) refl k
  where
    by : (x : Option Found) → entry_named h.program m e ≡ x → AreArguments h (params_of x) es → FindsEntry h.program (may_call h) m e
    by None is k = absurd k
    by (Some x) is k = record { found = x; is = is; allowed = may }

-- ---- expressions and statements

module _ (h : Here) where
  abbrev P : Called → Type 0
  P = Finds h.program h.process (may_call h)

  mutual
    pub expr_finds : (x : Expr) (s : Sort) → IsOf h s x → AllCalled P (expr_calls x)
    expr_finds (literal n) s k = tt
    expr_finds (truth b) s k = tt
    expr_finds (variable x) s k = tt
    expr_finds (element x i) s k = expr_finds i sort_is.Number k.1
    expr_finds (call f es) s k = (function_found h.program h.process (may_call h) f s k.0, exprs_find es (params_of (routine_named h.program h.process f)) k.1)
    expr_finds (minus e) s k = expr_finds e sort_is.Number k.1
    expr_finds (negation e) s k = expr_finds e sort_is.Truth k.1
    expr_finds (paren e) s k = expr_finds e s k
    expr_finds (row e r) s k = called_both P (expr_calls e) (row_calls r) (expr_finds e k.0 k.1) (row_finds r k.0 s k.2)

    exprs_find : (es : Exprs) (ps : Option (List Param)) → AreArguments h ps es → AllCalled P (exprs_calls es)
    exprs_find no_exprs ps k = tt
    exprs_find (exprs e es) None k = absurd k
    exprs_find (exprs e es) (Some []) k = absurd k
    exprs_find (exprs e es) (Some (p ∷ ps)) k = called_both P (expr_calls e) (exprs_calls es) (expr_finds e (scalar_sort p.kind) k.0) (exprs_find es (Some ps) k.1)

    row_finds : (r : Operands) (t s : Sort) → IsRow h t s r → AllCalled P (row_calls r)
    row_finds no_operands t s k = tt
    row_finds (operand op e r) t s k = called_both P (expr_calls e) (row_calls r) (expr_finds e k.0 k.1) (row_finds r _ s k.3)

  ref_finds : (r : Ref) (s : Sort) → IsTarget h s r → AllCalled P (ref_calls r)
  ref_finds (whole x) s k = tt
  ref_finds (part x i) s k = expr_finds i sort_is.Number k.2

mutual
  stmt_finds : (s : Stmt) (h : Here) → Fits h s → AllCalled (Finds h.program h.process (may_call h)) (stmt_calls s)
  stmt_finds (assign r e) h k = called_both (P h) (ref_calls r) (expr_calls e) (ref_finds h r k.0 k.1) (expr_finds h e k.0 k.2)
  stmt_finds (assign_entry r m e es) h k =
      called_both (P h) (ref_calls r) (calls_entry m e ∷ exprs_calls es) (ref_finds h r k.1.0 k.1.1) (entry_found h m e es k.0 k.2, exprs_find h es (params_of (entry_named h.program m e)) k.2)
  stmt_finds (assign_empty r x) h k = ref_finds h r sort_is.Truth k.0
  stmt_finds (perform f es) h k = (routine_found h f es k.0 k.2, exprs_find h es (params_of (routine_named h.program h.process f)) k.2)
  stmt_finds (perform_entry m e es) h k = (entry_found h m e es k.0 k.2, exprs_find h es (params_of (entry_named h.program m e)) k.2)
  stmt_finds (when e a) h k = called_both (P h) (expr_calls e) (stmts_calls a) (expr_finds h e sort_is.Truth k.0) (stmts_find a h k.1)
  stmt_finds (when_else e a b) h k =
      called_both (P h) (expr_calls e) (stmts_calls a ++ stmts_calls b) (expr_finds h e sort_is.Truth k.0) (called_both (P h) (stmts_calls a) (stmts_calls b) (stmts_find a h k.1) (stmts_find b h k.2))
  stmt_finds (loop i low high ss) h k = stmts_find ss (in_loop i h) k.1
  stmt_finds (exit_when e) h k = expr_finds h e sort_is.Truth k.1
  stmt_finds (get d r) h k = ref_finds h r sort_is.Number k.2
  stmt_finds (put d e) h k = expr_finds h e sort_is.Number k.2
  stmt_finds (wait x limit number) h k = tt
  stmt_finds (signal x) h k = tt
  stmt_finds (broadcast x) h k = tt
  stmt_finds (except n) h k = tt
  stmt_finds (assert e) h k = expr_finds h e sort_is.Truth k

  pub stmts_find : (ss : Stmts) (h : Here) → AllFit h ss → AllCalled (Finds h.program h.process (may_call h)) (stmts_calls ss)
  stmts_find no_stmts h k = tt
  stmts_find (stmts s ss) h k = called_both (P h) (stmt_calls s) (stmts_calls ss) (stmt_finds s h k.0) (stmts_find ss h k.1)

answers_find : (h : Here) (g : Program) (a : Option Answers) → AnswersFit g h a → AllCalled (Finds h.program h.process (may_call h)) (answers_calls a)
answers_find h g None k = tt
answers_find h g (Some a) k = expr_finds h a.value (scalar_sort a.kind) k.1

pub text_finds : TextsCallWhatIsFound
text_finds h body answers fit fits = record { body_finds = stmts_find body h fit; answers_find = answers_find h h.program answers fits }
