-- The monitors that statements use, where calls are told of by a test.
use Rattle.std.specs.Prelude.{◌≡◌, ◌++◌, ◌||◌, ℕ, Bool, false, List, [], ◌∷◌, Option, Some, None, nat_eq}
use Rattle.std.proofs.Common.{refl, sym, ap, ◌∙◌}
use Rattle.syntax_tree.specs.Plain.{Name, Param, Expr, literal, truth, variable, element, call, minus, negation, paren, row, Exprs, no_exprs, exprs, Operands, no_operands, operand, Ref, whole, part, Stmt, assign, assign_entry, assign_empty, perform, perform_entry, when, when_else, loop, exit_when, get, put, wait, signal, broadcast, except, assert, Stmts, no_stmts, stmts, Answers, Program}
use Rattle.source_semantics.specs.Names.{monitor_number}
use Rattle.source_semantics.specs.Ranks.{uses, uses_all, includes}
use Rattle.code_spec.specs.Layout.{Owner, Scope}
use Rattle.code_spec.specs.Numbering.{Text, Called, calls_entry, called_text, expr_calls, exprs_calls, row_calls, ref_calls, stmt_calls, stmts_calls, routine_in, entry_in}
use Rattle.code_spec.specs.Emits.{inner}
use Rattle.code_measures.specs.Sound.{SoundExpr, SoundRow, SoundArgs, SoundIndex, Sound, SoundAll}
use Rattle.sched_program.specs.Tasks.{passes_some, some_called}
use Rattle.built_tasks_law.proofs.Tests.{or_false, or_both, called_both}
use Rattle.built_tasks_law.proofs.Lists.{includes_both}

-- what calls use is what the test says: a function uses nothing, an entry its monitor
pub record Agrees (g : Program) (may : Text → Type 0) (j : ℕ) (calls : Name → List ℕ) (test : Text → Bool) (o : Owner) : Type 0 where
  pub functions : (f : Name) (t : Text) (a : Answers) → routine_in g o f ≡ Some t → may t → t.routine.answers ≡ Some a → test t ≡ false
  pub procedures : (f : Name) (t : Text) → routine_in g o f ≡ Some t → may t → t.routine.answers ≡ None → includes j (calls f) ≡ test t
  pub entries : (m e : Name) (t : Text) → entry_in g m e ≡ Some t → test t ≡ nat_eq (monitor_number g m) j

module _ (g : Program) (may : Text → Type 0) (j : ℕ) (calls : Name → List ℕ) (test : Text → Bool) where
  abbrev In : Scope → List Called → Bool
  In c cs = some_called test (called_text g c.owner) cs

  both : (c : Scope) (cs ds : List Called) → In c (cs ++ ds) ≡ In c cs || In c ds
  both c cs ds = called_both test (called_text g c.owner) cs ds

  neither : (c : Scope) (cs ds : List Called) → In c cs ≡ false → In c ds ≡ false → In c (cs ++ ds) ≡ false
  neither c cs ds a b = both c cs ds ∙ or_both a b

  -- what is behind the first
  behind : (c : Scope) (cs ds : List Called) (b : Bool) → In c cs ≡ false → In c ds ≡ b → In c (cs ++ ds) ≡ b
  behind c cs ds b e h = both c cs ds ∙ or_both e h

  -- a call that means a text, with arguments that call functions alone
  means : (o : Option Text) (t : Text) (b c : Bool) → o ≡ Some t → test t ≡ b → c ≡ false → passes_some test o || c ≡ b
  means o t b c is e none = or_both (ap (λ y. passes_some test y) is ∙ e) none ∙ or_false b

  -- expressions call functions alone
  mutual
    expr_none : (e : Expr) (c : Scope) → Agrees g may j calls test c.owner → SoundExpr g may c e → In c (expr_calls e) ≡ false
    expr_none (literal n) c a ok = refl
    expr_none (truth b) c a ok = refl
    expr_none (variable x) c a ok = refl
    expr_none (element x e) c a ok = expr_none e c a ok.0
    expr_none (call f es) c a ok = means (routine_in g c.owner f) ok.0 false (In c (exprs_calls es)) ok.2 (a.functions f ok.0 ok.1 ok.2 ok.3 ok.4) (args_none es ok.0.routine.params c a ok.5)
    expr_none (minus e) c a ok = expr_none e c a ok
    expr_none (negation e) c a ok = expr_none e c a ok
    expr_none (paren e) c a ok = expr_none e c a ok
    expr_none (row e r) c a ok = neither c (expr_calls e) (row_calls r) (expr_none e c a ok.0) (row_none r c a ok.1)

    row_none : (r : Operands) (c : Scope) → Agrees g may j calls test c.owner → SoundRow g may c r → In c (row_calls r) ≡ false
    row_none no_operands c a ok = refl
    row_none (operand op e r) c a ok = neither c (expr_calls e) (row_calls r) (expr_none e c a ok.0) (row_none r c a ok.1)

    args_none : (es : Exprs) (ps : List Param) (c : Scope) → Agrees g may j calls test c.owner → SoundArgs g may c es ps → In c (exprs_calls es) ≡ false
    args_none no_exprs ps c a ok = refl
    args_none (exprs e es) [] c a ok = absurd ok
    args_none (exprs e es) (p ∷ ps) c a ok = neither c (expr_calls e) (exprs_calls es) (expr_none e c a ok.0) (args_none es ps c a ok.1)

  ref_none : (r : Ref) (c : Scope) → Agrees g may j calls test c.owner → SoundIndex g may c r → In c (ref_calls r) ≡ false
  ref_none (whole x) c a ok = refl
  ref_none (part x e) c a ok = expr_none e c a ok

  mutual
    uses_same : (x : Stmt) (c : Scope) → Agrees g may j calls test c.owner → Sound g may c x → includes j (uses g calls x) ≡ In c (stmt_calls x)
    uses_same (assign r e) c a ok = sym (neither c (ref_calls r) (expr_calls e) (ref_none r c a ok.0) (expr_none e c a ok.2))
    uses_same (assign_entry r m e es) c a ok =
        or_false (nat_eq (monitor_number g m) j)
        ∙ sym (behind c (ref_calls r) (calls_entry m e ∷ exprs_calls es) (nat_eq (monitor_number g m) j) (ref_none r c a ok.0)
        (means (entry_in g m e) ok.2.0 (nat_eq (monitor_number g m) j) (In c (exprs_calls es)) ok.2.2 (a.entries m e ok.2.0 ok.2.2) (args_none es ok.2.0.routine.params c a ok.2.5)))
    uses_same (assign_empty r x) c a ok = sym (ref_none r c a ok.0)
    uses_same (perform f es) c a ok =
        sym (means (routine_in g c.owner f) ok.0 (includes j (calls f)) (In c (exprs_calls es)) ok.1 (sym (a.procedures f ok.0 ok.1 ok.2 ok.3)) (args_none es ok.0.routine.params c a ok.4))
    uses_same (perform_entry m e es) c a ok =
        or_false (nat_eq (monitor_number g m) j)
        ∙ sym (means (entry_in g m e) ok.0 (nat_eq (monitor_number g m) j) (In c (exprs_calls es)) ok.1 (a.entries m e ok.0 ok.1) (args_none es ok.0.routine.params c a ok.4))
    uses_same (when e x) c a ok =
        uses_all_same x c a ok.1 ∙ sym (behind c (expr_calls e) (stmts_calls x) (In c (stmts_calls x)) (expr_none e c a ok.0) refl)
    uses_same (when_else e x y) c a ok =
        includes_both j (uses_all g calls x) (uses_all g calls y)
        ∙ (or_both (uses_all_same x c a ok.1) (uses_all_same y c a ok.2)
        ∙ sym (behind c (expr_calls e) (stmts_calls x ++ stmts_calls y) (In c (stmts_calls x) || In c (stmts_calls y)) (expr_none e c a ok.0) (both c (stmts_calls x) (stmts_calls y))))
    uses_same (loop i low high ss) c a ok = uses_all_same ss (inner c i 0 0) a (ok.1 0 0)
    uses_same (exit_when e) c a ok = sym (expr_none e c a ok)
    uses_same (get d r) c a ok = sym (ref_none r c a ok.0)
    uses_same (put d e) c a ok = sym (expr_none e c a ok)
    uses_same (wait x limit number) c a ok = refl
    uses_same (signal x) c a ok = refl
    uses_same (broadcast x) c a ok = refl
    uses_same (except n) c a ok = refl
    uses_same (assert e) c a ok = sym (expr_none e c a ok)

    pub uses_all_same : (xs : Stmts) (c : Scope) → Agrees g may j calls test c.owner → SoundAll g may c xs → includes j (uses_all g calls xs) ≡ In c (stmts_calls xs)
    uses_all_same no_stmts c a ok = refl
    uses_all_same (stmts x xs) c a ok =
        includes_both j (uses g calls x) (uses_all g calls xs)
        ∙ (or_both (uses_same x c a ok.0) (uses_all_same xs c a ok.1) ∙ sym (both c (stmt_calls x) (stmts_calls xs)))
