-- Where no routine reaches itself, calls come to the same at every greater depth: the value is always defined.
use Rattle.std.specs.Prelude.{◌≡◌, ℕ, zero, suc, ◌+◌, ◌<◌, ◌≤◌, cond, List, [], ◌∷◌, Option, Some, None, ℤ}
use Rattle.std.proofs.Common.{refl, ◌∙◌, ap, subst, arith}
use Rattle.std.proofs.Math.Path.{fun_ext}
use Rattle.syntax_tree.specs.Plain.{Name, Param, Expr, literal, truth, variable, element, call, minus, negation, paren, row, Exprs, no_exprs, exprs, Operands, no_operands, operand, Ref, whole, part, Stmt, assign, assign_entry, assign_empty, perform, perform_entry, when, when_else, loop, exit_when, get, put, wait, signal, broadcast, except, assert, Stmts, no_stmts, stmts, Answers, Process, Program}
use Rattle.base.specs.Words.{Answer, with_word, is_true}
use Rattle.source_semantics.specs.Names.{routine_count, monitor_number}
use Rattle.source_semantics.specs.Run.{Home, Memory, Target, Item, do_all, Run, goes, exits, fails, answers, stops, followed, Found, Calls, Site, routine_named, entry_named, value, row_value, arguments, Bound, bound, unbound, with_argument, added, answer_of, called, with_value, with_target, turns, entered, performed, run, run_all, within_caller, own_vars, with_own, enter_named, perform_named, enter_found, perform_found}
use Rattle.source_semantics.specs.Next.{answer_after, calls_to}
use Rattle.source_semantics.specs.Nesting.{ExprBelow, ExprsBelow, OperandsBelow, RefBelow, StmtBelow, StmtsBelow, AnswersBelow, Levels, Agree}

abbrev at_site : Program → Process → Home → Calls → Site
at_site g p h k = record { program = g; process = p; home = h; calls = k }

word_same : {a b : Answer} {f f' : ℤ → Answer} → a ≡ b → ((v : ℤ) → f v ≡ f' v) → with_word a f ≡ with_word b f'
word_same {a} {b} {f} {f'} p q = ap (λ x. with_word x f) p ∙ ap (λ x. with_word b x) (fun_ext q)

value_then : (m : Memory) {a b : Answer} {f f' : ℤ → Run} → a ≡ b → ((v : ℤ) → f v ≡ f' v) → with_value a m f ≡ with_value b m f'
value_then m {a} {b} {f} {f'} p q = ap (λ x. with_value x m f) p ∙ ap (λ x. with_value b m x) (fun_ext q)

argument_same : (g : Program) (q : Param) {a b : Answer} {f f' : ℤ → Bound} → a ≡ b → ((v : ℤ) → f v ≡ f' v) → with_argument g q a f ≡ with_argument g q b f'
argument_same g q {a} {b} {f} {f'} p e = ap (λ x. with_argument g q x f) p ∙ ap (λ x. with_argument g q b x) (fun_ext e)

follows_same : {r s : Run} {f f' : Memory → Run} (out : Memory → Run) (rest : List Item) → r ≡ s → ((m : Memory) → f m ≡ f' m) → followed r f out rest ≡ followed s f' out rest
follows_same {r} {s} {f} {f'} out rest p q = ap (λ x. followed x f out rest) p ∙ ap (λ x. followed s x out rest) (fun_ext q)

turns_same : {b b' : Memory → Run} (i : Name) (ss : Stmts) → ((m : Memory) → b m ≡ b' m) → (n : ℕ) (v : ℤ) (m : Memory) → turns b i ss n v m ≡ turns b' i ss n v m
turns_same {b} {b'} i ss e n v m = ap (λ x. turns x i ss n v m) (fun_ext e)

module _ (g : Program) (p : Process) (h : Home) (level : Name → ℕ) (n : ℕ) (k l : Calls) (agree : Agree g p level n k l) where
  called_same : (m : Memory) (f : Name) {args args' : List Param → Bound} (o : Option Found) → routine_named g p f ≡ o → level f < n → ((ps : List Param) → args ps ≡ args' ps)
      → called (at_site g p h k) m o args ≡ called (at_site g p h l) m o args'
  called_same m f None is below e = refl
  called_same m f {args} {args'} (Some r) is below e = ap (answer_of (at_site g p h k) m r) (e r.routine.params) ∙ answered (args' r.routine.params)
    where
      answered : (b : Bound) → answer_of (at_site g p h k) m r b ≡ answer_of (at_site g p h l) m r b
      answered (unbound x) = refl
      answered (bound vs) = agree.answer f r is below (with_own m (own_vars g r.routine vs))

  mutual
    value_same : (m : Memory) (e : Expr) → ExprBelow level n e → value (at_site g p h k) m e ≡ value (at_site g p h l) m e
    value_same m (literal v) b = refl
    value_same m (truth v) b = refl
    value_same m (variable x) b = refl
    value_same m (element x e) b = word_same (value_same m e b) (λ v. refl)
    value_same m (call f es) b = called_same m f (routine_named g p f) refl b.0 (λ ps. arguments_same m es b.1 ps)
    value_same m (minus e) b = word_same (value_same m e b) (λ v. refl)
    value_same m (negation e) b = word_same (value_same m e b) (λ v. refl)
    value_same m (paren e) b = value_same m e b
    value_same m (row e r) b = word_same (value_same m e b.0) (λ v. row_same m r b.1 v)

    row_same : (m : Memory) (r : Operands) → OperandsBelow level n r → (v : ℤ) → row_value (at_site g p h k) m r v ≡ row_value (at_site g p h l) m r v
    row_same m no_operands b v = refl
    row_same m (operand op e r) b v = word_same (value_same m e b.0) (λ w. word_same refl (λ u. row_same m r b.1 u))

    arguments_same : (m : Memory) (es : Exprs) → ExprsBelow level n es → (ps : List Param) → arguments (at_site g p h k) m es ps ≡ arguments (at_site g p h l) m es ps
    arguments_same m no_exprs b ps = refl
    arguments_same m (exprs e es) b [] = refl
    arguments_same m (exprs e es) b (q ∷ ps) = argument_same g q (value_same m e b.0) (λ v. ap (added g q v) (arguments_same m es b.1 ps))

  target_same : (m : Memory) (r : Ref) {f f' : Target → Run} → RefBelow level n r → ((t : Target) → f t ≡ f' t) → with_target (at_site g p h k) m r f ≡ with_target (at_site g p h l) m r f'
  target_same m (whole x) b e = e (record { name = x; index = None })
  target_same m (part x i) b e = value_then m (value_same m i b) (λ v. e (record { name = x; index = Some v }))

  entered_same : (m : Memory) (mon e : Name) (es : Exprs) (rest : List Item) → ExprsBelow level n es → enter_named (at_site g p h k) m mon e es rest ≡ enter_named (at_site g p h l) m mon e es rest
  entered_same m mon e es rest b =
      ap (λ args. enter_found (at_site g p h k) m (monitor_number g mon) (entry_named g mon e) args rest) (fun_ext (λ ps. arguments_same m es b ps))
      ∙ one_way (entry_named g mon e) (λ ps. arguments (at_site g p h l) m es ps)
    where
      bound_way : (f : Found) (x : Bound) → entered (at_site g p h k) m f (monitor_number g mon) x rest ≡ entered (at_site g p h l) m f (monitor_number g mon) x rest
      bound_way f (unbound x) = refl
      bound_way f (bound vs) = refl

      one_way : (o : Option Found) (args : List Param → Bound)
          → enter_found (at_site g p h k) m (monitor_number g mon) o args rest ≡ enter_found (at_site g p h l) m (monitor_number g mon) o args rest
      one_way None args = refl
      one_way (Some f) args = bound_way f (args f.routine.params)

  performed_same : (m : Memory) (f : Name) (es : Exprs) → level f < n → ExprsBelow level n es → perform_named (at_site g p h k) m f es ≡ perform_named (at_site g p h l) m f es
  performed_same m f es below b =
      ap (λ args. perform_found (at_site g p h k) m (routine_named g p f) args) (fun_ext (λ ps. arguments_same m es b ps))
      ∙ found (routine_named g p f) refl (λ ps. arguments (at_site g p h l) m es ps)
    where
      ran : (r : Found) → routine_named g p f ≡ Some r → (x : Bound) → performed (at_site g p h k) m r x ≡ performed (at_site g p h l) m r x
      ran r is (unbound x) = refl
      ran r is (bound vs) = ap (within_caller r.home m.own) (agree.run f r is below (with_own m (own_vars g r.routine vs)))

      found : (o : Option Found) → routine_named g p f ≡ o → (args : List Param → Bound)
          → perform_found (at_site g p h k) m o args ≡ perform_found (at_site g p h l) m o args
      found None is args = refl
      found (Some r) is args = ran r is (args r.routine.params)

  mutual
    run_same : (m : Memory) (s : Stmt) → StmtBelow level n s → run (at_site g p h k) m s ≡ run (at_site g p h l) m s
    run_same m (assign r e) b = target_same m r b.0 (λ t. value_then m (value_same m e b.1) (λ v. refl))
    run_same m (assign_entry r mon e es) b = target_same m r b.0 (λ t. entered_same m mon e es _ b.1)
    run_same m (assign_empty r x) b = target_same m r b (λ t. refl)
    run_same m (perform f es) b = performed_same m f es b.0 b.1
    run_same m (perform_entry mon e es) b = entered_same m mon e es [] b
    run_same m (when e a) b = value_then m (value_same m e b.0) (λ v. ap (λ x. cond (is_true v) x (goes m)) (all_same m a b.1))
    run_same m (when_else e a c) b = value_then m (value_same m e b.0) (λ v. ap (λ x. cond (is_true v) x (run_all (at_site g p h k) m c)) (all_same m a b.1) ∙ ap (λ x. cond (is_true v) (run_all (at_site g p h l) m a) x) (all_same m c b.2))
    run_same m (loop i low high ss) b = turns_same i ss (λ q. all_same q ss b) _ _ m
    run_same m (exit_when e) b = value_then m (value_same m e b) (λ v. refl)
    run_same m (get d r) b = target_same m r b (λ t. refl)
    run_same m (put d e) b = value_then m (value_same m e b) (λ v. refl)
    run_same m (wait x limit number) b = refl
    run_same m (signal x) b = refl
    run_same m (broadcast x) b = refl
    run_same m (except c) b = refl
    run_same m (assert e) b = value_then m (value_same m e b) (λ v. refl)

    all_same : (m : Memory) (ss : Stmts) → StmtsBelow level n ss → run_all (at_site g p h k) m ss ≡ run_all (at_site g p h l) m ss
    all_same m no_stmts b = refl
    all_same m (stmts s ss) b = follows_same (λ q. exits q) (do_all ss ∷ []) (run_same m s b.0) (λ q. all_same q ss b.1)

-- the answer of a function

answer_same : (g : Program) (p : Process) (h : Home) (level : Name → ℕ) (n : ℕ) (k l : Calls) → Agree g p level n k l → (a : Option Answers) → AnswersBelow level n a → (r : Run)
    → answer_after (at_site g p h k) a r ≡ answer_after (at_site g p h l) a r
answer_same g p h level n k l agree None b (goes m) = refl
answer_same g p h level n k l agree (Some a) b (goes m) = word_same (value_same g p h level n k l agree m a.value b) (λ v. refl)
answer_same g p h level n k l agree a b (fails x m) = refl
answer_same g p h level n k l agree a b (exits m) = refl
answer_same g p h level n k l agree a b (answers v m) = refl
answer_same g p h level n k l agree a b (stops x inside rest m) = refl

-- what is below a level is below a greater one

mutual
  expr_up : (level : Name → ℕ) (n q : ℕ) → n ≤ q → (e : Expr) → ExprBelow level n e → ExprBelow level q e
  expr_up level n q le (literal v) b = tt
  expr_up level n q le (truth v) b = tt
  expr_up level n q le (variable x) b = tt
  expr_up level n q le (element x e) b = expr_up level n q le e b
  expr_up level n q le (call f es) b = (omega (arith, b.0), exprs_up level n q le es b.1)
  expr_up level n q le (minus e) b = expr_up level n q le e b
  expr_up level n q le (negation e) b = expr_up level n q le e b
  expr_up level n q le (paren e) b = expr_up level n q le e b
  expr_up level n q le (row e r) b = (expr_up level n q le e b.0, operands_up level n q le r b.1)

  exprs_up : (level : Name → ℕ) (n q : ℕ) → n ≤ q → (es : Exprs) → ExprsBelow level n es → ExprsBelow level q es
  exprs_up level n q le no_exprs b = tt
  exprs_up level n q le (exprs e es) b = (expr_up level n q le e b.0, exprs_up level n q le es b.1)

  operands_up : (level : Name → ℕ) (n q : ℕ) → n ≤ q → (r : Operands) → OperandsBelow level n r → OperandsBelow level q r
  operands_up level n q le no_operands b = tt
  operands_up level n q le (operand op e r) b = (expr_up level n q le e b.0, operands_up level n q le r b.1)

ref_up : (level : Name → ℕ) (n q : ℕ) → n ≤ q → (r : Ref) → RefBelow level n r → RefBelow level q r
ref_up level n q le (whole x) b = tt
ref_up level n q le (part x e) b = expr_up level n q le e b

mutual
  stmt_up : (level : Name → ℕ) (n q : ℕ) → n ≤ q → (s : Stmt) → StmtBelow level n s → StmtBelow level q s
  stmt_up level n q le (assign r e) b = (ref_up level n q le r b.0, expr_up level n q le e b.1)
  stmt_up level n q le (assign_entry r mon e es) b = (ref_up level n q le r b.0, exprs_up level n q le es b.1)
  stmt_up level n q le (assign_empty r x) b = ref_up level n q le r b
  stmt_up level n q le (perform f es) b = (omega (arith, b.0), exprs_up level n q le es b.1)
  stmt_up level n q le (perform_entry mon e es) b = exprs_up level n q le es b
  stmt_up level n q le (when e a) b = (expr_up level n q le e b.0, stmts_up level n q le a b.1)
  stmt_up level n q le (when_else e a c) b = (expr_up level n q le e b.0, stmts_up level n q le a b.1, stmts_up level n q le c b.2)
  stmt_up level n q le (loop i low high ss) b = stmts_up level n q le ss b
  stmt_up level n q le (exit_when e) b = expr_up level n q le e b
  stmt_up level n q le (get d r) b = ref_up level n q le r b
  stmt_up level n q le (put d e) b = expr_up level n q le e b
  stmt_up level n q le (wait x limit number) b = tt
  stmt_up level n q le (signal x) b = tt
  stmt_up level n q le (broadcast x) b = tt
  stmt_up level n q le (except c) b = tt
  stmt_up level n q le (assert e) b = expr_up level n q le e b

  stmts_up : (level : Name → ℕ) (n q : ℕ) → n ≤ q → (ss : Stmts) → StmtsBelow level n ss → StmtsBelow level q ss
  stmts_up level n q le no_stmts b = tt
  stmts_up level n q le (stmts s ss) b = (stmt_up level n q le s b.0, stmts_up level n q le ss b.1)

answers_up : (level : Name → ℕ) (n q : ℕ) → n ≤ q → (a : Option Answers) → AnswersBelow level n a → AnswersBelow level q a
answers_up level n q le None b = tt
answers_up level n q le (Some a) b = expr_up level n q le a.value b

one_more : (g : Program) (p : Process) (level : Name → ℕ) → Levels g p level → (n q : ℕ) → Agree g p level n (calls_to g p n) (calls_to g p q)
    → Agree g p level (suc n) (calls_to g p (suc n)) (calls_to g p (suc q))
unfolding calls_to
one_more g p level ok n q agree = record {
  answer = λ f r is below m.
      let le : level f ≤ n = omega arith in
      ap (answer_after (at_site g p r.home (calls_to g p n)) r.routine.answers)
      (all_same g p r.home level n (calls_to g p n) (calls_to g p q) agree m r.routine.body (stmts_up level (level f) n le r.routine.body (ok.body f r is)))
      ∙ answer_same g p r.home level n (calls_to g p n) (calls_to g p q) agree r.routine.answers (answers_up level (level f) n le r.routine.answers (ok.answers f r is)) _;
  run = λ f r is below m.
      all_same g p r.home level n (calls_to g p n) (calls_to g p q) agree m r.routine.body (stmts_up level (level f) n (omega arith) r.routine.body (ok.body f r is));
}

-- calls of routines below a level come to the same at every greater depth
same_deeper : (g : Program) (p : Process) (level : Name → ℕ) → Levels g p level → (n q : ℕ) → Agree g p level n (calls_to g p n) (calls_to g p (n + q))
same_deeper g p level ok zero q = record { answer = λ f r is below m. absurd (omega arith); run = λ f r is below m. absurd (omega arith) }
same_deeper g p level ok (suc n) q = subst (λ d. Agree g p level (suc n) (calls_to g p (suc n)) (calls_to g p d)) (add_suc n q) (one_more g p level ok n (n + q) (same_deeper g p level ok n q))
  where
    add_suc : (a b : ℕ) → suc (a + b) ≡ suc a + b
    add_suc a b = omega arith

-- A value does not depend on the depth, once that is the number of routines.
pub always_defined : (g : Program) (p : Process) (level : Name → ℕ) → Levels g p level → (q : ℕ) → Agree g p level (routine_count g) (calls_to g p (routine_count g)) (calls_to g p (routine_count g + q))
always_defined g p level ok q = same_deeper g p level ok (routine_count g) q
