-- Levels of all routines and entries: functions of the program, then entries, then procedures of the program, then routines of processes.
use Rattle.std.specs.Prelude.{◌≡◌, ◌+◌, ◌<◌, ◌⊎◌, ℕ, Bool, true, false, cond, not, ◌∷◌, ◌++◌, Option, Some, None, IsSome, slice_get, option_map, is_some, count_by, Contains}
use Rattle.std.proofs.Common.{inl, inr, refl, sym, ◌∙◌, ap, subst, arith, ltb}
use Rattle.std.proofs.lemmas.Bool.{lt-ltb, ltb-true}
use Rattle.std.proofs.lemmas.List.Sums.{count_by-le-length}
use Rattle.std.proofs.lemmas.Option.{none-some, same_Some}
use Rattle.syntax_tree.specs.Plain.{Name, Answers, Expr, literal, truth, variable, element, call, minus, negation, paren, row, Exprs, no_exprs, exprs, Operands, no_operands, operand, Ref, whole, part, Stmt, assign, assign_entry, assign_empty, perform, perform_entry, when, when_else, loop, exit_when, get, put, wait, signal, broadcast, except, assert, Stmts, no_stmts, stmts, Routine, Monitor, Process, Program}
use Rattle.source_semantics.specs.Names.{named, routines, monitors, processes, monitor_number, routine_count}
use Rattle.source_semantics.specs.Run.{Home, of_program, of_process, of_monitor, or_else, entry_name, routine_named}
use Rattle.source_semantics.specs.Nesting.{ExprBelow, ExprsBelow, OperandsBelow, RefBelow, StmtBelow, StmtsBelow, AnswersBelow, Levels}
use Rattle.code_spec.specs.Layout.{Owner, by_program, by_process, by_monitor}
use Rattle.code_spec.specs.Numbering.{Text, routine_of, process_routines, entry_of, Called, calls_routine, calls_entry, called_text, expr_calls, exprs_calls, row_calls, ref_calls, stmt_calls, stmts_calls, answers_calls, routine_calls}
use Rattle.static_semantics.specs.Here.{in_routine}
use Rattle.static_semantics.specs.Statements.{may_call}
use Rattle.static_semantics.specs.WellFormed.{IsWellFormed, RoutineFits}
use Rattle.codegen_law.proofs.NameNumbers.{found_name, IsText, of_list, called_is_text}
use Rattle.codegen_law.specs.Ruled.{NamesApart}
use Rattle.codegen_law.specs.Numbered.{texts, CallsText, AreLevels}
use Rattle.codegen_law.proofs.NameLists.{count_lt}
use Rattle.codegen_law.proofs.NumberedLemmas.{text_listed, listed_text, texts_counted}
use Rattle.codegen_law.specs.Called.{AllCalled, FindsRoutine, Finds}
use Rattle.codegen_law.proofs.Finding.{called_both, called_one, text_finds}
use Rattle.codegen_law.proofs.Owners.{process_fits, first_process, program_fits, entry_fits, Listed, of_the_program, of_a_process, of_a_monitor, is_listed}

-- ---- routines that are called are of lower levels

abbrev pub IsLower : (Name → ℕ) → ℕ → Called → Type 0
IsLower level n (calls_routine f) = level f < n
IsLower level n (calls_entry m e) = Unit {0}

module _ (level : Name → ℕ) (n : ℕ) where
  mutual
    expr_lower : (x : Expr) → ExprBelow level n x → AllCalled (IsLower level n) (expr_calls x)
    expr_lower (literal v) h = tt
    expr_lower (truth b) h = tt
    expr_lower (variable x) h = tt
    expr_lower (element x e) h = expr_lower e h
    expr_lower (call f es) h = (h.0, exprs_lower es h.1)
    expr_lower (minus e) h = expr_lower e h
    expr_lower (negation e) h = expr_lower e h
    expr_lower (paren e) h = expr_lower e h
    expr_lower (row e r) h = called_both (IsLower level n) (expr_calls e) (row_calls r) (expr_lower e h.0) (row_lower r h.1)

    exprs_lower : (es : Exprs) → ExprsBelow level n es → AllCalled (IsLower level n) (exprs_calls es)
    exprs_lower no_exprs h = tt
    exprs_lower (exprs e es) h = called_both (IsLower level n) (expr_calls e) (exprs_calls es) (expr_lower e h.0) (exprs_lower es h.1)

    row_lower : (r : Operands) → OperandsBelow level n r → AllCalled (IsLower level n) (row_calls r)
    row_lower no_operands h = tt
    row_lower (operand op e r) h = called_both (IsLower level n) (expr_calls e) (row_calls r) (expr_lower e h.0) (row_lower r h.1)

  ref_lower : (r : Ref) → RefBelow level n r → AllCalled (IsLower level n) (ref_calls r)
  ref_lower (whole x) h = tt
  ref_lower (part x e) h = expr_lower e h

  mutual
    stmt_lower : (s : Stmt) → StmtBelow level n s → AllCalled (IsLower level n) (stmt_calls s)
    stmt_lower (assign r e) h = called_both (IsLower level n) (ref_calls r) (expr_calls e) (ref_lower r h.0) (expr_lower e h.1)
    stmt_lower (assign_entry r m e es) h = called_both (IsLower level n) (ref_calls r) (calls_entry m e ∷ exprs_calls es) (ref_lower r h.0) (tt, exprs_lower es h.1)
    stmt_lower (assign_empty r x) h = ref_lower r h
    stmt_lower (perform f es) h = (h.0, exprs_lower es h.1)
    stmt_lower (perform_entry m e es) h = (tt, exprs_lower es h)
    stmt_lower (when e a) h = called_both (IsLower level n) (expr_calls e) (stmts_calls a) (expr_lower e h.0) (stmts_lower a h.1)
    stmt_lower (when_else e a b) h =
        called_both (IsLower level n) (expr_calls e) (stmts_calls a ++ stmts_calls b) (expr_lower e h.0) (called_both (IsLower level n) (stmts_calls a) (stmts_calls b) (stmts_lower a h.1) (stmts_lower b h.2))
    stmt_lower (loop i low high ss) h = stmts_lower ss h
    stmt_lower (exit_when e) h = expr_lower e h
    stmt_lower (get d r) h = ref_lower r h
    stmt_lower (put d e) h = expr_lower e h
    stmt_lower (wait x limit number) h = tt
    stmt_lower (signal x) h = tt
    stmt_lower (broadcast x) h = tt
    stmt_lower (except c) h = tt
    stmt_lower (assert e) h = expr_lower e h

    stmts_lower : (ss : Stmts) → StmtsBelow level n ss → AllCalled (IsLower level n) (stmts_calls ss)
    stmts_lower no_stmts h = tt
    stmts_lower (stmts s ss) h = called_both (IsLower level n) (stmt_calls s) (stmts_calls ss) (stmt_lower s h.0) (stmts_lower ss h.1)

  answers_lower : (a : Option Answers) → AnswersBelow level n a → AllCalled (IsLower level n) (answers_calls a)
  answers_lower None h = tt
  answers_lower (Some a) h = expr_lower a.value h

  routine_lower : (r : Routine) → StmtsBelow level n r.body → AnswersBelow level n r.answers → AllCalled (IsLower level n) (routine_calls r)
  routine_lower r h k = called_both (IsLower level n) (stmts_calls r.body) (answers_calls r.answers) (stmts_lower r.body h) (answers_lower r.answers k)

-- ---- names that are found

some_answers : (a : Option Answers) → IsSome a → is_some a ≡ true
some_answers a h = h

-- what routines of the program come to
program_falls : (a b : Bool) (l m n : ℕ) → (b ≡ true) ⊎ (not a ≡ true) → l < m → l < n → cond b l (n + 1 + l) < cond a m (n + 1 + m)
program_falls true true l m n h lt few = lt
program_falls true false l m n h lt few = absurd (by h)
  where
    by : (false ≡ true) ⊎ (not true ≡ true) → ⊥
    by (inl e) = cc
    by (inr e) = cc
program_falls false true l m n h lt few = omega arith
program_falls false false l m n h lt few = omega arith

program_below : (b : Bool) (l n k : ℕ) → l < n → cond b l (n + 1 + l) < n + n + 1 + k
program_below true l n k few = omega arith
program_below false l n k few = omega arith

entry_above : (b : Bool) (l n : ℕ) → b ≡ true → l < n → cond b l (n + 1 + l) < n
entry_above true l n e few = few
entry_above false l n e few = absurd cc

entry_below : (a : Bool) (m n : ℕ) → not a ≡ true → n < cond a m (n + 1 + m)
entry_below true m n e = absurd cc
entry_below false m n e = omega arith

below_all : (n k : ℕ) → n < n + n + 1 + k
below_all n k = omega arith

module _ (g : Program) (form : IsWellFormed g) (names : NamesApart g) where
  -- levels for each process
  levels_of : (k : ℕ) → (level : Name → ℕ) × ((p : Process) → slice_get (processes g) k ≡ Some p → Levels g p level)
  levels_of k = by (slice_get (processes g) k) refl
    where
      by : (x : Option Process) → slice_get (processes g) k ≡ x → (level : Name → ℕ) × ((p : Process) → slice_get (processes g) k ≡ Some p → Levels g p level)
      by None is = (λ f. 0, λ p at. absurd (none-some p (sym is ∙ at)))
      by (Some q) is =
          let l = (process_fits g form names k q is).levels in
          (l.0, λ p at. subst (λ r. Levels g r l.0) (same_Some q p (sym is ∙ at)) l.1)

  abbrev level_at : ℕ → Name → ℕ
  level_at k = (levels_of k).0

  abbrev height : Owner → Routine → ℕ
  height by_program r = cond (is_some r.answers) (level_at 0 r.name) (routine_count g + 1 + level_at 0 r.name)
  height (by_monitor m) r = routine_count g
  height (by_process k) r = routine_count g + routine_count g + 1 + level_at k r.name

  abbrev raw : Text → ℕ
  raw t = height t.owner t.routine

  abbrev first : (process : Process) × (slice_get (processes g) 0 ≡ Some process)
  first = first_process g form names

  -- a routine of the program as the first process finds it
  program_found : (f : Name) (r : Routine) → named (λ k. k.name) f (routines g) ≡ Some r → routine_named g first.0 f ≡ Some (record { home = of_program; routine = r })
  program_found f r is =
      ap (λ y. or_else (option_map (λ k. record { home = of_process; routine = k }) y) (option_map (λ k. record { home = of_program; routine = k }) (named entry_name f (routines g)))) (names.apart 0 first.0 f r first.1 is)
      ∙ ap (λ y. option_map (λ k. record { home = of_program; routine = k }) y) is

  program_few : (f : Name) (r : Routine) → named (λ k. k.name) f (routines g) ≡ Some r → level_at 0 f < routine_count g
  program_few f r is = ((levels_of 0).1 first.0 first.1).few f (record { home = of_program; routine = r }) (program_found f r is)

  program_lower : (r : Routine) → named (λ k. k.name) r.name (routines g) ≡ Some r → AllCalled (IsLower (level_at 0) (level_at 0 r.name)) (routine_calls r)
  program_lower r is =
      let l = (levels_of 0).1 first.0 first.1 in
      routine_lower (level_at 0) (level_at 0 r.name) r (l.body r.name (record { home = of_program; routine = r }) (program_found r.name r is)) (l.answers r.name (record { home = of_program; routine = r }) (program_found r.name r is))

  own_lower : (k : ℕ) (p : Process) (r : Routine) → slice_get (processes g) k ≡ Some p → named (λ x. x.name) r.name p.routines ≡ Some r → AllCalled (IsLower (level_at k) (level_at k r.name)) (routine_calls r)
  own_lower k p r at is =
      let l = (levels_of k).1 p at in
      let found : routine_named g p r.name ≡ Some (record { home = of_process; routine = r }) =
      ap (λ y. or_else (option_map (λ j. record { home = of_process; routine = j }) y) (option_map (λ j. record { home = of_program; routine = j }) (named entry_name r.name (routines g)))) is in
      routine_lower (level_at k) (level_at k r.name) r (l.body r.name (record { home = of_process; routine = r }) found) (l.answers r.name (record { home = of_process; routine = r }) found)

  -- what a routine finds that fits
  finds : (p : Process) (home : Home) (r : Routine) → RoutineFits g p home r → AllCalled (Finds g p (may_call (in_routine g p home r))) (routine_calls r)
  finds p home r fits =
      let t = text_finds (in_routine g p home r) r.body r.answers fits.body fits.answers in
      called_both (Finds g p (may_call (in_routine g p home r))) (stmts_calls r.body) (answers_calls r.answers) t.body_finds t.answers_find

  -- the text that a call in a program's routine or an entry names
  shared_named : (f : Name) (u : Text) → routine_of by_program (routines g) f ≡ Some u → (u.owner ≡ by_program) × (named (λ k. k.name) f (routines g) ≡ Some u.routine)
  shared_named f u e = of_list by_program (routines g) f u e

  -- a call of a routine of the program finds a function, or stands where more may be called
  is_function : (may : Bool) (f : Name) (r : Routine) → named (λ k. k.name) f (routines g) ≡ Some r → FindsRoutine g first.0 may f → (is_some r.answers ≡ true) ⊎ (may ≡ true)
  is_function may f r is x = by x.allowed
    where
      same : record { home = of_program; routine = r } ≡ x.found
      same = same_Some (record { home = of_program; routine = r }) x.found (sym (program_found f r is) ∙ x.is)

      by : IsSome x.found.routine.answers ⊎ (may ≡ true) → (is_some r.answers ≡ true) ⊎ (may ≡ true)
      by (inl h) = inl (some_answers r.answers (subst (λ y. IsSome y.routine.answers) (sym same) h))
      by (inr h) = inr h

  height_of : (f : Name) (u : Text) → (u.owner ≡ by_program) × (named (λ k. k.name) f (routines g) ≡ Some u.routine) → raw u ≡ cond (is_some u.routine.answers) (level_at 0 f) (routine_count g + 1 + level_at 0 f)
  height_of f u h = ap (λ o. height o u.routine) h.0 ∙ ap (λ x. cond (is_some u.routine.answers) (level_at 0 x) (routine_count g + 1 + level_at 0 x)) (found_name f (routines g) u.routine h.1)

  entry_height : (m e : Name) (u : Text) (o : Owner) → called_text g o (calls_entry m e) ≡ Some u → raw u ≡ routine_count g
  entry_height m e u o is = by (named (λ k. k.name) m (monitors g)) is
    where
      by : (x : Option Monitor) → entry_of (monitor_number g m) x e ≡ Some u → raw u ≡ routine_count g
      by None h = absurd (none-some u h)
      by (Some d) h = ap (λ o. height o u.routine) (of_list (by_monitor (monitor_number g m)) d.entries e u h).0

  -- ---- each call falls

  from_program : (r : Routine) → named (λ k. k.name) r.name (routines g) ≡ Some r → (c : Called) (u : Text) → Contains (routine_calls r) c → called_text g by_program c ≡ Some u → raw u < height by_program r
  from_program r is (calls_routine f) u listed e =
      let x = called_one (Finds g first.0 (may_call (in_routine g first.0 of_program r))) (routine_calls r) (calls_routine f) (finds first.0 of_program r (program_fits g form names r is)) listed in
      let l = called_one (IsLower (level_at 0) (level_at 0 r.name)) (routine_calls r) (calls_routine f) (program_lower r is) listed in
      let n = shared_named f u e in
      subst (λ k. k < height by_program r) (sym (height_of f u n))
      (program_falls (is_some r.answers) (is_some u.routine.answers) (level_at 0 f) (level_at 0 r.name) (routine_count g) (is_function (may_call (in_routine g first.0 of_program r)) f u.routine n.1 x) l (program_few f u.routine n.1))
  from_program r is (calls_entry m en) u listed e =
      let x = called_one (Finds g first.0 (may_call (in_routine g first.0 of_program r))) (routine_calls r) (calls_entry m en) (finds first.0 of_program r (program_fits g form names r is)) listed in
      subst (λ k. k < height by_program r) (sym (entry_height m en u by_program e)) (entry_below (is_some r.answers) (level_at 0 r.name) (routine_count g) x.allowed)

  from_monitor : (m : ℕ) (d : Monitor) (r : Routine) → slice_get (monitors g) m ≡ Some d → named (λ x. x.name) r.name d.entries ≡ Some r → (c : Called) (u : Text) → Contains (routine_calls r) c → called_text g (by_monitor m) c ≡ Some u → raw u < routine_count g
  from_monitor m d r at is (calls_routine f) u listed e =
      let x = called_one (Finds g first.0 false) (routine_calls r) (calls_routine f) (finds first.0 (of_monitor m) r (entry_fits g form names m d r at is)) listed in
      let n = shared_named f u e in
      subst (λ k. k < routine_count g) (sym (height_of f u n)) (entry_above (is_some u.routine.answers) (level_at 0 f) (routine_count g) (only (is_function false f u.routine n.1 x)) (program_few f u.routine n.1))
    where
      only : (is_some u.routine.answers ≡ true) ⊎ (false ≡ true) → is_some u.routine.answers ≡ true
      only (inl h) = h
      only (inr h) = absurd cc
  from_monitor m d r at is (calls_entry k en) u listed e =
      let x = called_one (Finds g first.0 false) (routine_calls r) (calls_entry k en) (finds first.0 (of_monitor m) r (entry_fits g form names m d r at is)) listed in
      absurd (never x.allowed)
    where
      never : false ≡ true → ⊥
      never h = cc

  from_process : (k : ℕ) (p : Process) (r : Routine) → slice_get (processes g) k ≡ Some p → named (λ x. x.name) r.name p.routines ≡ Some r → (c : Called) (u : Text) → Contains (routine_calls r) c → called_text g (by_process k) c ≡ Some u → raw u < height (by_process k) r
  from_process k p r at is (calls_routine f) u listed e =
      by (named (λ x. x.name) f p.routines) refl (subst (λ q. or_else (routine_of (by_process k) (process_routines q) f) (routine_of by_program (routines g) f) ≡ Some u) at e)
    where
      lower : level_at k f < level_at k r.name
      lower = called_one (IsLower (level_at k) (level_at k r.name)) (routine_calls r) (calls_routine f) (own_lower k p r at is) listed

      by : (x : Option Routine) → named (λ y. y.name) f p.routines ≡ x → or_else (option_map (λ y. record { owner = by_process k; routine = y }) x) (routine_of by_program (routines g) f) ≡ Some u → raw u < height (by_process k) r
      by (Some q) found h =
          subst (λ v. raw v < height (by_process k) r) (same_Some (record { owner = by_process k; routine = q }) u h)
          (subst (λ y. routine_count g + routine_count g + 1 + level_at k y < routine_count g + routine_count g + 1 + level_at k r.name) (sym (found_name f p.routines q found)) (let l = lower in omega arith))
      by None found h =
          let n = shared_named f u h in
          subst (λ v. v < height (by_process k) r) (sym (height_of f u n)) (program_below (is_some u.routine.answers) (level_at 0 f) (routine_count g) (level_at k r.name) (program_few f u.routine n.1))
  from_process k p r at is (calls_entry m en) u listed e =
      subst (λ v. v < height (by_process k) r) (sym (entry_height m en u (by_process k) e)) (below_all (routine_count g) (level_at k r.name))

  raw_falls : (t u : Text) → IsText g t → CallsText g t u → raw u < raw t
  raw_falls t u is called = by t.owner (is_listed g t.owner t.routine is) called.means
    where
      by : (o : Owner) → Listed g t.routine o → called_text g o called.call ≡ Some u → raw u < height o t.routine
      by _ (of_the_program f) e = from_program t.routine f called.call u called.listed e
      by _ (of_a_process k p at f) e = from_process k p t.routine at f called.call u called.listed e
      by _ (of_a_monitor m d at f) e = from_monitor m d t.routine at f called.call u called.listed e

  -- ---- as few as there are routines

  -- how many texts are lower
  pub level : Text → ℕ
  level t = count_by (λ u. ltb (raw u) (raw t)) (texts g)

  not_below : (n : ℕ) → ltb n n ≡ false
  not_below n = by (ltb n n) refl
    where
      by : (b : Bool) → ltb n n ≡ b → b ≡ false
      by false e = refl
      by true e = let lt : n < n = ltb-true n n e in absurd (omega arith)

  pub are_levels : AreLevels g level
  unfolding level
  are_levels = record {
    falls = λ t u listed called.
        let is = listed_text g names.differ t listed in
        let lt : raw u < raw t = raw_falls t u is called in
        count_lt (λ v. ltb (raw v) (raw u)) (λ v. ltb (raw v) (raw t)) (λ v h. through (raw v) (raw u) (raw t) h lt) (texts g) u
        (text_listed g names.differ u (called_is_text g names.differ t.owner called.call u called.means)) (not_below (raw u)) (lt-ltb (raw u) (raw t) lt);
    few = λ t listed.
        let lt = count_lt (λ v. ltb (raw v) (raw t)) (λ v. true) (λ v h. refl) (texts g) t listed (not_below (raw t)) refl in
        let le = count_by-le-length (λ (v : Text). true) (texts g) in
        let all = texts_counted g in
        omega arith;
  }
    where
      through : (a b c : ℕ) → ltb a b ≡ true → b < c → ltb a c ≡ true
      through a b c h lt = let k : a < b = ltb-true a b h in lt-ltb a c (omega arith)
