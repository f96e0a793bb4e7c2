-- In a program, a token that opens a level beyond the last is found as a fault of nesting.
use Rattle.std.proofs.Common.{◌≡◌, List, length, true, false, inl, inr, Err, refl, ap, ◌∙◌, arith}
use Rattle.syntax_tree.specs.Placed.{RoutineKind, procedure, function}
use Rattle.syntax.specs.Words as w
use Rattle.syntax.specs.Words.{Word, Tok}
use Rattle.syntax.specs.ExprGrammar.{a, ◌▷◌, Each, Listed, IsConstant}
use Rattle.syntax.specs.Grammar.{MOST_LEVELS, kind_word, IsVar, IsRoutine, IsEntry, IsDecl}
use Rattle.syntax.specs.Opening.{Whole, OpensExpr, OpensStmts, OpensRoutine, OpensMonitor, OpensProcess, OpensDecl, OpensProg}
use Rattle.syntax_reading.specs.ExprReading.{nesting, same_word, is_at, expect, name, expr}
use Rattle.syntax_reading.specs.StmtReading.{stmts}
use Rattle.syntax_reading.specs.Reading.{vars, params, block, routine_kind, result, value, routine_decl, begins_routine, routines, begins_member, members, entry_decl, entries, monitor_decl, activation, numbers, handler, process_decl, decl, begins_decl, decls, prog, whole}
use Rattle.syntax_reading.proofs.AgainBasics.{step, if-true, if-false, expect_again, name_again}
use Rattle.syntax_reading.proofs.StmtAgain.{stmt_list}
use Rattle.syntax_reading.proofs.Again.{result_again, routine_kind_again, block_again, routine-shorter, routines_again, entry_again, entry-shorter, members_again, activation_again, numbers_again, routine_again, end-routine, decl_again, decl-begins, decl-shorter, routine-begins}
use Rattle.syntax_reading.proofs.AgainParts.{each-begins, a-begins, params_again, vars_again}
use Rattle.syntax_reading.proofs.OpenTails.{some-at, routine-at, decl-at}
use Rattle.syntax_reading.proofs.Shorter.{a-shorter}
use Rattle.syntax_reading.proofs.DeepBasics.{at-fault, Finds, many_finds}
use Rattle.syntax_reading.proofs.ExprDeep.{expr_finds}
use Rattle.syntax_reading.proofs.StmtDeep.{stmts_finds}

module _ {P : Type 0} where
  block_finds : Finds {P = P} (block MOST_LEVELS) (a w.BEGIN ▷ OpensStmts MOST_LEVELS)
  unfolding block
  block_finds ts us (vs, (q, b), o) = step (expect w.BEGIN ts) _ (q, vs) _ (expect_again w.BEGIN q ts vs refl b) (stmts_finds MOST_LEVELS vs us o)

  -- ---- routines

  value_finds : Finds {P = P} (value MOST_LEVELS function) (a w.RETURN ▷ OpensExpr MOST_LEVELS)
  unfolding value
  value_finds ts us (vs, (q, c), o) =
      step (expect w.RETURN ts) _ (q, vs) _ (expect_again w.RETURN q ts vs refl c) (at-fault (expr MOST_LEVELS vs) _ _ (expr_finds MOST_LEVELS vs us o))

  routine_finds : Finds {P = P} (routine_decl MOST_LEVELS) OpensRoutine
  unfolding routine_decl
  routine_finds ts us (inl (v8, (k, (v1, t1, (v2, (n, (q, t2)), (v3, t3, (v4, (ps, t4), (v5, t5, (v6, (s, t6), (v7, (vs, t7), t8)))))))), o)) =
      step (routine_kind ts) _ (k, v1) _ (routine_kind_again MOST_LEVELS k ts v1 t1)
      (step (name v1) _ ((n, q), v2) _ (name_again (n, q) v1 v2 t2)
      (step (params v2) _ (ps, v5) _ (params_again ps v2 v5 (v3, t3, (v4, t4, t5)))
      (step (result k v5) _ (s, v6) _ (result_again MOST_LEVELS k s v5 v6 t6)
      (step (vars v6) _ (vs, v7) _ (vars_again vs v6 v7 t7 (a-begins w.VAR w.BEGIN v7 v8 t8)) (at-fault (block MOST_LEVELS v7) _ _ (block_finds v7 us (v8, t8, o)))))))
  routine_finds ts us (inr (v8, (v1, t1, (v2, (n, (q, t2)), (v3, t3, (v4, (ps, t4), (v5, t5, (v6, (s, t6), (v7, (vs, t7), t8))))))), (v9, (ss, t9), (v10, t10, o)))) =
      step (routine_kind ts) _ (function, v1) _ (routine_kind_again MOST_LEVELS function ts v1 t1)
      (step (name v1) _ ((n, q), v2) _ (name_again (n, q) v1 v2 t2)
      (step (params v2) _ (ps, v5) _ (params_again ps v2 v5 (v3, t3, (v4, t4, t5)))
      (step (result function v5) _ (s, v6) _ (result_again MOST_LEVELS function s v5 v6 t6)
      (step (vars v6) _ (vs, v7) _ (vars_again vs v6 v7 t7 (a-begins w.VAR w.BEGIN v7 v8 t8))
      (step (block MOST_LEVELS v7) _ (stmt_list ss, v9) _ (block_again MOST_LEVELS ss v7 v9 (v8, t8, t9) w.RETURN v10 ((refl, refl, refl, refl), refl, t10))
      (at-fault (value MOST_LEVELS function v9) _ _ (value_finds v9 us (v10, t10, o))))))))

  -- it begins with its kind
  opens-kind : (ts us : List (Tok P)) → OpensRoutine ts us → (k : RoutineKind) × (vs : List (Tok P)) × a (kind_word k) ts vs
  opens-kind ts us (inl (vs, (k, (v1, took, more)), o)) = (k, v1, took)
  opens-kind ts us (inr (vs, (v1, took, more), o)) = (function, v1, took)

  kind-begins : (k : RoutineKind) (ts us : List (Tok P)) → a (kind_word k) ts us → begins_routine ts ≡ true
  kind-begins procedure ts us (q, took) = ap begins_routine took
  kind-begins function ts us (q, took) = ap begins_routine took

  kind-other : (v : Word) → same_word w.PROCEDURE v ≡ false → same_word w.FUNCTION v ≡ false → (k : RoutineKind) (ts us : List (Tok P)) → a (kind_word k) ts us → is_at v ts ≡ false
  kind-other v p f procedure ts us (q, took) = ap (is_at v) took ∙ p
  kind-other v p f function ts us (q, took) = ap (is_at v) took ∙ f

  opens-routine : (ts us : List (Tok P)) → OpensRoutine ts us → begins_routine ts ≡ true
  opens-routine ts us o = let (k, vs, took) = opens-kind ts us o in kind-begins k ts vs took

  opens-other : (v : Word) → same_word w.PROCEDURE v ≡ false → same_word w.FUNCTION v ≡ false → (ts us : List (Tok P)) → OpensRoutine ts us → is_at v ts ≡ false
  opens-other v p f ts us o = let (k, vs, took) = opens-kind ts us o in kind-other v p f k ts vs took

  routines_finds : Finds {P = P} (routines MOST_LEVELS) (Whole (Each IsRoutine) ▷ OpensRoutine)
  unfolding routines
  routines_finds ts us o =
      many_finds begins_routine (routine_decl MOST_LEVELS) IsRoutine (λ ts. Unit {0}) (λ ts us x took stop. (routine_again MOST_LEVELS) x ts us took) (end-routine MOST_LEVELS) (λ x ts us took. tt) OpensRoutine
      routine_finds opens-routine (λ ts us o. tt) (routine-shorter MOST_LEVELS) (λ ts us o. some-at ts us (routine-at ts us o)) ts us o

  -- ---- monitors

  entry_finds : Finds {P = P} (entry_decl MOST_LEVELS) (a w.ENTRY ▷ OpensRoutine)
  unfolding entry_decl
  entry_finds ts us (vs, (q, c), o) = step (expect w.ENTRY ts) _ (q, vs) _ (expect_again w.ENTRY q ts vs refl c) (routine_finds vs us o)

  entries_finds : Finds {P = P} (entries MOST_LEVELS) (Whole (Each IsEntry) ▷ a w.ENTRY ▷ OpensRoutine)
  unfolding entries
  entries_finds ts us o =
      many_finds (is_at w.ENTRY) (entry_decl MOST_LEVELS) IsEntry (λ ts. Unit {0}) (λ ts us x took stop. (entry_again MOST_LEVELS) x ts us took) (λ x ts us took. a-begins w.ENTRY w.ENTRY ts took.0 took.1)
      (λ x ts us took. tt) (a w.ENTRY ▷ OpensRoutine) entry_finds (λ ts us o. a-begins w.ENTRY w.ENTRY ts o.0 o.1) (λ ts us o. tt) (entry-shorter MOST_LEVELS)
      (λ ts us (vs, c, o). let one = a-shorter w.ENTRY ts vs c in omega (arith, one)) ts us o

  monitor_finds : Finds {P = P} (monitor_decl MOST_LEVELS) OpensMonitor
  unfolding monitor_decl
  monitor_finds ts us (v1, (q1, t1), (v2, (n, (q2, t2)), (v3, (ms, t3), (v4, (es, t4), (v5, (q5, t5), o))))) =
      let no_member = each-begins begins_member IsEntry (λ x ts us took. ap begins_member took.1.1) es v3 v4 t4 (ap begins_member t5) in
      step (expect w.MONITOR ts) _ (q1, v1) _ (expect_again w.MONITOR q1 ts v1 refl t1)
      (step (name v1) _ ((n, q2), v2) _ (name_again (n, q2) v1 v2 t2)
      (step (members v2) _ (ms, v3) _ (members_again MOST_LEVELS ms v2 v3 t3 no_member) (at-fault (entries MOST_LEVELS v3) _ _ (entries_finds v3 us (v4, (es, t4), (v5, (q5, t5), o))))))

  -- ---- processes

  handler_finds : Finds {P = P} (handler MOST_LEVELS) (a w.HANDLER ▷ a w.LEFT_PAREN ▷ Whole (Listed IsConstant) ▷ a w.RIGHT_PAREN ▷ OpensStmts MOST_LEVELS)
  unfolding handler
  handler_finds ts us (v1, (q, c), (v2, l, (v3, (ns, t), (v4, r, o)))) =
      if-true (is_at w.HANDLER ts) _ _ _ (ap (is_at w.HANDLER) c)
      (step (expect w.HANDLER ts) _ (q, v1) _ (expect_again w.HANDLER q ts v1 refl c)
      (step (numbers v1) _ (ns, v4) _ (numbers_again MOST_LEVELS ns v1 v4 (v2, l, (v3, t, r))) (at-fault (stmts MOST_LEVELS v4) _ _ (stmts_finds MOST_LEVELS v4 us o))))

  process_finds : Finds {P = P} (process_decl MOST_LEVELS) OpensProcess
  unfolding process_decl
  process_finds ts us (inl (v6, (v1, (q1, t1), (v2, (n, (q2, t2)), (v3, (q3, t3), (v4, (x, t4), (v5, (vs, t5), (rs, t6)))))), o)) =
      let no_var = each-begins (is_at w.VAR) IsRoutine (routine-begins MOST_LEVELS w.VAR refl refl) rs v5 v6 t6 (opens-other w.VAR refl refl v6 us o) in
      let no_first = each-begins (is_at w.FIRST) IsVar (λ x ts us took. ap (is_at w.FIRST) took.1.1) vs v4 v5 t5
      (each-begins (is_at w.FIRST) IsRoutine (routine-begins MOST_LEVELS w.FIRST refl refl) rs v5 v6 t6 (opens-other w.FIRST refl refl v6 us o)) in
      let no_deadline = each-begins (is_at w.DEADLINE) IsVar (λ x ts us took. ap (is_at w.DEADLINE) took.1.1) vs v4 v5 t5
      (each-begins (is_at w.DEADLINE) IsRoutine (routine-begins MOST_LEVELS w.DEADLINE refl refl) rs v5 v6 t6 (opens-other w.DEADLINE refl refl v6 us o)) in
      step (expect w.PROCESS ts) _ (q1, v1) _ (expect_again w.PROCESS q1 ts v1 refl t1)
      (step (name v1) _ ((n, q2), v2) _ (name_again (n, q2) v1 v2 t2)
      (step (expect w.COLON v2) _ (q3, v3) _ (expect_again w.COLON q3 v2 v3 refl t3)
      (step (activation v3) _ (x, v4) _ (activation_again MOST_LEVELS x v3 v4 t4 no_first no_deadline)
      (step (vars v4) _ (vs, v5) _ (vars_again vs v4 v5 t5 no_var) (at-fault (routines MOST_LEVELS v5) _ _ (routines_finds v5 us (v6, (rs, t6), o)))))))
  process_finds ts us (inr (inl (v6, (v1, (q1, t1), (v2, (n, (q2, t2)), (v3, (q3, t3), (v4, (x, t4), (v5, (vs, t5), (rs, t6)))))), (v7, (q7, t7), o)))) =
      let no_var = each-begins (is_at w.VAR) IsRoutine (routine-begins MOST_LEVELS w.VAR refl refl) rs v5 v6 t6 (ap (is_at w.VAR) t7) in
      let no_first = each-begins (is_at w.FIRST) IsVar (λ x ts us took. ap (is_at w.FIRST) took.1.1) vs v4 v5 t5
      (each-begins (is_at w.FIRST) IsRoutine (routine-begins MOST_LEVELS w.FIRST refl refl) rs v5 v6 t6 (ap (is_at w.FIRST) t7)) in
      let no_deadline = each-begins (is_at w.DEADLINE) IsVar (λ x ts us took. ap (is_at w.DEADLINE) took.1.1) vs v4 v5 t5
      (each-begins (is_at w.DEADLINE) IsRoutine (routine-begins MOST_LEVELS w.DEADLINE refl refl) rs v5 v6 t6 (ap (is_at w.DEADLINE) t7)) in
      step (expect w.PROCESS ts) _ (q1, v1) _ (expect_again w.PROCESS q1 ts v1 refl t1)
      (step (name v1) _ ((n, q2), v2) _ (name_again (n, q2) v1 v2 t2)
      (step (expect w.COLON v2) _ (q3, v3) _ (expect_again w.COLON q3 v2 v3 refl t3)
      (step (activation v3) _ (x, v4) _ (activation_again MOST_LEVELS x v3 v4 t4 no_first no_deadline)
      (step (vars v4) _ (vs, v5) _ (vars_again vs v4 v5 t5 no_var)
      (step (routines MOST_LEVELS v5) _ (rs, v6) _ (routines_again MOST_LEVELS rs v5 v6 t6 (ap begins_routine t7)) (at-fault (block MOST_LEVELS v6) _ _ (block_finds v6 us (v7, (q7, t7), o))))))))
  process_finds ts us (inr (inr (v6, (v1, (q1, t1), (v2, (n, (q2, t2)), (v3, (q3, t3), (v4, (x, t4), (v5, (vs, t5), (rs, t6)))))), (v7, (q7, t7), (v8, (ss, t8), (v9, t9, more)))))) =
      let no_var = each-begins (is_at w.VAR) IsRoutine (routine-begins MOST_LEVELS w.VAR refl refl) rs v5 v6 t6 (ap (is_at w.VAR) t7) in
      let no_first = each-begins (is_at w.FIRST) IsVar (λ x ts us took. ap (is_at w.FIRST) took.1.1) vs v4 v5 t5
      (each-begins (is_at w.FIRST) IsRoutine (routine-begins MOST_LEVELS w.FIRST refl refl) rs v5 v6 t6 (ap (is_at w.FIRST) t7)) in
      let no_deadline = each-begins (is_at w.DEADLINE) IsVar (λ x ts us took. ap (is_at w.DEADLINE) took.1.1) vs v4 v5 t5
      (each-begins (is_at w.DEADLINE) IsRoutine (routine-begins MOST_LEVELS w.DEADLINE refl refl) rs v5 v6 t6 (ap (is_at w.DEADLINE) t7)) in
      step (expect w.PROCESS ts) _ (q1, v1) _ (expect_again w.PROCESS q1 ts v1 refl t1)
      (step (name v1) _ ((n, q2), v2) _ (name_again (n, q2) v1 v2 t2)
      (step (expect w.COLON v2) _ (q3, v3) _ (expect_again w.COLON q3 v2 v3 refl t3)
      (step (activation v3) _ (x, v4) _ (activation_again MOST_LEVELS x v3 v4 t4 no_first no_deadline)
      (step (vars v4) _ (vs, v5) _ (vars_again vs v4 v5 t5 no_var)
      (step (routines MOST_LEVELS v5) _ (rs, v6) _ (routines_again MOST_LEVELS rs v5 v6 t6 (ap begins_routine t7))
      (step (block MOST_LEVELS v6) _ (stmt_list ss, v8) _ (block_again MOST_LEVELS ss v6 v8 (v7, (q7, t7), t8) w.HANDLER v9 ((refl, refl, refl, refl), refl, t9))
      (at-fault (handler MOST_LEVELS v8) _ _ (handler_finds v8 us (v9, t9, more)))))))))

  opens-process : (ts us : List (Tok P)) → OpensProcess ts us → (vs : List (Tok P)) × a w.PROCESS ts vs
  opens-process ts us (inl (vs, (v1, took, more), o)) = (v1, took)
  opens-process ts us (inr (inl (vs, (v1, took, more), o))) = (v1, took)
  opens-process ts us (inr (inr (vs, (v1, took, more), o))) = (v1, took)

  -- ---- declarations

  decl_finds : Finds {P = P} (decl MOST_LEVELS) OpensDecl
  unfolding decl
  decl_finds ts us (inl o) =
      if-false (is_at w.CONST ts) _ _ _ (opens-other w.CONST refl refl ts us o) (if-false (is_at w.DEVICE ts) _ _ _ (opens-other w.DEVICE refl refl ts us o)
      (if-false (is_at w.EVENT ts) _ _ _ (opens-other w.EVENT refl refl ts us o) (if-false (is_at w.MONITOR ts) _ _ _ (opens-other w.MONITOR refl refl ts us o)
      (if-false (is_at w.PROCESS ts) _ _ _ (opens-other w.PROCESS refl refl ts us o) (at-fault (routine_decl MOST_LEVELS ts) _ _ (routine_finds ts us o))))))
  decl_finds ts us (inr (inl (vs, (q, took), o))) =
      if-false (is_at w.CONST ts) _ _ _ (ap (is_at w.CONST) took) (if-false (is_at w.DEVICE ts) _ _ _ (ap (is_at w.DEVICE) took)
      (if-false (is_at w.EVENT ts) _ _ _ (ap (is_at w.EVENT) took) (if-true (is_at w.MONITOR ts) _ _ _ (ap (is_at w.MONITOR) took)
      (at-fault (monitor_decl MOST_LEVELS ts) _ _ (monitor_finds ts us (vs, (q, took), o))))))
  decl_finds ts us (inr (inr o)) =
      let at = opens-process ts us o in
      if-false (is_at w.CONST ts) _ _ _ (ap (is_at w.CONST) at.1.1) (if-false (is_at w.DEVICE ts) _ _ _ (ap (is_at w.DEVICE) at.1.1)
      (if-false (is_at w.EVENT ts) _ _ _ (ap (is_at w.EVENT) at.1.1) (if-false (is_at w.MONITOR ts) _ _ _ (ap (is_at w.MONITOR) at.1.1)
      (if-true (is_at w.PROCESS ts) _ _ _ (ap (is_at w.PROCESS) at.1.1) (at-fault (process_decl MOST_LEVELS ts) _ _ (process_finds ts us o))))))

  opens-decl : (ts us : List (Tok P)) → OpensDecl ts us → begins_decl ts ≡ true
  opens-decl ts us (inl o) = let (k, vs, took) = opens-kind ts us o in by-kind k ts vs took
    where
      by-kind : (k : RoutineKind) (ts us : List (Tok P)) → a (kind_word k) ts us → begins_decl ts ≡ true
      by-kind procedure ts us (q, took) = ap begins_decl took
      by-kind function ts us (q, took) = ap begins_decl took
  opens-decl ts us (inr (inl (vs, (q, took), o))) = ap begins_decl took
  opens-decl ts us (inr (inr o)) = ap begins_decl (opens-process ts us o).1.1

  decls_finds : Finds {P = P} (decls MOST_LEVELS) (Whole (Each IsDecl) ▷ OpensDecl)
  unfolding decls
  decls_finds ts us o =
      many_finds begins_decl (decl MOST_LEVELS) IsDecl (λ ts. Unit {0}) (λ ts us x took stop. (decl_again MOST_LEVELS) x ts us took) (decl-begins MOST_LEVELS) (λ x ts us took. tt) OpensDecl
      decl_finds opens-decl (λ ts us o. tt) (decl-shorter MOST_LEVELS) (λ ts us o. some-at ts us (decl-at ts us o)) ts us o

  prog_finds : Finds {P = P} (prog MOST_LEVELS) OpensProg
  unfolding prog
  prog_finds ts us (v1, (q1, t1), (v2, (n, (q2, t2)), o)) =
      step (expect w.PROGRAM ts) _ (q1, v1) _ (expect_again w.PROGRAM q1 ts v1 refl t1)
      (step (name v1) _ ((n, q2), v2) _ (name_again (n, q2) v1 v2 t2) (at-fault (decls MOST_LEVELS v2) _ _ (decls_finds v2 us o)))

  -- a token that opens a level beyond the last is at fault for nesting
  pub whole_finds : (ts us : List (Tok P)) → OpensProg ts us → whole MOST_LEVELS ts ≡ Err (nesting (length us))
  unfolding whole
  whole_finds ts us o = at-fault (prog MOST_LEVELS ts) _ _ (prog_finds ts us o)
