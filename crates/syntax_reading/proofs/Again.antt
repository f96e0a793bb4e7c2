-- What a program's tokens are is read as that program.
use Rattle.std.proofs.Common.{◌≡◌, ℕ, List, [], ◌∷◌, Bool, true, false, Ok, Option, Some, None, refl, ap, sym, ◌∙◌, subst, arith}
use Rattle.syntax_tree.specs.Plain.{Name}
use Rattle.syntax_tree.specs.Placed as tree
use Rattle.syntax_tree.specs.Placed.{Constant, Scalar, Param, Expr, RoutineKind, procedure, function, Routine, Member, variable_member, condition_member, Monitor, Activation, periodic, at_event, Handler, Process, Decl, device, event, routine, monitor, process, Prog, Stmts}
use Rattle.syntax.specs.Words as w
use Rattle.syntax.specs.Words.{Word, named, Tok}
use Rattle.syntax.specs.ExprGrammar.{at, a, ◌▷◌, Each, Listed, SomeListed, IsConstant, IsExpr}
use Rattle.syntax.specs.StmtGrammar.{AreStmts}
use Rattle.syntax.specs.Grammar.{IsScalar, IsVar, IsParam, kind_word, IsResult, IsValueWithin, IsRoutineWithin, IsMember, IsEntryWithin, IsMonitorWithin, IsDeadline, IsFirst, IsActivation, IsHandlerWithin, IsProcessWithin, way_word, IsDeclWithin, IsProgWithin}
use Rattle.syntax_reading.specs.ExprReading.{same_word, is_at, expect, name, listed, constant, expr}
use Rattle.syntax_reading.specs.StmtReading.{stmts}
use Rattle.syntax_reading.specs.Reading.{scalar_type, var, vars, params, block, close, routine_kind, result, value, routine_decl, begins_routine, routines, begins_member, member, members, entry_decl, entries, monitor_decl, deadline, first, activation, numbers, handler, process_decl, const_decl, way, device_decl, event_decl, decl, begins_decl, decls, prog, whole}
use Rattle.syntax_reading.proofs.Basics.{IsName}
use Rattle.syntax_reading.proofs.Shorter.{Short, Shorter, at-shorter, a-shorter, nothing-short, weak, then-short, a-then, at-then, each-short, constant-shorter, expr-shorter, stmts-short}
use Rattle.syntax_reading.proofs.AgainBasics.{step, if-true, if-false, expect_again, name_again, stop-at, listed_again}
use Rattle.syntax_reading.proofs.ExprAgain.{constant_again, expr_again}
use Rattle.syntax_reading.proofs.StmtAgain.{stmt_list, from-stmts, EndsStmts, all_stmts_again}
use Rattle.syntax_reading.proofs.AgainParts.{Reads, all, each-begins, a-begins, scalar_again, scalar-shorter, var_again, var-shorter, vars_again, param-shorter, params_again}

module _ {P : Type 0} (depth : ℕ) where
  -- ---- blocks and closing names

  pub block_again : (ss : Stmts P) (ts us : List (Tok P)) → (a w.BEGIN ▷ AreStmts depth ss) ts us → (v : Word) (vs : List (Tok P)) → EndsStmts v us vs
      → block depth ts ≡ Ok (stmt_list ss, us)
  unfolding block
  block_again ss ts us (v1, (q, b), took) v vs ends =
      step (expect w.BEGIN ts) _ (q, v1) _ (expect_again w.BEGIN q ts v1 refl b) (all_stmts_again depth ss v1 us took v vs ends)

  abbrev IsClose : Name × P → List (Tok P) → List (Tok P) → Type 0
  IsClose n = a w.END ▷ IsName n

  close_again : Reads {P = P} close IsClose
  unfolding close
  close_again n ts us (v1, (q, e), took) = step (expect w.END ts) _ (q, v1) _ (expect_again w.END q ts v1 refl e) (name_again n v1 us took)

  end-ends : (ts us : List (Tok P)) → a w.END ts us → EndsStmts w.END ts us
  end-ends ts us took = ((refl, refl, refl, refl), refl, took)

  -- ---- routines

  pub routine_kind_again : (k : RoutineKind) (ts us : List (Tok P)) (took : a (kind_word k) ts us) → routine_kind ts ≡ Ok (k, us)
  unfolding routine_kind expect
  routine_kind_again procedure ts us (q, took) = ap routine_kind took
  routine_kind_again function ts us (q, took) = ap routine_kind took

  pub result_again : (k : RoutineKind) (s : Option (Scalar P)) (ts us : List (Tok P)) → IsResult k s ts us → result k ts ≡ Ok (s, us)
  unfolding result
  result_again procedure None ts us took = ap (λ t. Ok (None, t)) took
  result_again procedure (Some s) ts us took = absurd took
  result_again function None ts us took = absurd took
  result_again function (Some s) ts us (v1, (q, c), took) =
      step (expect w.RETURNS ts) _ (q, v1) _ (expect_again w.RETURNS q ts v1 refl c) (step (scalar_type v1) _ (s, us) _ (scalar_again s v1 us took) refl)

  value_again : (k : RoutineKind) (e : Option (Expr P)) (ts us vs : List (Tok P)) → IsValueWithin depth k e ts us → a w.END us vs → value depth k ts ≡ Ok (e, us)
  unfolding value
  value_again procedure None ts us vs took end = ap (λ t. Ok (None, t)) took
  value_again procedure (Some e) ts us vs took end = absurd took
  value_again function None ts us vs took end = absurd took
  value_again function (Some e) ts us vs (v1, (q, c), took) (r, end) =
      step (expect w.RETURN ts) _ (q, v1) _ (expect_again w.RETURN q ts v1 refl c)
      (step (expr depth v1) _ (e, us) _ (expr_again depth v1 us e took (stop-at 5 w.END r us vs (refl, refl, refl, refl) end)) refl)

  -- what ends the statements of a routine
  value-ends : (k : RoutineKind) (e : Option (Expr P)) (ts us vs : List (Tok P)) → IsValueWithin depth k e ts us → a w.END us vs → (v : Word) × (xs : List (Tok P)) × EndsStmts v ts xs
  value-ends procedure None ts us vs took end = (w.END, vs, end-ends ts vs (subst (λ t. a w.END t vs) (sym took) end))
  value-ends procedure (Some e) ts us vs took end = absurd took
  value-ends function None ts us vs took end = absurd took
  value-ends function (Some e) ts us vs (v1, c, took) end = (w.RETURN, v1, ((refl, refl, refl, refl), refl, c))

  pub routine_again : Reads {P = P} (routine_decl depth) (IsRoutineWithin depth)
  unfolding routine_decl
  routine_again x ts us (v1, k, (v2, n, (v3, l, (v4, ps, (v5, r, (v6, s, (v7, vs, (v8, b, (v9, ss, (v10, e, (v11, c, m))))))))))) =
      let ends = value-ends x.kind x.value v9 v10 v11 e c in
      step (routine_kind ts) _ (x.kind, v1) _ (routine_kind_again x.kind ts v1 k)
      (step (name v1) _ ((x.name, x.place), v2) _ (name_again (x.name, x.place) v1 v2 n)
      (step (params v2) _ (x.params, v5) _ (params_again x.params v2 v5 (v3, l, (v4, ps, r)))
      (step (result x.kind v5) _ (x.result, v6) _ (result_again x.kind x.result v5 v6 s)
      (step (vars v6) _ (x.vars, v7) _ (vars_again x.vars v6 v7 vs (a-begins w.VAR w.BEGIN v7 v8 b))
      (step (block depth v7) _ (stmt_list x.body, v9) _ (block_again x.body v7 v9 (v8, b, ss) ends.0 ends.1 ends.2)
      (step (value depth x.kind v9) _ (x.value, v10) _ (value_again x.kind x.value v9 v10 v11 e c)
      (step (close v10) _ ((x.close, x.close_place), us) _ (close_again (x.close, x.close_place) v10 us (v11, c, m))
      (ap (λ y. Ok (record x { body = y }, us)) (from-stmts x.body)))))))))

  result-short : (k : RoutineKind) (s : Option (Scalar P)) → Short (IsResult k s)
  result-short procedure None = nothing-short
  result-short procedure (Some s) = λ ts us took. absurd took
  result-short function None = λ ts us took. absurd took
  result-short function (Some s) = weak _ (a-then w.RETURNS (IsScalar s) (weak _ (scalar-shorter s)))

  value-short : (k : RoutineKind) (e : Option (Expr P)) → Short (IsValueWithin depth k e)
  value-short procedure None = nothing-short
  value-short procedure (Some e) = λ ts us took. absurd took
  value-short function None = λ ts us took. absurd took
  value-short function (Some e) = weak _ (a-then w.RETURN (IsExpr 5 depth e) (weak _ (expr-shorter 5 depth e)))

  commas-short : {A : Type 0} (R : A → List (Tok P) → List (Tok P) → Type 0) → ((x : A) → Shorter (R x)) → (xs : List A) → Short (Each (λ x. a w.COMMA ▷ R x) xs)
  commas-short R r = each-short (λ x. a w.COMMA ▷ R x) (λ x. weak _ (a-then w.COMMA (R x) (weak _ (r x))))

  params-short : (xs : List (Param P)) → Short (SomeListed IsParam xs)
  params-short [] = nothing-short
  params-short (x ∷ xs) = then-short (IsParam x) (Each (λ x. a w.COMMA ▷ IsParam x) xs) (weak _ (param-shorter x)) (commas-short IsParam param-shorter xs)

  pub routine-shorter : (x : Routine P) → Shorter (IsRoutineWithin depth x)
  routine-shorter x ts us (v1, k, (v2, n, (v3, l, (v4, ps, (v5, r, (v6, s, (v7, vs, (v8, b, (v9, ss, (v10, e, (v11, c, m))))))))))) =
      let e1 = a-shorter (kind_word x.kind) ts v1 k in let e2 = at-shorter (named x.name) x.place v1 v2 n in let e3 = a-shorter w.LEFT_PAREN v2 v3 l in
      let e4 = params-short x.params v3 v4 ps in let e5 = a-shorter w.RIGHT_PAREN v4 v5 r in let e6 = result-short x.kind x.result v5 v6 s in
      let e7 = each-short IsVar (λ v. weak _ (var-shorter v)) x.vars v6 v7 vs in let e8 = a-shorter w.BEGIN v7 v8 b in let e9 = stmts-short depth x.body v8 v9 ss in
      let e10 = value-short x.kind x.value v9 v10 e in let e11 = a-shorter w.END v10 v11 c in let e12 = at-shorter (named x.close) x.close_place v11 us m in
      omega (arith, e1, e2, e3, e4, e5, e6, e7, e8, e9, e10, e11, e12)

  pub end-routine : (x : Routine P) (ts us : List (Tok P)) → IsRoutineWithin depth x ts us → begins_routine ts ≡ true
  end-routine x ts us took = by-kind x.kind ts took.0 took.1
    where
      by-kind : (k : RoutineKind) (ts us : List (Tok P)) → a (kind_word k) ts us → begins_routine ts ≡ true
      by-kind procedure ts us (q, took) = ap begins_routine took
      by-kind function ts us (q, took) = ap begins_routine took

  pub routines_again : (xs : List (Routine P)) (ts us : List (Tok P)) → Each (IsRoutineWithin depth) xs ts us → begins_routine us ≡ false → routines depth ts ≡ Ok (xs, us)
  unfolding routines
  routines_again xs ts us took none = all begins_routine (routine_decl depth) (IsRoutineWithin depth) routine_again end-routine routine-shorter xs ts us took none

  -- ---- monitors

  member_again : Reads {P = P} member IsMember
  unfolding member
  member_again (variable_member v) ts us took = if-true (is_at w.VAR ts) _ _ _ (a-begins w.VAR w.VAR ts took.0 took.1) (step (var ts) _ (v, us) _ (var_again v ts us took) refl)
  member_again (condition_member n p) ts us (v1, (q, c), took) =
      if-false (is_at w.VAR ts) _ _ _ (ap (is_at w.VAR) c)
      (step (expect w.CONDITION ts) _ (q, v1) _ (expect_again w.CONDITION q ts v1 refl c) (step (name v1) _ ((n, p), us) _ (name_again (n, p) v1 us took) refl))

  member-shorter : (x : Member P) → Shorter (IsMember x)
  member-shorter (variable_member v) = var-shorter v
  member-shorter (condition_member n p) = a-then w.CONDITION (at (named n) p) (weak _ (at-shorter (named n) p))

  member-begins : (x : Member P) (ts us : List (Tok P)) → IsMember x ts us → begins_member ts ≡ true
  member-begins (variable_member v) ts us (v1, (q, c), took) = ap begins_member c
  member-begins (condition_member n p) ts us (v1, (q, c), took) = ap begins_member c

  pub entry_again : Reads {P = P} (entry_decl depth) (IsEntryWithin depth)
  unfolding entry_decl
  entry_again x ts us (v1, (q, c), took) = step (expect w.ENTRY ts) _ (q, v1) _ (expect_again w.ENTRY q ts v1 refl c) (routine_again x v1 us took)

  pub entry-shorter : (x : Routine P) → Shorter (IsEntryWithin depth x)
  entry-shorter x = a-then w.ENTRY (IsRoutineWithin depth x) (weak _ (routine-shorter x))

  pub members_again : (xs : List (Member P)) (ts us : List (Tok P)) → Each IsMember xs ts us → begins_member us ≡ false → members ts ≡ Ok (xs, us)
  unfolding members
  members_again xs ts us took none = all begins_member member IsMember member_again member-begins member-shorter xs ts us took none

  entries_again : (xs : List (Routine P)) (ts us : List (Tok P)) → Each (IsEntryWithin depth) xs ts us → is_at w.ENTRY us ≡ false → entries depth ts ≡ Ok (xs, us)
  unfolding entries
  entries_again xs ts us took none =
      all (is_at w.ENTRY) (entry_decl depth) (IsEntryWithin depth) entry_again (λ x ts us took. a-begins w.ENTRY w.ENTRY ts took.0 took.1) entry-shorter xs ts us took none

  monitor_again : Reads {P = P} (monitor_decl depth) (IsMonitorWithin depth)
  unfolding monitor_decl
  monitor_again x ts us (v1, (q1, t1), (v2, t2, (v3, t3, (v4, t4, (v5, (q5, t5), t6))))) =
      let no_member = each-begins begins_member (IsEntryWithin depth) (λ x ts us took. ap begins_member took.1.1) x.entries v3 v4 t4 (ap begins_member t5) in
      step (expect w.MONITOR ts) _ (q1, v1) _ (expect_again w.MONITOR q1 ts v1 refl t1)
      (step (name v1) _ ((x.name, x.place), v2) _ (name_again (x.name, x.place) v1 v2 t2)
      (step (members v2) _ (x.members, v3) _ (members_again x.members v2 v3 t3 no_member)
      (step (entries depth v3) _ (x.entries, v4) _ (entries_again x.entries v3 v4 t4 (ap (is_at w.ENTRY) t5))
      (step (close v4) _ ((x.close, x.close_place), us) _ (close_again (x.close, x.close_place) v4 us (v5, (q5, t5), t6)) refl))))

  monitor-shorter : (x : Monitor P) → Shorter (IsMonitorWithin depth x)
  monitor-shorter x ts us (v1, t1, (v2, t2, (v3, t3, (v4, t4, (v5, t5, t6))))) =
      let e1 = a-shorter w.MONITOR ts v1 t1 in let e2 = at-shorter (named x.name) x.place v1 v2 t2 in
      let e3 = each-short IsMember (λ m. weak _ (member-shorter m)) x.members v2 v3 t3 in
      let e4 = each-short (IsEntryWithin depth) (λ m. weak _ (entry-shorter m)) x.entries v3 v4 t4 in
      let e5 = a-shorter w.END v4 v5 t5 in let e6 = at-shorter (named x.close) x.close_place v5 us t6 in omega (arith, e1, e2, e3, e4, e5, e6)

  -- ---- processes

  first_again : (x : Option (Constant P)) (ts us : List (Tok P)) → IsFirst x ts us → is_at w.FIRST us ≡ false → first ts ≡ Ok (x, us)
  unfolding first
  first_again None ts us took none = if-false (is_at w.FIRST ts) _ _ _ (ap (is_at w.FIRST) took ∙ none) (ap (λ t. Ok (None, t)) took)
  first_again (Some c) ts us (v1, (q1, t1), (v2, (q2, t2), (v3, (q3, t3), t4))) none =
      if-true (is_at w.FIRST ts) _ _ _ (ap (is_at w.FIRST) t1) (
      step (expect w.FIRST ts) _ (q1, v1) _ (expect_again w.FIRST q1 ts v1 refl t1)
      (step (expect w.ACTIVATION v1) _ (q2, v2) _ (expect_again w.ACTIVATION q2 v1 v2 refl t2)
      (step (expect w.AT_TIME v2) _ (q3, v3) _ (expect_again w.AT_TIME q3 v2 v3 refl t3)
      (step (constant v3) _ (c, us) _ (constant_again c v3 us t4)
      refl))))

  deadline_again : (x : Option (Constant P)) (ts us : List (Tok P)) → IsDeadline x ts us → is_at w.DEADLINE us ≡ false → deadline ts ≡ Ok (x, us)
  unfolding deadline
  deadline_again None ts us took none = if-false (is_at w.DEADLINE ts) _ _ _ (ap (is_at w.DEADLINE) took ∙ none) (ap (λ t. Ok (None, t)) took)
  deadline_again (Some c) ts us (v1, (q1, t1), t2) none =
      if-true (is_at w.DEADLINE ts) _ _ _ (ap (is_at w.DEADLINE) t1)
      (step (expect w.DEADLINE ts) _ (q1, v1) _ (expect_again w.DEADLINE q1 ts v1 refl t1) (step (constant v1) _ (c, us) _ (constant_again c v1 us t2) refl))

  -- what begins a first activation begins no deadline
  first-other : (x : Option (Constant P)) (ts us : List (Tok P)) → IsFirst x ts us → is_at w.DEADLINE us ≡ false → is_at w.DEADLINE ts ≡ false
  first-other None ts us took none = ap (is_at w.DEADLINE) took ∙ none
  first-other (Some c) ts us (v1, (q1, t1), more) none = ap (is_at w.DEADLINE) t1

  pub activation_again : (x : Activation P) (ts us : List (Tok P)) → IsActivation x ts us → is_at w.FIRST us ≡ false → is_at w.DEADLINE us ≡ false → activation ts ≡ Ok (x, us)
  unfolding activation
  activation_again (periodic frame d f) ts us (v1, (q1, t1), (v2, (q2, t2), (v3, t3, (v4, t4, t5)))) none no_deadline =
      if-true (is_at w.PERIODIC ts) _ _ _ (ap (is_at w.PERIODIC) t1) (
      step (expect w.PERIODIC ts) _ (q1, v1) _ (expect_again w.PERIODIC q1 ts v1 refl t1)
      (step (expect w.FRAME v1) _ (q2, v2) _ (expect_again w.FRAME q2 v1 v2 refl t2)
      (step (constant v2) _ (frame, v3) _ (constant_again frame v2 v3 t3)
      (step (deadline v3) _ (d, v4) _ (deadline_again d v3 v4 t4 (first-other f v4 us t5 no_deadline))
      (step (first v4) _ (f, us) _ (first_again f v4 us t5 none)
      refl)))))
  activation_again (at_event n p frame d) ts us (v1, (q1, t1), (v2, t2, (v3, (q3, t3), (v4, t4, t5)))) none no_deadline =
      if-false (is_at w.PERIODIC ts) _ _ _ (ap (is_at w.PERIODIC) t1) (
      step (expect w.AT_EVENT ts) _ (q1, v1) _ (expect_again w.AT_EVENT q1 ts v1 refl t1)
      (step (name v1) _ ((n, p), v2) _ (name_again (n, p) v1 v2 t2)
      (step (expect w.FRAME v2) _ (q3, v3) _ (expect_again w.FRAME q3 v2 v3 refl t3)
      (step (constant v3) _ (frame, v4) _ (constant_again frame v3 v4 t4)
      (step (deadline v4) _ (d, us) _ (deadline_again d v4 us t5 no_deadline)
      refl)))))

  first-short : (x : Option (Constant P)) → Short (IsFirst x)
  first-short None = nothing-short
  first-short (Some c) = weak _ (a-then w.FIRST (a w.ACTIVATION ▷ a w.AT_TIME ▷ IsConstant c) (weak _ (a-then w.ACTIVATION (a w.AT_TIME ▷ IsConstant c) (weak _ (a-then w.AT_TIME (IsConstant c) (weak _ (constant-shorter c)))))))

  deadline-short : (x : Option (Constant P)) → Short (IsDeadline x)
  deadline-short None = nothing-short
  deadline-short (Some c) = weak _ (a-then w.DEADLINE (IsConstant c) (weak _ (constant-shorter c)))

  activation-shorter : (x : Activation P) → Shorter (IsActivation x)
  activation-shorter (periodic frame d f) =
      a-then w.PERIODIC (a w.FRAME ▷ IsConstant frame ▷ IsDeadline d ▷ IsFirst f) (weak _ (a-then w.FRAME (IsConstant frame ▷ IsDeadline d ▷ IsFirst f)
      (then-short (IsConstant frame) (IsDeadline d ▷ IsFirst f) (weak _ (constant-shorter frame)) (then-short (IsDeadline d) (IsFirst f) (deadline-short d) (first-short f)))))
  activation-shorter (at_event n p frame d) =
      a-then w.AT_EVENT (at (named n) p ▷ a w.FRAME ▷ IsConstant frame ▷ IsDeadline d) (weak _ (at-then (named n) p (a w.FRAME ▷ IsConstant frame ▷ IsDeadline d)
      (weak _ (a-then w.FRAME (IsConstant frame ▷ IsDeadline d) (then-short (IsConstant frame) (IsDeadline d) (weak _ (constant-shorter frame)) (deadline-short d))))))

  pub numbers_again : (xs : List (Constant P)) (ts us : List (Tok P)) → (a w.LEFT_PAREN ▷ Listed IsConstant xs ▷ a w.RIGHT_PAREN) ts us → numbers ts ≡ Ok (xs, us)
  unfolding numbers
  numbers_again xs ts us (v1, (q, l), (v2, took, (r, c))) =
      step (expect w.LEFT_PAREN ts) _ (q, v1) _ (expect_again w.LEFT_PAREN q ts v1 refl l)
      (step (listed constant v1) _ (xs, v2) _
      (listed_again constant IsConstant (λ ts. Unit {0}) (λ ts us x took stop. constant_again x ts us took) constant-shorter (λ ts us c. tt) xs v1 v2 took tt (ap (is_at w.COMMA) c))
      (step (expect w.RIGHT_PAREN v2) _ (r, us) _ (expect_again w.RIGHT_PAREN r v2 us refl c) refl))

  handler_again : (x : Option (Handler P)) (ts us vs : List (Tok P)) → IsHandlerWithin depth x ts us → a w.END us vs → handler depth ts ≡ Ok (x, us)
  unfolding handler
  handler_again None ts us vs took (q, end) = if-false (is_at w.HANDLER ts) _ _ _ (ap (is_at w.HANDLER) (took ∙ end)) (ap (λ t. Ok (None, t)) took)
  handler_again (Some h) ts us vs (v1, (q, c), (v2, l, (v3, ns, (v4, r, ss)))) (e, end) =
      if-true (is_at w.HANDLER ts) _ _ _ (ap (is_at w.HANDLER) c)
      (step (expect w.HANDLER ts) _ (q, v1) _ (expect_again w.HANDLER q ts v1 refl c)
      (step (numbers v1) _ (h.numbers, v4) _ (numbers_again h.numbers v1 v4 (v2, l, (v3, ns, r)))
      (step (stmts depth v4) _ (stmt_list h.body, us) _ (all_stmts_again depth h.body v4 us ss w.END vs (end-ends us vs (e, end)))
      (ap (λ y. Ok (Some (record { numbers = h.numbers; body = y }), us)) (from-stmts h.body)))))

  -- what ends the statements of a process
  handler-ends : (x : Option (Handler P)) (ts us vs : List (Tok P)) → IsHandlerWithin depth x ts us → a w.END us vs → (v : Word) × (xs : List (Tok P)) × EndsStmts v ts xs
  handler-ends None ts us vs took end = (w.END, vs, end-ends ts vs (subst (λ t. a w.END t vs) (sym took) end))
  handler-ends (Some h) ts us vs (v1, c, took) end = (w.HANDLER, v1, ((refl, refl, refl, refl), refl, c))

  handler-short : (x : Option (Handler P)) → Short (IsHandlerWithin depth x)
  handler-short None ts us took = nothing-short ts us took
  handler-short (Some h) ts us (v1, c, (v2, l, (v3, ns, (v4, r, ss)))) =
      let e1 = a-shorter w.HANDLER ts v1 c in let e2 = a-shorter w.LEFT_PAREN v1 v2 l in let e3 = numbers-short h.numbers v2 v3 ns in
      let e4 = a-shorter w.RIGHT_PAREN v3 v4 r in let e5 = stmts-short depth h.body v4 us ss in omega (arith, e1, e2, e3, e4, e5)
    where
      numbers-short : (xs : List (Constant P)) → Short (Listed IsConstant xs)
      numbers-short [] = λ ts us took. absurd took
      numbers-short (c ∷ cs) = then-short (IsConstant c) (Each (λ x. a w.COMMA ▷ IsConstant x) cs) (weak _ (constant-shorter c)) (commas-short IsConstant constant-shorter cs)

  pub routine-begins : (v : Word) → same_word w.PROCEDURE v ≡ false → same_word w.FUNCTION v ≡ false → (x : Routine P) (ts us : List (Tok P)) → IsRoutineWithin depth x ts us → is_at v ts ≡ false
  routine-begins v p f x ts us took = by-kind x.kind ts took.0 took.1
    where
      by-kind : (k : RoutineKind) (ts us : List (Tok P)) → a (kind_word k) ts us → is_at v ts ≡ false
      by-kind procedure ts us (q, took) = ap (is_at v) took ∙ p
      by-kind function ts us (q, took) = ap (is_at v) took ∙ f

  process_again : Reads {P = P} (process_decl depth) (IsProcessWithin depth)
  unfolding process_decl
  process_again x ts us (v1, (q1, t1), (v2, t2, (v3, (q3, t3), (v4, t4, (v5, t5, (v6, t6, (v7, t7, (v8, t8, (v9, t9, (v10, t10, t11)))))))))) =
      let at_begin = t7.1 in
      let no_var = each-begins (is_at w.VAR) (IsRoutineWithin depth) (routine-begins w.VAR refl refl) x.routines v5 v6 t6 (ap (is_at w.VAR) at_begin) in
      let no_first = each-begins (is_at w.FIRST) IsVar (λ x ts us took. ap (is_at w.FIRST) took.1.1) x.vars v4 v5 t5
      (each-begins (is_at w.FIRST) (IsRoutineWithin depth) (routine-begins w.FIRST refl refl) x.routines v5 v6 t6 (ap (is_at w.FIRST) at_begin)) in
      let no_deadline = each-begins (is_at w.DEADLINE) IsVar (λ x ts us took. ap (is_at w.DEADLINE) took.1.1) x.vars v4 v5 t5
      (each-begins (is_at w.DEADLINE) (IsRoutineWithin depth) (routine-begins w.DEADLINE refl refl) x.routines v5 v6 t6 (ap (is_at w.DEADLINE) at_begin)) in
      let ends = handler-ends x.handler v8 v9 v10 t9 t10 in
      step (expect w.PROCESS ts) _ (q1, v1) _ (expect_again w.PROCESS q1 ts v1 refl t1)
      (step (name v1) _ ((x.name, x.place), v2) _ (name_again (x.name, x.place) v1 v2 t2)
      (step (expect w.COLON v2) _ (q3, v3) _ (expect_again w.COLON q3 v2 v3 refl t3)
      (step (activation v3) _ (x.activation, v4) _ (activation_again x.activation v3 v4 t4 no_first no_deadline)
      (step (vars v4) _ (x.vars, v5) _ (vars_again x.vars v4 v5 t5 no_var)
      (step (routines depth v5) _ (x.routines, v6) _ (routines_again x.routines v5 v6 t6 (ap begins_routine at_begin))
      (step (block depth v6) _ (stmt_list x.body, v8) _ (block_again x.body v6 v8 (v7, t7, t8) ends.0 ends.1 ends.2)
      (step (handler depth v8) _ (x.handler, v9) _ (handler_again x.handler v8 v9 v10 t9 t10)
      (step (close v9) _ ((x.close, x.close_place), us) _ (close_again (x.close, x.close_place) v9 us (v10, t10, t11))
      (ap (λ y. Ok (record x { body = y }, us)) (from-stmts x.body))))))))))

  process-shorter : (x : Process P) → Shorter (IsProcessWithin depth x)
  process-shorter x ts us (v1, t1, (v2, t2, (v3, t3, (v4, t4, (v5, t5, (v6, t6, (v7, t7, (v8, t8, (v9, t9, (v10, t10, t11)))))))))) =
      let e1 = a-shorter w.PROCESS ts v1 t1 in let e2 = at-shorter (named x.name) x.place v1 v2 t2 in let e3 = a-shorter w.COLON v2 v3 t3 in
      let e4 = activation-shorter x.activation v3 v4 t4 in let e5 = each-short IsVar (λ v. weak _ (var-shorter v)) x.vars v4 v5 t5 in
      let e6 = each-short (IsRoutineWithin depth) (λ v. weak _ (routine-shorter v)) x.routines v5 v6 t6 in let e7 = a-shorter w.BEGIN v6 v7 t7 in
      let e8 = stmts-short depth x.body v7 v8 t8 in let e9 = handler-short x.handler v8 v9 t9 in let e10 = a-shorter w.END v9 v10 t10 in
      let e11 = at-shorter (named x.close) x.close_place v10 us t11 in omega (arith, e1, e2, e3, e4, e5, e6, e7, e8, e9, e10, e11)

  -- ---- declarations

  way_again : (o : Bool) (ts us : List (Tok P)) → a (way_word o) ts us → way ts ≡ Ok (o, us)
  unfolding way expect
  way_again true ts us (q, took) = ap way took
  way_again false ts us (q, took) = ap way took

  const_again : (n : Name) (p : P) (c : Constant P) (ts us : List (Tok P)) → IsDeclWithin depth (tree.constant n p c) ts us → const_decl ts ≡ Ok (tree.constant n p c, us)
  unfolding const_decl
  const_again n p c ts us (v1, (q1, t1), (v2, t2, (v3, (q3, t3), t4))) =
      step (expect w.CONST ts) _ (q1, v1) _ (expect_again w.CONST q1 ts v1 refl t1)
      (step (name v1) _ ((n, p), v2) _ (name_again (n, p) v1 v2 t2)
      (step (expect w.ASSIGN v2) _ (q3, v3) _ (expect_again w.ASSIGN q3 v2 v3 refl t3)
      (step (constant v3) _ (c, us) _ (constant_again c v3 us t4)
      refl)))

  device_again : (n : Name) (p : P) (o : Bool) (ts us : List (Tok P)) → IsDeclWithin depth (device n p o) ts us → device_decl ts ≡ Ok (device n p o, us)
  unfolding device_decl
  device_again n p o ts us (v1, (q1, t1), (v2, t2, (v3, (q3, t3), t4))) =
      step (expect w.DEVICE ts) _ (q1, v1) _ (expect_again w.DEVICE q1 ts v1 refl t1)
      (step (name v1) _ ((n, p), v2) _ (name_again (n, p) v1 v2 t2)
      (step (expect w.COLON v2) _ (q3, v3) _ (expect_again w.COLON q3 v2 v3 refl t3)
      (step (way v3) _ (o, us) _ (way_again o v3 us t4)
      refl)))

  event_again : (n : Name) (p : P) (ts us : List (Tok P)) → IsDeclWithin depth (event n p) ts us → event_decl ts ≡ Ok (event n p, us)
  unfolding event_decl
  event_again n p ts us (v1, (q1, t1), t2) =
      step (expect w.EVENT ts) _ (q1, v1) _ (expect_again w.EVENT q1 ts v1 refl t1)
      (step (name v1) _ ((n, p), us) _ (name_again (n, p) v1 us t2)
      refl)

  pub decl_again : Reads {P = P} (decl depth) (IsDeclWithin depth)
  unfolding decl
  decl_again (tree.constant n p c) ts us took = if-true (is_at w.CONST ts) _ _ _ (ap (is_at w.CONST) took.1.1) (const_again n p c ts us took)
  decl_again (device n p o) ts us took =
      if-false (is_at w.CONST ts) _ _ _ (ap (is_at w.CONST) took.1.1) (if-true (is_at w.DEVICE ts) _ _ _ (ap (is_at w.DEVICE) took.1.1) (device_again n p o ts us took))
  decl_again (event n p) ts us took =
      if-false (is_at w.CONST ts) _ _ _ (ap (is_at w.CONST) took.1.1) (if-false (is_at w.DEVICE ts) _ _ _ (ap (is_at w.DEVICE) took.1.1)
      (if-true (is_at w.EVENT ts) _ _ _ (ap (is_at w.EVENT) took.1.1) (event_again n p ts us took)))
  decl_again (monitor m) ts us took =
      if-false (is_at w.CONST ts) _ _ _ (ap (is_at w.CONST) took.1.1) (if-false (is_at w.DEVICE ts) _ _ _ (ap (is_at w.DEVICE) took.1.1)
      (if-false (is_at w.EVENT ts) _ _ _ (ap (is_at w.EVENT) took.1.1) (if-true (is_at w.MONITOR ts) _ _ _ (ap (is_at w.MONITOR) took.1.1)
      (step (monitor_decl depth ts) _ (m, us) _ (monitor_again m ts us took) refl))))
  decl_again (process m) ts us took =
      if-false (is_at w.CONST ts) _ _ _ (ap (is_at w.CONST) took.1.1) (if-false (is_at w.DEVICE ts) _ _ _ (ap (is_at w.DEVICE) took.1.1)
      (if-false (is_at w.EVENT ts) _ _ _ (ap (is_at w.EVENT) took.1.1) (if-false (is_at w.MONITOR ts) _ _ _ (ap (is_at w.MONITOR) took.1.1)
      (if-true (is_at w.PROCESS ts) _ _ _ (ap (is_at w.PROCESS) took.1.1) (step (process_decl depth ts) _ (m, us) _ (process_again m ts us took) refl)))))
  decl_again (routine r) ts us took =
      if-false (is_at w.CONST ts) _ _ _ (routine-begins w.CONST refl refl r ts us took) (if-false (is_at w.DEVICE ts) _ _ _ (routine-begins w.DEVICE refl refl r ts us took)
      (if-false (is_at w.EVENT ts) _ _ _ (routine-begins w.EVENT refl refl r ts us took) (if-false (is_at w.MONITOR ts) _ _ _ (routine-begins w.MONITOR refl refl r ts us took)
      (if-false (is_at w.PROCESS ts) _ _ _ (routine-begins w.PROCESS refl refl r ts us took) (step (routine_decl depth ts) _ (r, us) _ (routine_again r ts us took) refl)))))

  pub decl-begins : (x : Decl P) (ts us : List (Tok P)) → IsDeclWithin depth x ts us → begins_decl ts ≡ true
  decl-begins (tree.constant n p c) ts us took = ap begins_decl took.1.1
  decl-begins (device n p o) ts us took = ap begins_decl took.1.1
  decl-begins (event n p) ts us took = ap begins_decl took.1.1
  decl-begins (monitor m) ts us took = ap begins_decl took.1.1
  decl-begins (process m) ts us took = ap begins_decl took.1.1
  decl-begins (routine r) ts us took = by-kind r.kind ts took.0 took.1
    where
      by-kind : (k : RoutineKind) (ts us : List (Tok P)) → a (kind_word k) ts us → begins_decl ts ≡ true
      by-kind procedure ts us (q, took) = ap begins_decl took
      by-kind function ts us (q, took) = ap begins_decl took

  pub decl-shorter : (x : Decl P) → Shorter (IsDeclWithin depth x)
  decl-shorter (tree.constant n p c) = a-then w.CONST (at (named n) p ▷ a w.ASSIGN ▷ IsConstant c) (weak _ (at-then (named n) p (a w.ASSIGN ▷ IsConstant c) (weak _ (a-then w.ASSIGN (IsConstant c) (weak _ (constant-shorter c))))))
  decl-shorter (device n p o) = a-then w.DEVICE (at (named n) p ▷ a w.COLON ▷ a (way_word o)) (weak _ (at-then (named n) p (a w.COLON ▷ a (way_word o)) (weak _ (a-then w.COLON (a (way_word o)) (weak _ (a-shorter (way_word o)))))))
  decl-shorter (event n p) = a-then w.EVENT (at (named n) p) (weak _ (at-shorter (named n) p))
  decl-shorter (routine r) = routine-shorter r
  decl-shorter (monitor m) = monitor-shorter m
  decl-shorter (process m) = process-shorter m

  decls_again : (xs : List (Decl P)) (ts us : List (Tok P)) → Each (IsDeclWithin depth) xs ts us → begins_decl us ≡ false → decls depth ts ≡ Ok (xs, us)
  unfolding decls
  decls_again xs ts us took none = all begins_decl (decl depth) (IsDeclWithin depth) decl_again decl-begins decl-shorter xs ts us took none

  prog_again : Reads {P = P} (prog depth) (IsProgWithin depth)
  unfolding prog
  prog_again x ts us (v1, (q1, t1), (v2, t2, (v3, t3, (v4, (q4, t4), t5)))) =
      step (expect w.PROGRAM ts) _ (q1, v1) _ (expect_again w.PROGRAM q1 ts v1 refl t1)
      (step (name v1) _ ((x.name, x.place), v2) _ (name_again (x.name, x.place) v1 v2 t2)
      (step (decls depth v2) _ (x.decls, v3) _ (decls_again x.decls v2 v3 t3 (ap begins_decl t4))
      (step (close v3) _ ((x.close, x.close_place), us) _ (close_again (x.close, x.close_place) v3 us (v4, (q4, t4), t5)) refl)))

  -- all the tokens of a program are read as that program
  pub whole_again : (ts : List (Tok P)) (g : Prog P) → IsProgWithin depth g ts [] → whole depth ts ≡ Ok g
  unfolding whole
  whole_again ts g took = step (prog depth ts) _ (g, []) _ (prog_again g ts [] took) refl

  -- a list of tokens has at most one tree
  pub one_tree : (ts : List (Tok P)) (g h : Prog P) → IsProgWithin depth g ts [] → IsProgWithin depth h ts [] → g ≡ h
  one_tree ts g h left right = let same = sym (whole_again ts g left) ∙ whole_again ts h right in cc
