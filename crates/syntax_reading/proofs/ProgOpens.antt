-- Where a fault of nesting comes from in a program.
use Rattle.std.proofs.Common.{◌≡◌, ℕ, List, [], ◌∷◌, inl, inr, Err, refl, subst}
use Rattle.syntax_tree.specs.Placed.{RoutineKind, procedure, function, stmts_of}
use Rattle.syntax.specs.Words as w
use Rattle.syntax.specs.Words.{Tok}
use Rattle.syntax.specs.ExprGrammar.{a, ◌▷◌, Each, Listed, IsConstant}
use Rattle.syntax.specs.Grammar.{MOST_LEVELS, IsRoutine, IsEntry, IsDecl}
use Rattle.syntax.specs.Opening.{Whole, OpensExpr, OpensStmts, RoutineFront, OpensRoutine, OpensMonitor, ProcessFront, OpensProcess, OpensDecl, OpensProg}
use Rattle.syntax_reading.specs.ExprReading.{nesting, is_at, listed, constant, expr}
use Rattle.syntax_reading.specs.StmtReading.{stmts}
use Rattle.syntax_reading.specs.Reading.{range, scalar_type, kind, var, vars, param, params, block, close, routine_kind, result, value, routine_decl, begins_routine, routines, begins_member, member, members, entry_decl, entries, monitor_decl, deadline, first, activation, numbers, handler, process_decl, const_decl, way, device_decl, event_decl, decl, begins_decl, decls, prog, if_last, whole}
use Rattle.syntax_reading.proofs.Basics.{by_if, a_sound}
use Rattle.syntax_reading.proofs.Sound.{params_sound, vars_sound, block_sound, kind_word_sound, result_sound, routine_sound, members_sound, entry_sound, activation_sound, routines_sound, numbers_sound, decl_sound}
use Rattle.syntax_reading.proofs.OpenBasics.{by_step, past, no_fault, Reaches, Opens, Never, name_never, past_word, past_name, many_never, listed_never, in_parens_never, many_opens}
use Rattle.syntax_reading.proofs.ExprOpens.{constant_never, expr_opens}
use Rattle.syntax_reading.proofs.StmtOpens.{past_constant, name-read, stmts_opens}

module _ {P : Type 0} where
  -- ---- types, variables and parameters

  range_never : Never {P = P} range
  unfolding range
  range_never ts n e =
      let l = past_constant ts _ n e in
      let c = past_word w.RANGE l.0.1 _ n l.2 in
      let h = past_constant c.0.1 _ n c.2 in
      no_fault _ _ h.2

  scalar_never : Never {P = P} scalar_type
  unfolding scalar_type
  scalar_never ts n e =
      by_if (is_at w.INT ts) _ _ _ (λ is e. let c = past_word w.INT ts _ n e in no_fault _ _ c.2) (λ is e.
      by_if (is_at w.BOOLEAN ts) _ _ _ (λ is e. let c = past_word w.BOOLEAN ts _ n e in no_fault _ _ c.2)
      (λ is e. let r = past (range ts) _ (nesting n) (range_never ts n) e in no_fault _ _ r.2) e) e

  kind_never : Never {P = P} kind
  unfolding kind
  kind_never ts n e =
      by_if (is_at w.ARRAY ts) _ _ _
      (λ is e.
      let c = past_word w.ARRAY ts _ n e in
      let r = past (range c.0.1) _ (nesting n) (range_never c.0.1 n) c.2 in
      let o = past_word w.OF r.0.1 _ n r.2 in
      let s = past (scalar_type o.0.1) _ (nesting n) (scalar_never o.0.1 n) o.2 in
      no_fault _ _ s.2)
      (λ is e. let s = past (scalar_type ts) _ (nesting n) (scalar_never ts n) e in no_fault _ _ s.2) e

  var_never : Never {P = P} var
  unfolding var
  var_never ts n e =
      let c = past_word w.VAR ts _ n e in
      let m = past_name c.0.1 _ n c.2 in
      let d = past_word w.COLON m.0.1 _ n m.2 in
      let k = past (kind d.0.1) _ (nesting n) (kind_never d.0.1 n) d.2 in
      no_fault _ _ k.2

  vars_never : Never {P = P} vars
  unfolding vars
  vars_never ts n e = many_never var var_never (is_at w.VAR) ts n e

  param_never : Never {P = P} param
  unfolding param
  param_never ts n e =
      let m = past_name ts _ n e in
      let c = past_word w.COLON m.0.1 _ n m.2 in
      let s = past (scalar_type c.0.1) _ (nesting n) (scalar_never c.0.1 n) c.2 in
      no_fault _ _ s.2

  params_never : Never {P = P} params
  unfolding params
  params_never ts n e = in_parens_never param param_never ts n e

  block_opens : Opens {P = P} (block MOST_LEVELS) (a w.BEGIN ▷ OpensStmts MOST_LEVELS)
  unfolding block
  block_opens ts n e =
      let c = past_word w.BEGIN ts _ n e in
      let r = stmts_opens MOST_LEVELS c.0.1 n c.2 in
      (r.0, (c.0.1, a_sound w.BEGIN ts c.0.1 c.0.0 c.1, r.1), r.2)

  close_never : Never {P = P} close
  unfolding close
  close_never ts n e = let c = past_word w.END ts _ n e in name_never c.0.1 n c.2

  -- ---- routines

  routine_kind_never : Never {P = P} routine_kind
  unfolding routine_kind
  routine_kind_never ts n e =
      by_if (is_at w.PROCEDURE ts) _ _ _ (λ is e. let c = past_word w.PROCEDURE ts _ n e in no_fault _ _ c.2)
      (λ is e. let c = past_word w.FUNCTION ts _ n e in no_fault _ _ c.2) e

  result_never : (k : RoutineKind) → Never {P = P} (result k)
  unfolding result
  result_never procedure ts n e = no_fault _ _ e
  result_never function ts n e =
      let c = past_word w.RETURNS ts _ n e in
      let s = past (scalar_type c.0.1) _ (nesting n) (scalar_never c.0.1 n) c.2 in
      no_fault _ _ s.2

  value_opens : (k : RoutineKind) (ts : List (Tok P)) (n : ℕ) → value MOST_LEVELS k ts ≡ Err (nesting n) → (k ≡ function) × Reaches (a w.RETURN ▷ OpensExpr MOST_LEVELS) ts n
  unfolding value
  value_opens procedure ts n e = absurd (no_fault _ _ e)
  value_opens function ts n e =
      let c = past_word w.RETURN ts _ n e in
      by_step (expr MOST_LEVELS c.0.1) _ (nesting n)
      (λ bad.
      let r = expr_opens MOST_LEVELS c.0.1 n bad in
      (refl, (r.0, (c.0.1, a_sound w.RETURN ts c.0.1 c.0.0 c.1, r.1), r.2)))
      (λ x good e. absurd (no_fault _ _ e)) c.2

  routine_opens : Opens {P = P} (routine_decl MOST_LEVELS) OpensRoutine
  unfolding routine_decl
  routine_opens ts n e =
      let k = past (routine_kind ts) _ (nesting n) (routine_kind_never ts n) e in
      let m = past_name k.0.1 _ n k.2 in
      let p = past (params m.0.1) _ (nesting n) (params_never m.0.1 n) m.2 in
      let r = past (result k.0.0 p.0.1) _ (nesting n) (result_never k.0.0 p.0.1 n) p.2 in
      let v = past (vars r.0.1) _ (nesting n) (vars_never r.0.1 n) r.2 in
      let (p1, left, (p2, ps, right)) = params_sound m.0.1 p.0.1 p.0.0 p.1 in
      let front = λ (b1 : List (Tok P)) (begin : a w.BEGIN v.0.1 b1).
      let named_read = name-read k.0.1 m.0.1 m.0.0 m.1 in
      let result_read = result_sound k.0.0 p.0.1 r.0.1 r.0.0 r.1 in
      let vars_read = vars_sound r.0.1 v.0.1 v.0.0 v.1 in
      let it : RoutineFront k.0.0 ts b1 = (
        k.0.1,
        kind_word_sound ts k.0.1 k.0.0 k.1,
        (m.0.1, named_read, (p1, left, (p2, (p.0.0, ps), (p.0.1, right, (r.0.1, (r.0.0, result_read), (v.0.1, (v.0.0, vars_read), begin)))))),
      ) in
      it in
      by_step (block MOST_LEVELS v.0.1) _ (nesting n)
      (λ bad. let (us, (b1, begin, o), is) = block_opens v.0.1 n bad in (us, inl (b1, (k.0.0, front b1 begin), o), is))
      (λ b good e.
      let (b1, begin, ss) = block_sound v.0.1 b.1 b.0 good in
      by_step (value MOST_LEVELS k.0.0 b.1) _ (nesting n)
      (λ bad.
      let (function_read, (us, o, is)) = value_opens k.0.0 b.1 n bad in
      (us, inr (b1, subst (λ k. RoutineFront k ts b1) function_read (front b1 begin), (b.1, (stmts_of b.0, ss), o)), is))
      (λ x good e. let c = past (close x.1) _ (nesting n) (close_never x.1 n) e in absurd (no_fault _ _ c.2)) e) v.2

  routines_opens : Opens {P = P} (routines MOST_LEVELS) (Whole (Each IsRoutine) ▷ OpensRoutine)
  unfolding routines
  routines_opens ts n e = many_opens (routine_decl MOST_LEVELS) IsRoutine routine_sound OpensRoutine routine_opens begins_routine ts n e

  -- ---- monitors

  member_never : Never {P = P} member
  unfolding member
  member_never ts n e =
      by_if (is_at w.VAR ts) _ _ _ (λ is e. let v = past (var ts) _ (nesting n) (var_never ts n) e in no_fault _ _ v.2)
      (λ is e. let c = past_word w.CONDITION ts _ n e in let m = past_name c.0.1 _ n c.2 in no_fault _ _ m.2) e

  members_never : Never {P = P} members
  unfolding members
  members_never ts n e = many_never member member_never begins_member ts n e

  entry_opens : Opens {P = P} (entry_decl MOST_LEVELS) (a w.ENTRY ▷ OpensRoutine)
  unfolding entry_decl
  entry_opens ts n e =
      let c = past_word w.ENTRY ts _ n e in
      let r = routine_opens c.0.1 n c.2 in
      (r.0, (c.0.1, a_sound w.ENTRY ts c.0.1 c.0.0 c.1, r.1), r.2)

  entries_opens : Opens {P = P} (entries MOST_LEVELS) (Whole (Each IsEntry) ▷ a w.ENTRY ▷ OpensRoutine)
  unfolding entries
  entries_opens ts n e = many_opens (entry_decl MOST_LEVELS) IsEntry entry_sound (a w.ENTRY ▷ OpensRoutine) entry_opens (is_at w.ENTRY) ts n e

  monitor_opens : Opens {P = P} (monitor_decl MOST_LEVELS) OpensMonitor
  unfolding monitor_decl
  monitor_opens ts n e =
      let c = past_word w.MONITOR ts _ n e in
      let m = past_name c.0.1 _ n c.2 in
      let x = past (members m.0.1) _ (nesting n) (members_never m.0.1 n) m.2 in
      by_step (entries MOST_LEVELS x.0.1) _ (nesting n)
      (λ bad.
      let r = entries_opens x.0.1 n bad in
      (r.0, (c.0.1, a_sound w.MONITOR ts c.0.1 c.0.0 c.1, (m.0.1, name-read c.0.1 m.0.1 m.0.0 m.1, (x.0.1, (x.0.0, members_sound m.0.1 x.0.1 x.0.0 x.1), r.1))), r.2))
      (λ y good e. let z = past (close y.1) _ (nesting n) (close_never y.1 n) e in absurd (no_fault _ _ z.2)) x.2

  -- ---- processes

  first_never : Never {P = P} first
  unfolding first
  first_never ts n e =
      by_if (is_at w.FIRST ts) _ _ _
      (λ is e.
      let c = past_word w.FIRST ts _ n e in
      let d = past_word w.ACTIVATION c.0.1 _ n c.2 in
      let f = past_word w.AT_TIME d.0.1 _ n d.2 in
      let x = past_constant f.0.1 _ n f.2 in
      no_fault _ _ x.2)
      (λ is e. no_fault _ _ e) e

  deadline_never : Never {P = P} deadline
  unfolding deadline
  deadline_never ts n e =
      by_if (is_at w.DEADLINE ts) _ _ _
      (λ is e.
      let c = past_word w.DEADLINE ts _ n e in
      let x = past_constant c.0.1 _ n c.2 in
      no_fault _ _ x.2)
      (λ is e. no_fault _ _ e) e

  activation_never : Never {P = P} activation
  unfolding activation
  activation_never ts n e =
      by_if (is_at w.PERIODIC ts) _ _ _
      (λ is e.
      let c = past_word w.PERIODIC ts _ n e in
      let d = past_word w.FRAME c.0.1 _ n c.2 in
      let x = past_constant d.0.1 _ n d.2 in
      let y = past (deadline x.0.1) _ (nesting n) (deadline_never x.0.1 n) x.2 in
      let f = past (first y.0.1) _ (nesting n) (first_never y.0.1 n) y.2 in
      no_fault _ _ f.2)
      (λ is e.
      let c = past_word w.AT_EVENT ts _ n e in
      let m = past_name c.0.1 _ n c.2 in
      let d = past_word w.FRAME m.0.1 _ n m.2 in
      let x = past_constant d.0.1 _ n d.2 in
      let y = past (deadline x.0.1) _ (nesting n) (deadline_never x.0.1 n) x.2 in
      no_fault _ _ y.2) e

  numbers_never : Never {P = P} numbers
  unfolding numbers
  numbers_never ts n e =
      let c = past_word w.LEFT_PAREN ts _ n e in
      let x = past (listed constant c.0.1) _ (nesting n) (listed_never constant constant_never c.0.1 n) c.2 in
      let d = past_word w.RIGHT_PAREN x.0.1 _ n x.2 in
      no_fault _ _ d.2

  handler_opens : Opens {P = P} (handler MOST_LEVELS) (a w.HANDLER ▷ a w.LEFT_PAREN ▷ Whole (Listed IsConstant) ▷ a w.RIGHT_PAREN ▷ OpensStmts MOST_LEVELS)
  unfolding handler
  handler_opens ts n e =
      by_if (is_at w.HANDLER ts) _ _ _
      (λ is e.
      let c = past_word w.HANDLER ts _ n e in
      let x = past (numbers c.0.1) _ (nesting n) (numbers_never c.0.1 n) c.2 in
      let (n1, left, (n2, ns, right)) = numbers_sound c.0.1 x.0.1 x.0.0 x.1 in
      by_step (stmts MOST_LEVELS x.0.1) _ (nesting n)
      (λ bad.
      let r = stmts_opens MOST_LEVELS x.0.1 n bad in
      (r.0, (c.0.1, a_sound w.HANDLER ts c.0.1 c.0.0 c.1, (n1, left, (n2, (x.0.0, ns), (x.0.1, right, r.1)))), r.2))
      (λ y good e. absurd (no_fault _ _ e)) x.2)
      (λ is e. absurd (no_fault _ _ e)) e

  process_opens : Opens {P = P} (process_decl MOST_LEVELS) OpensProcess
  unfolding process_decl
  process_opens ts n e =
      let c = past_word w.PROCESS ts _ n e in
      let m = past_name c.0.1 _ n c.2 in
      let d = past_word w.COLON m.0.1 _ n m.2 in
      let x = past (activation d.0.1) _ (nesting n) (activation_never d.0.1 n) d.2 in
      let v = past (vars x.0.1) _ (nesting n) (vars_never x.0.1 n) x.2 in
      let front = λ (r1 : List (Tok P)) (rs : Whole (Each IsRoutine) v.0.1 r1).
      let named_read = name-read c.0.1 m.0.1 m.0.0 m.1 in
      let colon = a_sound w.COLON m.0.1 d.0.1 d.0.0 d.1 in
      let activation_read = activation_sound d.0.1 x.0.1 x.0.0 x.1 in
      let vars_read = vars_sound x.0.1 v.0.1 v.0.0 v.1 in
      let it : ProcessFront ts r1 = (
        c.0.1,
        a_sound w.PROCESS ts c.0.1 c.0.0 c.1,
        (m.0.1, named_read, (d.0.1, colon, (x.0.1, (x.0.0, activation_read), (v.0.1, (v.0.0, vars_read), rs)))),
      ) in
      it in
      by_step (routines MOST_LEVELS v.0.1) _ (nesting n)
      (λ bad. let (us, (r1, rs, o), is) = routines_opens v.0.1 n bad in (us, inl (r1, front r1 rs, o), is))
      (λ r good e.
      let all = front r.1 (r.0, routines_sound v.0.1 r.1 r.0 good) in
      by_step (block MOST_LEVELS r.1) _ (nesting n)
      (λ bad. let (us, o, is) = block_opens r.1 n bad in (us, inr (inl (r.1, all, o)), is))
      (λ b good e.
      let (b1, begin, ss) = block_sound r.1 b.1 b.0 good in
      by_step (handler MOST_LEVELS b.1) _ (nesting n)
      (λ bad. let (us, o, is) = handler_opens b.1 n bad in (us, inr (inr (r.1, all, (b1, begin, (b.1, (stmts_of b.0, ss), o)))), is))
      (λ h good e. let z = past (close h.1) _ (nesting n) (close_never h.1 n) e in absurd (no_fault _ _ z.2)) e) e) v.2

  -- ---- declarations

  const_never : Never {P = P} const_decl
  unfolding const_decl
  const_never ts n e =
      let c = past_word w.CONST ts _ n e in
      let m = past_name c.0.1 _ n c.2 in
      let d = past_word w.ASSIGN m.0.1 _ n m.2 in
      let x = past_constant d.0.1 _ n d.2 in
      no_fault _ _ x.2

  way_never : Never {P = P} way
  unfolding way
  way_never ts n e =
      by_if (is_at w.OUT ts) _ _ _ (λ is e. let c = past_word w.OUT ts _ n e in no_fault _ _ c.2) (λ is e. let c = past_word w.IN ts _ n e in no_fault _ _ c.2) e

  device_never : Never {P = P} device_decl
  unfolding device_decl
  device_never ts n e =
      let c = past_word w.DEVICE ts _ n e in
      let m = past_name c.0.1 _ n c.2 in
      let d = past_word w.COLON m.0.1 _ n m.2 in
      let x = past (way d.0.1) _ (nesting n) (way_never d.0.1 n) d.2 in
      no_fault _ _ x.2

  event_never : Never {P = P} event_decl
  unfolding event_decl
  event_never ts n e = let c = past_word w.EVENT ts _ n e in let m = past_name c.0.1 _ n c.2 in no_fault _ _ m.2

  decl_opens : Opens {P = P} (decl MOST_LEVELS) OpensDecl
  unfolding decl
  decl_opens ts n e =
      by_if (is_at w.CONST ts) _ _ _ (λ is e. absurd (const_never ts n e)) (λ is e.
      by_if (is_at w.DEVICE ts) _ _ _ (λ is e. absurd (device_never ts n e)) (λ is e.
      by_if (is_at w.EVENT ts) _ _ _ (λ is e. absurd (event_never ts n e)) (λ is e.
      by_if (is_at w.MONITOR ts) _ _ _
      (λ is e.
      by_step (monitor_decl MOST_LEVELS ts) _ (nesting n) (λ bad. let r = monitor_opens ts n bad in (r.0, inr (inl r.1), r.2)) (λ x good e. absurd (no_fault _ _ e)) e) (λ is e.
      by_if (is_at w.PROCESS ts) _ _ _
      (λ is e.
      by_step (process_decl MOST_LEVELS ts) _ (nesting n) (λ bad. let r = process_opens ts n bad in (r.0, inr (inr r.1), r.2)) (λ x good e. absurd (no_fault _ _ e)) e)
      (λ is e.
      by_step (routine_decl MOST_LEVELS ts) _ (nesting n) (λ bad. let r = routine_opens ts n bad in (r.0, inl r.1, r.2)) (λ x good e. absurd (no_fault _ _ e)) e) e) e) e) e) e

  decls_opens : Opens {P = P} (decls MOST_LEVELS) (Whole (Each IsDecl) ▷ OpensDecl)
  unfolding decls
  decls_opens ts n e = many_opens (decl MOST_LEVELS) IsDecl decl_sound OpensDecl decl_opens begins_decl ts n e

  prog_opens : Opens {P = P} (prog MOST_LEVELS) OpensProg
  unfolding prog
  prog_opens ts n e =
      let c = past_word w.PROGRAM ts _ n e in
      let m = past_name c.0.1 _ n c.2 in
      by_step (decls MOST_LEVELS m.0.1) _ (nesting n)
      (λ bad. let r = decls_opens m.0.1 n bad in (r.0, (c.0.1, a_sound w.PROGRAM ts c.0.1 c.0.0 c.1, (m.0.1, name-read c.0.1 m.0.1 m.0.0 m.1, r.1)), r.2))
      (λ d good e. let z = past (close d.1) _ (nesting n) (close_never d.1 n) e in absurd (no_fault _ _ z.2)) m.2

  last_never : {A : Type 0} (x : A) (us : List (Tok P)) (n : ℕ) → if_last x us ≡ Err (nesting n) → ⊥
  last_never x [] n e = cc
  last_never x (u ∷ us) n e = cc

  -- a list of tokens is at fault for nesting only at one that opens a level beyond the last
  pub whole_opens : (ts : List (Tok P)) (n : ℕ) → whole MOST_LEVELS ts ≡ Err (nesting n) → Reaches OpensProg ts n
  unfolding whole
  whole_opens ts n e = by_step (prog MOST_LEVELS ts) _ (nesting n) (λ bad. prog_opens ts n bad) (λ x good e. absurd (last_never x.0 x.1 n e)) e
