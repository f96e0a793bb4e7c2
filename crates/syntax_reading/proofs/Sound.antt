-- What is read as a program has the tokens of its tree.
use Rattle.std.proofs.Common.{◌≡◌, List, [], ◌∷◌, true, false, Ok, Some, None, refl, subst}
use Rattle.syntax_tree.specs.Plain.{Name}
use Rattle.syntax_tree.specs.Placed as tree
use Rattle.syntax_tree.specs.Placed.{Constant, Scalar, int, boolean, subrange, Kind, scalar, array, Var, Param, Expr, RoutineKind, procedure, function, Routine, Member, variable_member, condition_member, Monitor, Activation, periodic, at_event, Handler, Process, Decl, device, event, routine, monitor, process, Prog, Stmt, stmts_of}
use Rattle.syntax.specs.Words as w
use Rattle.syntax.specs.Words.{Word, named, Tok}
use Rattle.syntax.specs.ExprGrammar.{a, ◌▷◌, Each, Listed, SomeListed, IsConstant}
use Rattle.syntax.specs.StmtGrammar.{AreStmts}
use Rattle.syntax.specs.Grammar.{MOST_LEVELS, IsScalar, IsKind, IsVar, IsParam, kind_word, IsResult, IsValue, IsRoutine, IsMember, IsEntry, IsMonitor, IsDeadline, IsFirst, IsActivation, IsHandler, IsProcess, way_word, IsDecl, IsProg}
use Rattle.syntax_reading.specs.ExprReading.{is_at, expect, name, listed, constant, expr}
use Rattle.syntax_reading.specs.StmtReading.{stmts}
use Rattle.syntax_reading.specs.Reading.{range, scalar_type, kind, var, vars, param, params, block, close, routine_kind, result, value, routine_decl, begins_routine, routines, begins_member, member, members, entry_decl, entries, monitor_decl, deadline, first, activation, numbers, handler, process_decl, const_decl, way, device_decl, event_decl, decl, begins_decl, decls, prog, if_last, whole}
use Rattle.syntax_reading.proofs.Basics.{bind_ok, by_if, Sound, done, IsName, a_sound, name_sound, many_sound, listed_sound, in_parens_sound}
use Rattle.syntax_reading.proofs.ExprSound.{constant_sound, expr_sound}
use Rattle.syntax_reading.proofs.StmtSound.{all_stmts_sound}

module _ {P : Type 0} where
  abbrev IsRange : Constant P × Constant P → List (Tok P) → List (Tok P) → Type 0
  IsRange r = IsConstant r.0 ▷ a w.RANGE ▷ IsConstant r.1

  range_sound : Sound {P = P} range IsRange
  unfolding range
  range_sound ts us s e =
      let l = bind_ok (constant ts) _ _ e in
      let c = bind_ok (expect w.RANGE l.0.1) _ _ l.2 in
      let h = bind_ok (constant c.0.1) _ _ c.2 in
      done IsRange ts (l.0.0, h.0.0) s h.0.1 us
      (l.0.1, constant_sound ts l.0.1 l.0.0 l.1, (c.0.1, a_sound w.RANGE l.0.1 c.0.1 c.0.0 c.1, constant_sound c.0.1 h.0.1 h.0.0 h.1)) h.2

  scalar_sound : Sound {P = P} scalar_type IsScalar
  unfolding scalar_type
  scalar_sound ts us s e =
      by_if (is_at w.INT ts) _ _ _ (λ is e.
      let c = bind_ok (expect w.INT ts) _ _ e in
      done IsScalar ts int s c.0.1 us (a_sound w.INT ts c.0.1 c.0.0 c.1) c.2)
      (λ is e. by_if (is_at w.BOOLEAN ts) _ _ _ (λ is e.
      let c = bind_ok (expect w.BOOLEAN ts) _ _ e in
      done IsScalar ts boolean s c.0.1 us (a_sound w.BOOLEAN ts c.0.1 c.0.0 c.1) c.2)
      (λ is e.
      let r = bind_ok (range ts) _ _ e in
      done IsScalar ts (subrange r.0.0.0 r.0.0.1) s r.0.1 us (range_sound ts r.0.1 r.0.0 r.1) r.2) e) e

  kind_sound : Sound {P = P} kind IsKind
  unfolding kind
  kind_sound ts us s e =
      by_if (is_at w.ARRAY ts) _ _ _
      (λ is e.
      let c = bind_ok (expect w.ARRAY ts) _ _ e in
      let r = bind_ok (range c.0.1) _ _ c.2 in
      let o = bind_ok (expect w.OF r.0.1) _ _ r.2 in
      let x = bind_ok (scalar_type o.0.1) _ _ o.2 in
      let both = range_sound c.0.1 r.0.1 r.0.0 r.1 in
      done IsKind ts (array r.0.0.0 r.0.0.1 x.0.0) s x.0.1 us
      (c.0.1, a_sound w.ARRAY ts c.0.1 c.0.0 c.1, (both.0, both.1, (both.2.0, both.2.1, (r.0.1, both.2.2, (o.0.1, a_sound w.OF r.0.1 o.0.1 o.0.0 o.1, scalar_sound o.0.1 x.0.1 x.0.0 x.1))))) x.2)
      (λ is e.
      let x = bind_ok (scalar_type ts) _ _ e in
      done IsKind ts (scalar x.0.0) s x.0.1 us (scalar_sound ts x.0.1 x.0.0 x.1) x.2) e

  var_sound : Sound {P = P} var IsVar
  unfolding var
  var_sound ts us s e =
      let c = bind_ok (expect w.VAR ts) _ _ e in
      let n = bind_ok (name c.0.1) _ _ c.2 in
      let d = bind_ok (expect w.COLON n.0.1) _ _ n.2 in
      let k = bind_ok (kind d.0.1) _ _ d.2 in
      done IsVar ts (record { name = n.0.0.0; place = n.0.0.1; kind = k.0.0 }) s k.0.1 us
      (c.0.1, a_sound w.VAR ts c.0.1 c.0.0 c.1, (n.0.1, name_sound c.0.1 n.0.1 n.0.0 n.1, (d.0.1, a_sound w.COLON n.0.1 d.0.1 d.0.0 d.1, kind_sound d.0.1 k.0.1 k.0.0 k.1))) k.2

  pub vars_sound : Sound {P = P} vars (Each IsVar)
  unfolding vars
  vars_sound ts us s e = many_sound var IsVar var_sound (is_at w.VAR) ts us s e

  param_sound : Sound {P = P} param IsParam
  unfolding param
  param_sound ts us s e =
      let n = bind_ok (name ts) _ _ e in
      let d = bind_ok (expect w.COLON n.0.1) _ _ n.2 in
      let k = bind_ok (scalar_type d.0.1) _ _ d.2 in
      done IsParam ts (record { name = n.0.0.0; place = n.0.0.1; kind = k.0.0 }) s k.0.1 us
      (n.0.1, name_sound ts n.0.1 n.0.0 n.1, (d.0.1, a_sound w.COLON n.0.1 d.0.1 d.0.0 d.1, scalar_sound d.0.1 k.0.1 k.0.0 k.1)) k.2

  pub params_sound : Sound {P = P} params (λ ps. a w.LEFT_PAREN ▷ SomeListed IsParam ps ▷ a w.RIGHT_PAREN)
  unfolding params
  params_sound ts us s e = in_parens_sound param IsParam param_sound ts us s e

  abbrev pub IsBlock : List (Stmt P) → List (Tok P) → List (Tok P) → Type 0
  IsBlock ss = a w.BEGIN ▷ AreStmts MOST_LEVELS (stmts_of ss)

  pub block_sound : Sound {P = P} (block MOST_LEVELS) IsBlock
  unfolding block
  block_sound ts us s e =
      let c = bind_ok (expect w.BEGIN ts) _ _ e in (c.0.1, a_sound w.BEGIN ts c.0.1 c.0.0 c.1, all_stmts_sound MOST_LEVELS c.0.1 us s c.2)

  abbrev IsClose : Name × P → List (Tok P) → List (Tok P) → Type 0
  IsClose n = a w.END ▷ IsName n

  close_sound : Sound {P = P} close IsClose
  unfolding close
  close_sound ts us s e = let c = bind_ok (expect w.END ts) _ _ e in (c.0.1, a_sound w.END ts c.0.1 c.0.0 c.1, name_sound c.0.1 us s c.2)

  -- ---- routines

  pub kind_word_sound : Sound {P = P} routine_kind (λ k. a (kind_word k))
  unfolding routine_kind
  kind_word_sound ts us s e =
      by_if (is_at w.PROCEDURE ts) _ _ _
      (λ is e. let c = bind_ok (expect w.PROCEDURE ts) _ _ e in done (λ k. a (kind_word k)) ts procedure s c.0.1 us (a_sound w.PROCEDURE ts c.0.1 c.0.0 c.1) c.2)
      (λ is e. let c = bind_ok (expect w.FUNCTION ts) _ _ e in done (λ k. a (kind_word k)) ts function s c.0.1 us (a_sound w.FUNCTION ts c.0.1 c.0.0 c.1) c.2) e

  pub result_sound : (k : RoutineKind) → Sound {P = P} (result k) (IsResult k)
  unfolding result
  result_sound procedure ts us s e = done (IsResult procedure) ts None s ts us refl e
  result_sound function ts us s e =
      let c = bind_ok (expect w.RETURNS ts) _ _ e in
      let x = bind_ok (scalar_type c.0.1) _ _ c.2 in
      done (IsResult function) ts (Some x.0.0) s x.0.1 us
      (c.0.1, a_sound w.RETURNS ts c.0.1 c.0.0 c.1, scalar_sound c.0.1 x.0.1 x.0.0 x.1) x.2

  value_sound : (k : RoutineKind) → Sound {P = P} (value MOST_LEVELS k) (IsValue k)
  unfolding value
  value_sound procedure ts us s e = done (IsValue procedure) ts None s ts us refl e
  value_sound function ts us s e =
      let c = bind_ok (expect w.RETURN ts) _ _ e in
      let x = bind_ok (expr MOST_LEVELS c.0.1) _ _ c.2 in
      done (IsValue function) ts (Some x.0.0) s x.0.1 us
      (c.0.1, a_sound w.RETURN ts c.0.1 c.0.0 c.1, expr_sound MOST_LEVELS c.0.1 x.0.1 x.0.0 x.1) x.2

  pub routine_sound : Sound {P = P} (routine_decl MOST_LEVELS) IsRoutine
  unfolding routine_decl
  routine_sound ts us s e =
      let k = bind_ok (routine_kind ts) _ _ e in
      let n = bind_ok (name k.0.1) _ _ k.2 in
      let p = bind_ok (params n.0.1) _ _ n.2 in
      let r = bind_ok (result k.0.0 p.0.1) _ _ p.2 in
      let v = bind_ok (vars r.0.1) _ _ r.2 in
      let b = bind_ok (block MOST_LEVELS v.0.1) _ _ v.2 in
      let x = bind_ok (value MOST_LEVELS k.0.0 b.0.1) _ _ b.2 in
      let c = bind_ok (close x.0.1) _ _ x.2 in
      let (p1, left, (p2, ps, right)) = params_sound n.0.1 p.0.1 p.0.0 p.1 in
      let (b1, begin, ss) = block_sound v.0.1 b.0.1 b.0.0 b.1 in
      done IsRoutine ts (record {
        kind = k.0.0;
        name = n.0.0.0;
        place = n.0.0.1;
        params = p.0.0;
        result = r.0.0;
        vars = v.0.0;
        body = stmts_of b.0.0;
        value = x.0.0;
        close = c.0.0.0;
        close_place = c.0.0.1;
      }) s c.0.1 us (
        k.0.1,
        kind_word_sound ts k.0.1 k.0.0 k.1,
        (
          n.0.1,
          name_sound k.0.1 n.0.1 n.0.0 n.1,
          (
            p1,
            left,
            (
              p2,
              ps,
              (
                p.0.1,
                right,
                (
                  r.0.1,
                  result_sound k.0.0 p.0.1 r.0.1 r.0.0 r.1,
                  (
                    v.0.1,
                    vars_sound r.0.1 v.0.1 v.0.0 v.1,
                    (
                      b1,
                      begin,
                      (
                        b.0.1,
                        ss,
                        (x.0.1, value_sound k.0.0 b.0.1 x.0.1 x.0.0 x.1, close_sound x.0.1 c.0.1 c.0.0 c.1),
                      ),
                    ),
                  ),
                ),
              ),
            ),
          ),
        ),
      ) c.2

  pub routines_sound : Sound {P = P} (routines MOST_LEVELS) (Each IsRoutine)
  unfolding routines
  routines_sound ts us s e = many_sound (routine_decl MOST_LEVELS) IsRoutine routine_sound begins_routine ts us s e

  -- ---- monitors

  member_sound : Sound {P = P} member IsMember
  unfolding member
  member_sound ts us s e =
      by_if (is_at w.VAR ts) _ _ _
      (λ is e. let v = bind_ok (var ts) _ _ e in done IsMember ts (variable_member v.0.0) s v.0.1 us (var_sound ts v.0.1 v.0.0 v.1) v.2)
      (λ is e.
      let c = bind_ok (expect w.CONDITION ts) _ _ e in
      let n = bind_ok (name c.0.1) _ _ c.2 in
      done IsMember ts (condition_member n.0.0.0 n.0.0.1) s n.0.1 us
      (c.0.1, a_sound w.CONDITION ts c.0.1 c.0.0 c.1, name_sound c.0.1 n.0.1 n.0.0 n.1) n.2) e

  pub entry_sound : Sound {P = P} (entry_decl MOST_LEVELS) IsEntry
  unfolding entry_decl
  entry_sound ts us s e = let c = bind_ok (expect w.ENTRY ts) _ _ e in (c.0.1, a_sound w.ENTRY ts c.0.1 c.0.0 c.1, routine_sound c.0.1 us s c.2)

  pub members_sound : Sound {P = P} members (Each IsMember)
  unfolding members
  members_sound ts us s e = many_sound member IsMember member_sound begins_member ts us s e

  pub entries_sound : Sound {P = P} (entries MOST_LEVELS) (Each IsEntry)
  unfolding entries
  entries_sound ts us s e = many_sound (entry_decl MOST_LEVELS) IsEntry entry_sound (is_at w.ENTRY) ts us s e

  monitor_sound : Sound {P = P} (monitor_decl MOST_LEVELS) IsMonitor
  unfolding monitor_decl
  monitor_sound ts us s e =
      let c = bind_ok (expect w.MONITOR ts) _ _ e in
      let n = bind_ok (name c.0.1) _ _ c.2 in
      let m = bind_ok (members n.0.1) _ _ n.2 in
      let x = bind_ok (entries MOST_LEVELS m.0.1) _ _ m.2 in
      let z = bind_ok (close x.0.1) _ _ x.2 in
      done IsMonitor ts (record { name = n.0.0.0; place = n.0.0.1; members = m.0.0; entries = x.0.0; close = z.0.0.0; close_place = z.0.0.1 }) s z.0.1 us
      (c.0.1, a_sound w.MONITOR ts c.0.1 c.0.0 c.1, (n.0.1, name_sound c.0.1 n.0.1 n.0.0 n.1, (m.0.1, members_sound n.0.1 m.0.1 m.0.0 m.1, (x.0.1, entries_sound m.0.1 x.0.1 x.0.0 x.1, close_sound x.0.1 z.0.1 z.0.0 z.1)))) z.2

  -- ---- processes

  first_sound : Sound {P = P} first IsFirst
  unfolding first
  first_sound ts us s e =
      by_if (is_at w.FIRST ts) _ _ _
      (λ is e.
      let c = bind_ok (expect w.FIRST ts) _ _ e in
      let d = bind_ok (expect w.ACTIVATION c.0.1) _ _ c.2 in
      let f = bind_ok (expect w.AT_TIME d.0.1) _ _ d.2 in
      let x = bind_ok (constant f.0.1) _ _ f.2 in
      done IsFirst ts (Some x.0.0) s x.0.1 us
      (c.0.1, a_sound w.FIRST ts c.0.1 c.0.0 c.1, (d.0.1, a_sound w.ACTIVATION c.0.1 d.0.1 d.0.0 d.1, (f.0.1, a_sound w.AT_TIME d.0.1 f.0.1 f.0.0 f.1, constant_sound f.0.1 x.0.1 x.0.0 x.1))) x.2)
      (λ is e. done IsFirst ts None s ts us refl e) e

  deadline_sound : Sound {P = P} deadline IsDeadline
  unfolding deadline
  deadline_sound ts us s e =
      by_if (is_at w.DEADLINE ts) _ _ _
      (λ is e.
      let c = bind_ok (expect w.DEADLINE ts) _ _ e in
      let x = bind_ok (constant c.0.1) _ _ c.2 in
      done IsDeadline ts (Some x.0.0) s x.0.1 us (c.0.1, a_sound w.DEADLINE ts c.0.1 c.0.0 c.1, constant_sound c.0.1 x.0.1 x.0.0 x.1) x.2)
      (λ is e. done IsDeadline ts None s ts us refl e) e

  pub activation_sound : Sound {P = P} activation IsActivation
  unfolding activation
  activation_sound ts us s e =
      by_if (is_at w.PERIODIC ts) _ _ _
      (λ is e.
      let c = bind_ok (expect w.PERIODIC ts) _ _ e in
      let d = bind_ok (expect w.FRAME c.0.1) _ _ c.2 in
      let x = bind_ok (constant d.0.1) _ _ d.2 in
      let y = bind_ok (deadline x.0.1) _ _ x.2 in
      let f = bind_ok (first y.0.1) _ _ y.2 in
      done IsActivation ts (periodic x.0.0 y.0.0 f.0.0) s f.0.1 us (
        c.0.1,
        a_sound w.PERIODIC ts c.0.1 c.0.0 c.1,
        (
          d.0.1,
          a_sound w.FRAME c.0.1 d.0.1 d.0.0 d.1,
          (x.0.1, constant_sound d.0.1 x.0.1 x.0.0 x.1, (y.0.1, deadline_sound x.0.1 y.0.1 y.0.0 y.1, first_sound y.0.1 f.0.1 f.0.0 f.1)),
        ),
      ) f.2)
      (λ is e.
      let c = bind_ok (expect w.AT_EVENT ts) _ _ e in
      let n = bind_ok (name c.0.1) _ _ c.2 in
      let d = bind_ok (expect w.FRAME n.0.1) _ _ n.2 in
      let x = bind_ok (constant d.0.1) _ _ d.2 in
      let y = bind_ok (deadline x.0.1) _ _ x.2 in
      done IsActivation ts (at_event n.0.0.0 n.0.0.1 x.0.0 y.0.0) s y.0.1 us (
        c.0.1,
        a_sound w.AT_EVENT ts c.0.1 c.0.0 c.1,
        (
          n.0.1,
          name_sound c.0.1 n.0.1 n.0.0 n.1,
          (
            d.0.1,
            a_sound w.FRAME n.0.1 d.0.1 d.0.0 d.1,
            (x.0.1, constant_sound d.0.1 x.0.1 x.0.0 x.1, deadline_sound x.0.1 y.0.1 y.0.0 y.1),
          ),
        ),
      ) y.2) e

  pub numbers_sound : Sound {P = P} numbers (λ ns. a w.LEFT_PAREN ▷ Listed IsConstant ns ▷ a w.RIGHT_PAREN)
  unfolding numbers
  numbers_sound ts us s e =
      let c = bind_ok (expect w.LEFT_PAREN ts) _ _ e in
      let x = bind_ok (listed constant c.0.1) _ _ c.2 in
      let d = bind_ok (expect w.RIGHT_PAREN x.0.1) _ _ x.2 in
      done (λ ns. a w.LEFT_PAREN ▷ Listed IsConstant ns ▷ a w.RIGHT_PAREN) ts x.0.0 s d.0.1 us
      (c.0.1, a_sound w.LEFT_PAREN ts c.0.1 c.0.0 c.1, (x.0.1, listed_sound constant IsConstant constant_sound c.0.1 x.0.1 x.0.0 x.1, a_sound w.RIGHT_PAREN x.0.1 d.0.1 d.0.0 d.1)) d.2

  handler_sound : Sound {P = P} (handler MOST_LEVELS) IsHandler
  unfolding handler
  handler_sound ts us s e =
      by_if (is_at w.HANDLER ts) _ _ _
      (λ is e.
      let c = bind_ok (expect w.HANDLER ts) _ _ e in
      let n = bind_ok (numbers c.0.1) _ _ c.2 in
      let x = bind_ok (stmts MOST_LEVELS n.0.1) _ _ n.2 in
      let (n1, left, (n2, ns, right)) = numbers_sound c.0.1 n.0.1 n.0.0 n.1 in
      done IsHandler ts (Some (record { numbers = n.0.0; body = stmts_of x.0.0 })) s x.0.1 us
      (c.0.1, a_sound w.HANDLER ts c.0.1 c.0.0 c.1, (n1, left, (n2, ns, (n.0.1, right, all_stmts_sound MOST_LEVELS n.0.1 x.0.1 x.0.0 x.1)))) x.2)
      (λ is e. done IsHandler ts None s ts us refl e) e

  process_sound : Sound {P = P} (process_decl MOST_LEVELS) IsProcess
  unfolding process_decl
  process_sound ts us s e =
      let c = bind_ok (expect w.PROCESS ts) _ _ e in
      let n = bind_ok (name c.0.1) _ _ c.2 in
      let d = bind_ok (expect w.COLON n.0.1) _ _ n.2 in
      let x = bind_ok (activation d.0.1) _ _ d.2 in
      let v = bind_ok (vars x.0.1) _ _ x.2 in
      let r = bind_ok (routines MOST_LEVELS v.0.1) _ _ v.2 in
      let b = bind_ok (block MOST_LEVELS r.0.1) _ _ r.2 in
      let h = bind_ok (handler MOST_LEVELS b.0.1) _ _ b.2 in
      let z = bind_ok (close h.0.1) _ _ h.2 in
      let (b1, begin, ss) = block_sound r.0.1 b.0.1 b.0.0 b.1 in
      done IsProcess ts (record {
        name = n.0.0.0;
        place = n.0.0.1;
        activation = x.0.0;
        vars = v.0.0;
        routines = r.0.0;
        body = stmts_of b.0.0;
        handler = h.0.0;
        close = z.0.0.0;
        close_place = z.0.0.1;
      }) s z.0.1 us (
        c.0.1,
        a_sound w.PROCESS ts c.0.1 c.0.0 c.1,
        (
          n.0.1,
          name_sound c.0.1 n.0.1 n.0.0 n.1,
          (
            d.0.1,
            a_sound w.COLON n.0.1 d.0.1 d.0.0 d.1,
            (
              x.0.1,
              activation_sound d.0.1 x.0.1 x.0.0 x.1,
              (
                v.0.1,
                vars_sound x.0.1 v.0.1 v.0.0 v.1,
                (
                  r.0.1,
                  routines_sound v.0.1 r.0.1 r.0.0 r.1,
                  (b1, begin, (b.0.1, ss, (h.0.1, handler_sound b.0.1 h.0.1 h.0.0 h.1, close_sound h.0.1 z.0.1 z.0.0 z.1))),
                ),
              ),
            ),
          ),
        ),
      ) z.2

  -- ---- declarations

  const_sound : Sound {P = P} const_decl IsDecl
  unfolding const_decl
  const_sound ts us s e =
      let c = bind_ok (expect w.CONST ts) _ _ e in
      let n = bind_ok (name c.0.1) _ _ c.2 in
      let d = bind_ok (expect w.ASSIGN n.0.1) _ _ n.2 in
      let x = bind_ok (constant d.0.1) _ _ d.2 in
      done IsDecl ts (tree.constant n.0.0.0 n.0.0.1 x.0.0) s x.0.1 us
      (c.0.1, a_sound w.CONST ts c.0.1 c.0.0 c.1, (n.0.1, name_sound c.0.1 n.0.1 n.0.0 n.1, (d.0.1, a_sound w.ASSIGN n.0.1 d.0.1 d.0.0 d.1, constant_sound d.0.1 x.0.1 x.0.0 x.1))) x.2

  way_sound : Sound {P = P} way (λ o. a (way_word o))
  unfolding way
  way_sound ts us s e =
      by_if (is_at w.OUT ts) _ _ _
      (λ is e. let c = bind_ok (expect w.OUT ts) _ _ e in done (λ o. a (way_word o)) ts true s c.0.1 us (a_sound w.OUT ts c.0.1 c.0.0 c.1) c.2)
      (λ is e. let c = bind_ok (expect w.IN ts) _ _ e in done (λ o. a (way_word o)) ts false s c.0.1 us (a_sound w.IN ts c.0.1 c.0.0 c.1) c.2) e

  device_sound : Sound {P = P} device_decl IsDecl
  unfolding device_decl
  device_sound ts us s e =
      let c = bind_ok (expect w.DEVICE ts) _ _ e in
      let n = bind_ok (name c.0.1) _ _ c.2 in
      let d = bind_ok (expect w.COLON n.0.1) _ _ n.2 in
      let x = bind_ok (way d.0.1) _ _ d.2 in
      done IsDecl ts (device n.0.0.0 n.0.0.1 x.0.0) s x.0.1 us
      (c.0.1, a_sound w.DEVICE ts c.0.1 c.0.0 c.1, (n.0.1, name_sound c.0.1 n.0.1 n.0.0 n.1, (d.0.1, a_sound w.COLON n.0.1 d.0.1 d.0.0 d.1, way_sound d.0.1 x.0.1 x.0.0 x.1))) x.2

  event_sound : Sound {P = P} event_decl IsDecl
  unfolding event_decl
  event_sound ts us s e =
      let c = bind_ok (expect w.EVENT ts) _ _ e in
      let n = bind_ok (name c.0.1) _ _ c.2 in
      done IsDecl ts (event n.0.0.0 n.0.0.1) s n.0.1 us
      (c.0.1, a_sound w.EVENT ts c.0.1 c.0.0 c.1, name_sound c.0.1 n.0.1 n.0.0 n.1) n.2

  pub decl_sound : Sound {P = P} (decl MOST_LEVELS) IsDecl
  unfolding decl
  decl_sound ts us s e =
      by_if (is_at w.CONST ts) _ _ _ (λ is e. const_sound ts us s e) (λ is e.
      by_if (is_at w.DEVICE ts) _ _ _ (λ is e. device_sound ts us s e) (λ is e.
      by_if (is_at w.EVENT ts) _ _ _ (λ is e. event_sound ts us s e) (λ is e.
      by_if (is_at w.MONITOR ts) _ _ _
      (λ is e. let x = bind_ok (monitor_decl MOST_LEVELS ts) _ _ e in done IsDecl ts (monitor x.0.0) s x.0.1 us (monitor_sound ts x.0.1 x.0.0 x.1) x.2) (λ is e.
      by_if (is_at w.PROCESS ts) _ _ _
      (λ is e. let x = bind_ok (process_decl MOST_LEVELS ts) _ _ e in done IsDecl ts (process x.0.0) s x.0.1 us (process_sound ts x.0.1 x.0.0 x.1) x.2)
      (λ is e. let x = bind_ok (routine_decl MOST_LEVELS ts) _ _ e in done IsDecl ts (routine x.0.0) s x.0.1 us (routine_sound ts x.0.1 x.0.0 x.1) x.2) e) e) e) e) e

  decls_sound : Sound {P = P} (decls MOST_LEVELS) (Each IsDecl)
  unfolding decls
  decls_sound ts us s e = many_sound (decl MOST_LEVELS) IsDecl decl_sound begins_decl ts us s e

  pub prog_sound : Sound {P = P} (prog MOST_LEVELS) IsProg
  unfolding prog
  prog_sound ts us s e =
      let c = bind_ok (expect w.PROGRAM ts) _ _ e in
      let n = bind_ok (name c.0.1) _ _ c.2 in
      let d = bind_ok (decls MOST_LEVELS n.0.1) _ _ n.2 in
      let z = bind_ok (close d.0.1) _ _ d.2 in
      done IsProg ts (record { name = n.0.0.0; place = n.0.0.1; decls = d.0.0; close = z.0.0.0; close_place = z.0.0.1 }) s z.0.1 us
      (c.0.1, a_sound w.PROGRAM ts c.0.1 c.0.0 c.1, (n.0.1, name_sound c.0.1 n.0.1 n.0.0 n.1, (d.0.1, decls_sound n.0.1 d.0.1 d.0.0 d.1, close_sound d.0.1 z.0.1 z.0.0 z.1))) z.2

  last_sound : (h g : Prog P) (ts us : List (Tok P)) → IsProg h ts us → if_last h us ≡ Ok g → IsProg g ts []
  last_sound h g ts [] took e = let same : h ≡ g = cc in subst (λ x. IsProg x ts []) same took
  last_sound h g ts (u ∷ us) took e = cc

  pub whole_sound : (ts : List (Tok P)) (g : Prog P) → whole MOST_LEVELS ts ≡ Ok g → IsProg g ts []
  unfolding whole
  whole_sound ts g e = let x = bind_ok (prog MOST_LEVELS ts) _ _ e in last_sound x.0.0 g ts x.0.1 (prog_sound ts x.0.1 x.0.0 x.1) x.2
