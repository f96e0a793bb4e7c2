-- Before a fault in declarations and programs stands what can be gone on with, with one level of nesting more.
use Rattle.std.proofs.Common.{◌≡◌, ℕ, zero, suc, ◌⊎◌, inl, inr, List, [], ◌∷◌, ◌++◌, length, Bool, true, false, cond, Result, Ok, Err, Option, Some, None, refl, ap, sym, ◌∙◌, subst}
use Rattle.syntax_tree.specs.Plain.{Name}
use Rattle.syntax_tree.specs.Placed as tree
use Rattle.syntax_tree.specs.Placed.{Constant, Scalar, int, boolean, subrange, Kind, scalar, array, Var, Param, Expr, RoutineKind, procedure, function, Routine, Member, variable_member, condition_member, Monitor, Activation, periodic, at_event, Handler, Process, Decl, device, event, routine, monitor, process, Prog, Stmt, stmts_of}
use Rattle.syntax.specs.Words as w
use Rattle.syntax.specs.Words.{Word, named, Tok}
use Rattle.syntax.specs.ExprGrammar.{at, a, ◌▷◌, nothing, Each, Listed, SomeListed, IsConstant, IsExpr}
use Rattle.syntax.specs.StmtGrammar.{AreStmts}
use Rattle.syntax.specs.Grammar.{MOST_LEVELS, kind_word, IsScalar, IsKind, IsVar, IsParam, IsResult, IsValueWithin, IsRoutineWithin, IsMember, IsEntryWithin, IsMonitorWithin, IsDeadline, IsFirst, IsActivation, IsHandlerWithin, IsProcessWithin, way_word, IsDeclWithin, IsProgWithin}
use Rattle.syntax.specs.Opening.{Part, Whole, ◌∪◌, a_name}
use Rattle.syntax_reading.specs.ExprReading.{Fault, syntax, ◌>>=◌, Parse, is_at, expect, name, many, listed, in_parens, constant, expr}
use Rattle.syntax_reading.specs.StmtReading.{stmts}
use Rattle.syntax_reading.specs.Reading.{range, scalar_type, kind, var, vars, param, params, block, close, routine_kind, result, value, routine_decl, begins_routine, routines, begins_member, member, members, entry_decl, entries, monitor_decl, deadline, first, activation, numbers, handler, process_decl, const_decl, way, device_decl, event_decl, decl, begins_decl, decls, prog, if_last, whole}
use Rattle.syntax_reading.proofs.OpenBasics.{by_step}
use Rattle.syntax_reading.proofs.Viable.{Free, Partial, Via, Implies, bind, imp, last, either, via-ok, via-word, via-name, via-many, via-listed, via-parens}
use Rattle.syntax_reading.proofs.ExprViable.{via-constant, via-expr}
use Rattle.syntax_reading.proofs.StmtViable.{via-stmts}

module _ {P : Type 0} (o : P) where
  abbrev C : Part P
  C = Whole IsConstant

  -- ---- types and variables

  via-range : Via (range {P = P}) (C ▷ a w.RANGE ▷ C)
  unfolding range
  via-range = bind constant C _ _ (via-constant o) (λ low. bind (expect w.RANGE) (a w.RANGE) C _ (via-word o w.RANGE) (λ c. last constant C _ (via-constant o) (λ high. via-ok _)))

  via-scalar : Via (scalar_type {P = P}) (Whole IsScalar)
  unfolding scalar_type
  via-scalar =
      either (is_at w.INT) _ _ (Whole IsScalar) (imp (Whole IsScalar) (λ ts us x. (int, x)) (last (expect w.INT) (a w.INT) _ (via-word o w.INT) (λ c. via-ok _)))
      (either (is_at w.BOOLEAN) _ _ (Whole IsScalar) (imp (Whole IsScalar) (λ ts us x. (boolean, x)) (last (expect w.BOOLEAN) (a w.BOOLEAN) _ (via-word o w.BOOLEAN) (λ c. via-ok _)))
      (imp (Whole IsScalar) (λ ts us (v1, (l, t1), (v2, r, (h, t3))). (subrange l h, (v1, t1, (v2, r, t3)))) (last range (C ▷ a w.RANGE ▷ C) _ via-range (λ r. via-ok _))))

  via-kind : Via (kind {P = P}) (Whole IsKind)
  unfolding kind
  via-kind =
      either (is_at w.ARRAY) _ _ (Whole IsKind)
      (imp (Whole IsKind) (λ ts us (v1, c, (v4, (v2, (l, t2), (v3, r, (h, t4))), (v5, f, (s, t6)))). (array l h s, (v1, c, (v2, t2, (v3, r, (v4, t4, (v5, f, t6)))))))
      (bind (expect w.ARRAY) (a w.ARRAY) _ _ (via-word o w.ARRAY) (λ c. bind range (C ▷ a w.RANGE ▷ C) _ _ via-range (λ r. bind (expect w.OF) (a w.OF) _ _ (via-word o w.OF) (λ c.
      last scalar_type (Whole IsScalar) _ via-scalar (λ s. via-ok _))))))
      (imp (Whole IsKind) (λ ts us (s, t). (scalar s, t)) (last scalar_type (Whole IsScalar) _ via-scalar (λ s. via-ok _)))

  via-var : Via (var {P = P}) (Whole IsVar)
  unfolding var
  via-var =
      imp (Whole IsVar) (λ ts us (v1, c, (v2, (n, (q, t2)), (v3, d, (k, t4)))). (record { name = n; place = q; kind = k }, (v1, c, (v2, t2, (v3, d, t4)))))
      (bind (expect w.VAR) (a w.VAR) _ _ (via-word o w.VAR) (λ c. bind name a_name _ _ (via-name o) (λ n. bind (expect w.COLON) (a w.COLON) _ _ (via-word o w.COLON) (λ c.
      last kind (Whole IsKind) _ via-kind (λ k. via-ok _)))))

  via-vars : Via (vars {P = P}) (Whole (Each IsVar))
  unfolding vars
  via-vars = via-many (is_at w.VAR) var IsVar via-var

  via-param : Via (param {P = P}) (Whole IsParam)
  unfolding param
  via-param =
      imp (Whole IsParam) (λ ts us (v2, (n, (q, t2)), (v3, d, (k, t4))). (record { name = n; place = q; kind = k }, (v2, t2, (v3, d, t4))))
      (bind name a_name _ _ (via-name o) (λ n. bind (expect w.COLON) (a w.COLON) _ _ (via-word o w.COLON) (λ c. last scalar_type (Whole IsScalar) _ via-scalar (λ k. via-ok _))))

  abbrev ParamsPart : Part P
  ParamsPart = a w.LEFT_PAREN ▷ Whole (SomeListed IsParam) ▷ a w.RIGHT_PAREN

  via-params : Via (params {P = P}) ParamsPart
  unfolding params
  via-params = via-parens o param IsParam via-param

  abbrev Close : Part P
  Close = a w.END ▷ a_name

  via-close : Via (close {P = P}) Close
  unfolding close
  via-close = bind (expect w.END) (a w.END) a_name _ (via-word o w.END) (λ c. via-name o)

  via-result : (k : RoutineKind) → Via (result {P = P} k) (Whole (IsResult k))
  unfolding result
  via-result procedure = imp (Whole (IsResult procedure)) (λ ts us same. (None, same)) (via-ok None)
  via-result function =
      imp (Whole (IsResult function)) (λ ts us (v, c, (s, t)). (Some s, (v, c, t)))
      (bind (expect w.RETURNS) (a w.RETURNS) _ _ (via-word o w.RETURNS) (λ c. last scalar_type (Whole IsScalar) _ via-scalar (λ s. via-ok _)))

  via-member : Via (member {P = P}) (Whole IsMember)
  unfolding member
  via-member =
      either (is_at w.VAR) _ _ (Whole IsMember) (imp (Whole IsMember) (λ ts us (v, t). (variable_member v, t)) (last var (Whole IsVar) _ via-var (λ v. via-ok _)))
      (imp (Whole IsMember) (λ ts us (v, c, (n, (q, t))). (condition_member n q, (v, c, t)))
      (bind (expect w.CONDITION) (a w.CONDITION) _ _ (via-word o w.CONDITION) (λ c. last name a_name _ (via-name o) (λ n. via-ok _))))

  via-members : Via (members {P = P}) (Whole (Each IsMember))
  unfolding members
  via-members = via-many begins_member member IsMember via-member

  -- ---- the head of a process

  via-deadline : Via (deadline {P = P}) (Whole IsDeadline)
  unfolding deadline
  via-deadline =
      either (is_at w.DEADLINE) _ _ (Whole IsDeadline)
      (imp (Whole IsDeadline) (λ ts us (v, c, (d, t)). (Some d, (v, c, t))) (bind (expect w.DEADLINE) (a w.DEADLINE) C _ (via-word o w.DEADLINE) (λ c. last constant C _ (via-constant o) (λ d. via-ok _))))
      (imp (Whole IsDeadline) (λ ts us same. (None, same)) (via-ok _))

  via-first : Via (first {P = P}) (Whole IsFirst)
  unfolding first
  via-first =
      either (is_at w.FIRST) _ _ (Whole IsFirst)
      (imp (Whole IsFirst) (λ ts us (v, c, (v2, d, (v3, e, (f, t)))). (Some f, (v, c, (v2, d, (v3, e, t)))))
      (bind (expect w.FIRST) (a w.FIRST) _ _ (via-word o w.FIRST) (λ c. bind (expect w.ACTIVATION) (a w.ACTIVATION) _ _ (via-word o w.ACTIVATION) (λ c.
      bind (expect w.AT_TIME) (a w.AT_TIME) _ _ (via-word o w.AT_TIME) (λ c. last constant C _ (via-constant o) (λ f. via-ok _))))))
      (imp (Whole IsFirst) (λ ts us same. (None, same)) (via-ok _))

  via-activation : Via (activation {P = P}) (Whole IsActivation)
  unfolding activation
  via-activation =
      either (is_at w.PERIODIC) _ _ (Whole IsActivation)
      (imp (Whole IsActivation) (λ ts us (v1, c, (v2, d, (v3, (x, t3), (v4, (y, t4), (f, t5))))). (periodic x y f, (v1, c, (v2, d, (v3, t3, (v4, t4, t5))))))
      (bind (expect w.PERIODIC) (a w.PERIODIC) _ _ (via-word o w.PERIODIC) (λ c. bind (expect w.FRAME) (a w.FRAME) _ _ (via-word o w.FRAME) (λ c. bind constant C _ _ (via-constant o) (λ x.
      bind deadline (Whole IsDeadline) _ _ via-deadline (λ y. last first (Whole IsFirst) _ via-first (λ f. via-ok _)))))))
      (imp (Whole IsActivation) (λ ts us (v1, c, (v2, (n, (q, t2)), (v3, d, (v4, (x, t4), (y, t5))))). (at_event n q x y, (v1, c, (v2, t2, (v3, d, (v4, t4, t5))))))
      (bind (expect w.AT_EVENT) (a w.AT_EVENT) _ _ (via-word o w.AT_EVENT) (λ c. bind name a_name _ _ (via-name o) (λ n. bind (expect w.FRAME) (a w.FRAME) _ _ (via-word o w.FRAME) (λ c.
      bind constant C _ _ (via-constant o) (λ x. last deadline (Whole IsDeadline) _ via-deadline (λ y. via-ok _)))))))

  abbrev NumbersPart : Part P
  NumbersPart = a w.LEFT_PAREN ▷ Whole (Listed IsConstant) ▷ a w.RIGHT_PAREN

  via-numbers : Via (numbers {P = P}) NumbersPart
  unfolding numbers
  via-numbers =
      bind (expect w.LEFT_PAREN) (a w.LEFT_PAREN) _ _ (via-word o w.LEFT_PAREN) (λ c. bind (listed constant) (Whole (Listed IsConstant)) _ _ (via-listed o constant IsConstant (via-constant o)) (λ ns.
      last (expect w.RIGHT_PAREN) (a w.RIGHT_PAREN) _ (via-word o w.RIGHT_PAREN) (λ c. via-ok _)))

  via-way : Via (way {P = P}) (Whole (λ x. a (way_word x)))
  unfolding way
  via-way =
      either (is_at w.OUT) _ _ (Whole (λ x. a (way_word x))) (imp (Whole (λ x. a (way_word x))) (λ ts us t. (true, t)) (last (expect w.OUT) (a w.OUT) _ (via-word o w.OUT) (λ c. via-ok _)))
      (imp (Whole (λ x. a (way_word x))) (λ ts us t. (false, t)) (last (expect w.IN) (a w.IN) _ (via-word o w.IN) (λ c. via-ok _)))

  -- ---- with so many levels

  module _ (d : ℕ) where
    abbrev SS : Part P
    SS = Whole (AreStmts (suc d))

    via-block : Via (block {P = P} d) (a w.BEGIN ▷ SS)
    unfolding block
    via-block = bind (expect w.BEGIN) (a w.BEGIN) SS _ (via-word o w.BEGIN) (λ c. via-stmts o d)

    via-value : (k : RoutineKind) → Via (value {P = P} d k) (Whole (IsValueWithin (suc d) k))
    unfolding value
    via-value procedure = imp (Whole (IsValueWithin (suc d) procedure)) (λ ts us same. (None, same)) (via-ok None)
    via-value function =
        imp (Whole (IsValueWithin (suc d) function)) (λ ts us (v, c, (e, t)). (Some e, (v, c, t)))
        (bind (expect w.RETURN) (a w.RETURN) (Whole (IsExpr 5 (suc d))) _ (via-word o w.RETURN) (λ c. last (expr d) (Whole (IsExpr 5 (suc d))) _ (via-expr o d) (λ e. via-ok _)))

    -- behind the word that says which kind of routine it is
    abbrev RoutineRest : RoutineKind → Part P
    RoutineRest k = a_name ▷ ParamsPart ▷ Whole (IsResult k) ▷ Whole (Each IsVar) ▷ (a w.BEGIN ▷ SS) ▷ Whole (IsValueWithin (suc d) k) ▷ Close

    routine-whole : (k : RoutineKind) → Implies (a (kind_word k) ▷ RoutineRest k) (Whole (IsRoutineWithin (suc d)))
    routine-whole k ts us (v1, kw, (v2, (n, (q, t2)), (v5, (v3, l, (v4, (ps, t4), r)), (v6, (s, t6), (v7, (vs, t7), (v9, (v8, b, (ss, t9)), (v10, (x, t10), (v11, e, (m, (q2, t12)))))))))) = (
      record { kind = k; name = n; place = q; params = ps; result = s; vars = vs; body = ss; value = x; close = m; close_place = q2 },
      (v1, kw, (v2, t2, (v3, l, (v4, t4, (v5, r, (v6, t6, (v7, t7, (v8, b, (v9, t9, (v10, t10, (v11, e, t12))))))))))),
    )

    -- the word that says which kind of routine it is, and then the rest
    abbrev RoutineWords : Part P
    RoutineWords = a w.PROCEDURE ▷ RoutineRest procedure ∪ a w.FUNCTION ▷ RoutineRest function

    routine-words : Implies {P = P} RoutineWords (Whole (IsRoutineWithin (suc d)))
    routine-words ts us (inl x) = routine-whole procedure ts us x
    routine-words ts us (inr x) = routine-whole function ts us x

    -- a routine of this kind, behind its word
    abbrev rest : RoutineKind → Parse P (Routine P)
    rest k ts =
        name ts >>= λ n. params n.1 >>= λ ps. result k ps.1 >>= λ s. vars s.1 >>= λ vs. block d vs.1 >>= λ b. value d k b.1 >>= λ e. close e.1 >>= λ c.
        Ok (
          record {
            kind = k;
            name = n.0.0;
            place = n.0.1;
            params = ps.0;
            result = s.0;
            vars = vs.0;
            body = stmts_of b.0;
            value = e.0;
            close = c.0.0;
            close_place = c.0.1;
          },
          c.1,
        )

    via-rest : (k : RoutineKind) → Via (rest k) (RoutineRest k)
    via-rest k =
        bind name a_name _ _ (via-name o) (λ n. bind params ParamsPart _ _ via-params (λ ps. bind (result k) (Whole (IsResult k)) _ _ (via-result k) (λ s.
        bind vars (Whole (Each IsVar)) _ _ via-vars (λ vs. bind (block d) (a w.BEGIN ▷ SS) _ _ via-block (λ b. bind (value d k) (Whole (IsValueWithin (suc d) k)) _ _ (via-value k) (λ e.
        last close Close _ via-close (λ c. via-ok _)))))))

    abbrev kinded : RoutineKind → P × List (Tok P) → Result (RoutineKind × List (Tok P)) Fault
    kinded x c = Ok (x, c.1)

    regroup : (x : RoutineKind) (r : Result (P × List (Tok P)) Fault) → ((r >>= kinded x) >>= λ k. rest k.0 k.1) ≡ (r >>= λ c. rest x c.1)
    regroup x (Ok c) = refl
    regroup x (Err f) = refl

    routine-by : (ts : List (Tok P)) → routine_decl d ts ≡ cond (is_at w.PROCEDURE ts) (expect w.PROCEDURE ts >>= λ c. rest procedure c.1) (expect w.FUNCTION ts >>= λ c. rest function c.1)
    unfolding routine_decl routine_kind
    routine-by ts = by (is_at w.PROCEDURE ts)
      where
        by : (b : Bool) → (cond b (expect w.PROCEDURE ts >>= kinded procedure) (expect w.FUNCTION ts >>= kinded function) >>= λ k. rest k.0 k.1)
            ≡ cond b (expect w.PROCEDURE ts >>= λ c. rest procedure c.1) (expect w.FUNCTION ts >>= λ c. rest function c.1)
        by true = regroup procedure (expect w.PROCEDURE ts)
        by false = regroup function (expect w.FUNCTION ts)

    via-same : {A : Type 0} (p q : Parse P A) (O : Part P) → ((ts : List (Tok P)) → p ts ≡ q ts) → Via q O → Via p O
    via-same p q O same h = record {
      value = h.value;
      some = h.some;
      free = λ ts vs x e. h.free ts vs x (sym (same ts) ∙ e);
      viable = λ ts n e. h.viable ts n (sym (same ts) ∙ e);
    }

    via-routine : Via (routine_decl {P = P} d) (Whole (IsRoutineWithin (suc d)))
    via-routine =
        via-same (routine_decl d) (λ ts. cond (is_at w.PROCEDURE ts) (expect w.PROCEDURE ts >>= λ c. rest procedure c.1) (expect w.FUNCTION ts >>= λ c. rest function c.1)) (Whole (IsRoutineWithin (suc d))) routine-by
        (imp (Whole (IsRoutineWithin (suc d))) routine-words (either (is_at w.PROCEDURE) _ _ RoutineWords
        (imp RoutineWords (λ ts us x. inl x) (bind (expect w.PROCEDURE) (a w.PROCEDURE) (RoutineRest procedure) _ (via-word o w.PROCEDURE) (λ c. via-rest procedure)))
        (imp RoutineWords (λ ts us x. inr x) (bind (expect w.FUNCTION) (a w.FUNCTION) (RoutineRest function) _ (via-word o w.FUNCTION) (λ c. via-rest function)))))

    via-routines : Via (routines {P = P} d) (Whole (Each (IsRoutineWithin (suc d))))
    unfolding routines
    via-routines = via-many begins_routine (routine_decl d) (IsRoutineWithin (suc d)) via-routine

    via-entry : Via (entry_decl {P = P} d) (Whole (IsEntryWithin (suc d)))
    unfolding entry_decl
    via-entry =
        imp (Whole (IsEntryWithin (suc d))) (λ ts us (v, c, (r, t)). (r, (v, c, t)))
        (bind (expect w.ENTRY) (a w.ENTRY) (Whole (IsRoutineWithin (suc d))) _ (via-word o w.ENTRY) (λ c. via-routine))

    via-entries : Via (entries {P = P} d) (Whole (Each (IsEntryWithin (suc d))))
    unfolding entries
    via-entries = via-many (is_at w.ENTRY) (entry_decl d) (IsEntryWithin (suc d)) via-entry

    via-monitor : Via (monitor_decl {P = P} d) (Whole (IsMonitorWithin (suc d)))
    unfolding monitor_decl
    via-monitor =
        imp (Whole (IsMonitorWithin (suc d)))
        (λ ts us (v1, c, (v2, (n, (q, t2)), (v3, (ms, t3), (v4, (es, t4), (v5, e, (m, (q2, t6))))))). (record { name = n; place = q; members = ms; entries = es; close = m; close_place = q2 }, (v1, c, (v2, t2, (v3, t3, (v4, t4, (v5, e, t6)))))))
        (bind (expect w.MONITOR) (a w.MONITOR) _ _ (via-word o w.MONITOR) (λ c. bind name a_name _ _ (via-name o) (λ n. bind members (Whole (Each IsMember)) _ _ via-members (λ ms.
        bind (entries d) (Whole (Each (IsEntryWithin (suc d)))) _ _ via-entries (λ es. last close Close _ via-close (λ c. via-ok _))))))

    via-handler : Via (handler {P = P} d) (Whole (IsHandlerWithin (suc d)))
    unfolding handler
    via-handler =
        either (is_at w.HANDLER) _ _ (Whole (IsHandlerWithin (suc d)))
        (imp (Whole (IsHandlerWithin (suc d))) (λ ts us (v1, c, (v4, (v2, l, (v3, (ns, t3), r)), (ss, t))). (Some (record { numbers = ns; body = ss }), (v1, c, (v2, l, (v3, t3, (v4, r, t))))))
        (bind (expect w.HANDLER) (a w.HANDLER) _ _ (via-word o w.HANDLER) (λ c. bind numbers NumbersPart _ _ via-numbers (λ ns. last (stmts d) SS _ (via-stmts o d) (λ ss. via-ok _)))))
        (imp (Whole (IsHandlerWithin (suc d))) (λ ts us same. (None, same)) (via-ok _))

    via-process : Via (process_decl {P = P} d) (Whole (IsProcessWithin (suc d)))
    unfolding process_decl
    via-process =
        imp (Whole (IsProcessWithin (suc d)))
        (λ ts us (v1, c, (v2, (n, (q, t2)), (v3, x, (v4, (y, t4), (v5, (vs, t5), (v6, (rs, t6), (v8, (v7, b, (ss, t8)), (v9, (h, t9), (v10, e, (m, (q2, t11))))))))))). (
          record { name = n; place = q; activation = y; vars = vs; routines = rs; body = ss; handler = h; close = m; close_place = q2 },
          (v1, c, (v2, t2, (v3, x, (v4, t4, (v5, t5, (v6, t6, (v7, b, (v8, t8, (v9, t9, (v10, e, t11)))))))))),
        ))
        (bind (expect w.PROCESS) (a w.PROCESS) _ _ (via-word o w.PROCESS) (λ c. bind name a_name _ _ (via-name o) (λ n. bind (expect w.COLON) (a w.COLON) _ _ (via-word o w.COLON) (λ c.
        bind activation (Whole IsActivation) _ _ via-activation (λ x. bind vars (Whole (Each IsVar)) _ _ via-vars (λ vs. bind (routines d) (Whole (Each (IsRoutineWithin (suc d)))) _ _ via-routines (λ rs.
        bind (block d) (a w.BEGIN ▷ SS) _ _ via-block (λ b. bind (handler d) (Whole (IsHandlerWithin (suc d))) _ _ via-handler (λ h. last close Close _ via-close (λ c. via-ok _))))))))))

    abbrev D : Part P
    D = Whole (IsDeclWithin (suc d))

    via-const : Via (const_decl {P = P}) D
    unfolding const_decl
    via-const =
        imp D (λ ts us (v1, c, (v2, (n, (q, t2)), (v3, x, (k, t4)))). (tree.constant n q k, (v1, c, (v2, t2, (v3, x, t4)))))
        (bind (expect w.CONST) (a w.CONST) _ _ (via-word o w.CONST) (λ c. bind name a_name _ _ (via-name o) (λ n. bind (expect w.ASSIGN) (a w.ASSIGN) _ _ (via-word o w.ASSIGN) (λ c.
        last constant C _ (via-constant o) (λ k. via-ok _)))))

    via-device : Via (device_decl {P = P}) D
    unfolding device_decl
    via-device =
        imp D (λ ts us (v1, c, (v2, (n, (q, t2)), (v3, x, (k, t4)))). (device n q k, (v1, c, (v2, t2, (v3, x, t4)))))
        (bind (expect w.DEVICE) (a w.DEVICE) _ _ (via-word o w.DEVICE) (λ c. bind name a_name _ _ (via-name o) (λ n. bind (expect w.COLON) (a w.COLON) _ _ (via-word o w.COLON) (λ c.
        last way (Whole (λ x. a (way_word x))) _ via-way (λ k. via-ok _)))))

    via-event : Via (event_decl {P = P}) D
    unfolding event_decl
    via-event =
        imp D (λ ts us (v1, c, (n, (q, t2))). (event n q, (v1, c, t2))) (bind (expect w.EVENT) (a w.EVENT) _ _ (via-word o w.EVENT) (λ c. last name a_name _ (via-name o) (λ n. via-ok _)))

    via-decl : Via (decl {P = P} d) D
    unfolding decl
    via-decl =
        either (is_at w.CONST) _ _ D via-const (either (is_at w.DEVICE) _ _ D via-device (either (is_at w.EVENT) _ _ D via-event
        (either (is_at w.MONITOR) _ _ D (imp D (λ ts us (m, t). (monitor m, t)) (last (monitor_decl d) (Whole (IsMonitorWithin (suc d))) _ via-monitor (λ m. via-ok _)))
        (either (is_at w.PROCESS) _ _ D (imp D (λ ts us (m, t). (process m, t)) (last (process_decl d) (Whole (IsProcessWithin (suc d))) _ via-process (λ m. via-ok _)))
        (imp D (λ ts us (m, t). (routine m, t)) (last (routine_decl d) (Whole (IsRoutineWithin (suc d))) _ via-routine (λ m. via-ok _)))))))

    via-decls : Via (decls {P = P} d) (Whole (Each (IsDeclWithin (suc d))))
    unfolding decls
    via-decls = via-many begins_decl (decl d) (IsDeclWithin (suc d)) via-decl

    abbrev G : Part P
    G = Whole (IsProgWithin (suc d))

    via-prog : Via (prog {P = P} d) G
    unfolding prog
    via-prog =
        imp G (λ ts us (v1, c, (v2, (n, (q, t2)), (v3, (ds, t3), (v4, e, (m, (q2, t5)))))). (record { name = n; place = q; decls = ds; close = m; close_place = q2 }, (v1, c, (v2, t2, (v3, t3, (v4, e, t5))))))
        (bind (expect w.PROGRAM) (a w.PROGRAM) _ _ (via-word o w.PROGRAM) (λ c. bind name a_name _ _ (via-name o) (λ n. bind (decls d) (Whole (Each (IsDeclWithin (suc d)))) _ _ via-decls (λ ds.
        last close Close _ via-close (λ c. via-ok _)))))

    -- the tokens before a fault of the grammar can be gone on with
    pub whole-viable : (ts : List (Tok P)) (n : ℕ) → whole d ts ≡ Err (syntax n) → Partial G ts n
    unfolding whole
    whole-viable ts n e = by_step (prog d ts) _ (syntax n) (λ bad. via-prog.viable ts n bad) (λ x good bad. last-left x.1 x.0 (via-prog.free ts x.1 x.0 good) bad) e
      where
        last-left : (vs : List (Tok P)) (g : Prog P) → Free G ts vs → if_last g vs ≡ Err (syntax n) → Partial G ts n
        last-left [] g r bad = cc
        last-left (t ∷ vs) g r bad = record { front = r.front; rest = t ∷ vs; more = []; is = r.is; left = cc; fits = r.fits }
