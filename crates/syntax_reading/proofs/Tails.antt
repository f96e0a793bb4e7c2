-- Each part of a program leaves the end of the list that it stands at.
use Rattle.std.proofs.Common.{◌≡◌, ℕ, zero, suc, List, [], ◌∷◌, ◌++◌, true, false, Option, Some, None, ap, sym, ◌∙◌, append_assoc}
use Rattle.syntax_tree.specs.Placed as tree
use Rattle.syntax_tree.specs.Placed.{Constant, literal_constant, named_constant, Expr, literal, truth, variable, element, call, minus, negation, paren, row, Exprs, no_exprs, exprs, Operands, no_operands, operand, Ref, whole, part, Stmt, assign, assign_entry, assign_empty, perform, perform_entry, when, when_else, loop, exit_when, get, put, wait, signal, broadcast, except, assert, Stmts, no_stmts, stmts, Scalar, int, boolean, subrange, Kind, scalar, array, Var, Param, RoutineKind, procedure, function, Routine, Member, variable_member, condition_member, Monitor, Activation, periodic, at_event, Handler, Process, Decl, device, event, routine, monitor, process}
use Rattle.syntax.specs.Words as w
use Rattle.syntax.specs.Words.{Word, named, number, Tok}
use Rattle.syntax.specs.ExprGrammar.{at, a, ◌▷◌, Each, Listed, SomeListed, IsConstant, op_word, IsExpr, AreOperands, AreArgs, AreMoreArgs, InParens}
use Rattle.syntax.specs.StmtGrammar.{IsRef, IsStmt, AreStmts}
use Rattle.syntax.specs.Grammar.{MOST_LEVELS, kind_word, IsScalar, IsKind, IsVar, IsParam, IsResult, IsValue, IsRoutine, IsMember, IsEntry, IsMonitor, IsDeadline, IsFirst, IsActivation, IsHandler, IsProcess, way_word, IsDecl}
use Rattle.syntax.specs.Opening.{Part}

module _ {P : Type 0} where
  -- the second list is the end of the first
  pub record IsEnd (ts us : List (Tok P)) : Type 0 where
    pub front : List (Tok P)
    pub is : ts ≡ front ++ us

  infixr 5 ◌⨾◌
  pub ◌⨾◌ : {ts us vs : List (Tok P)} → IsEnd ts us → IsEnd us vs → IsEnd ts vs
  ◌⨾◌ {ts} {us} {vs} h g = record { front = h.front ++ g.front; is = h.is ∙ ap (λ x. h.front ++ x) g.is ∙ sym (append_assoc h.front g.front vs) }

  abbrev pub Leaves : Part P → Type 0
  Leaves R = (ts us : List (Tok P)) → R ts us → IsEnd ts us

  pub nothing-end : (ts us : List (Tok P)) → ts ≡ us → IsEnd ts us
  nothing-end ts us same = record { front = []; is = same }

  pub at-end : (word : Word) (p : P) → Leaves (at word p)
  at-end word p ts us took = record { front = record { word = word; place = p } ∷ []; is = took }

  pub a-end : (word : Word) → Leaves (a word)
  a-end word ts us (p, took) = at-end word p ts us took

  pub each-end : {A : Type 0} (R : A → Part P) → ((x : A) → Leaves (R x)) → (xs : List A) → Leaves (Each R xs)
  each-end R r [] ts us took = nothing-end ts us took
  each-end R r (x ∷ xs) ts us (vs, took, more) = r x ts vs took ⨾ each-end R r xs vs us more

  pub listed-end : {A : Type 0} (R : A → Part P) → ((x : A) → Leaves (R x)) → (xs : List A) → Leaves (Listed R xs)
  listed-end R r [] ts us took = absurd took
  listed-end R r (x ∷ xs) ts us (vs, took, more) =
      r x ts vs took ⨾ each-end (λ x. a w.COMMA ▷ R x) (λ x ts us (vs, comma, took). a-end w.COMMA ts vs comma ⨾ r x vs us took) xs vs us more

  pub some-listed-end : {A : Type 0} (R : A → Part P) → ((x : A) → Leaves (R x)) → (xs : List A) → Leaves (SomeListed R xs)
  some-listed-end R r [] ts us took = nothing-end ts us took
  some-listed-end R r (x ∷ xs) ts us took = listed-end R r (x ∷ xs) ts us took

  pub constant-end : (c : Constant P) → Leaves (IsConstant c)
  constant-end (literal_constant p true n q) ts us (vs, t1, t2) = at-end w.MINUS p ts vs t1 ⨾ at-end (number n) q vs us t2
  constant-end (literal_constant p false n q) ts us (same, took) = at-end (number n) p ts us took
  constant-end (named_constant p true n q) ts us (vs, t1, t2) = at-end w.MINUS p ts vs t1 ⨾ at-end (named n) q vs us t2
  constant-end (named_constant p false n q) ts us (same, took) = at-end (named n) p ts us took

  mutual
    pub expr-end : (l depth : ℕ) (e : Expr P) → Leaves (IsExpr l depth e)
    expr-end l depth (literal p n) ts us took = at-end (number n) p ts us took
    expr-end l depth (truth p true) ts us took = at-end w.TRUE p ts us took
    expr-end l depth (truth p false) ts us took = at-end w.FALSE p ts us took
    expr-end l depth (variable p n) ts us took = at-end (named n) p ts us took
    expr-end l zero (element p n i) ts us (v1, t1, more) = absurd more
    expr-end l (suc depth) (element p n i) ts us (v1, t1, (v2, t2, (v3, t3, t4))) =
        at-end (named n) p ts v1 t1 ⨾ a-end w.LEFT_BRACKET v1 v2 t2 ⨾ expr-end 5 depth i v2 v3 t3 ⨾ a-end w.RIGHT_BRACKET v3 us t4
    expr-end l zero (call p n es) ts us (v1, t1, more) = absurd more
    expr-end l (suc depth) (call p n es) ts us (v1, t1, (v2, t2, (v3, t3, t4))) =
        at-end (named n) p ts v1 t1 ⨾ a-end w.LEFT_PAREN v1 v2 t2 ⨾ args-end depth es v2 v3 t3 ⨾ a-end w.RIGHT_PAREN v3 us t4
    expr-end l zero (minus p e) ts us took = absurd took
    expr-end l (suc depth) (minus p e) ts us (v1, t1, t2) = at-end w.MINUS p ts v1 t1 ⨾ expr-end 0 depth e v1 us t2
    expr-end l zero (negation p e) ts us took = absurd took
    expr-end l (suc depth) (negation p e) ts us (v1, t1, t2) = at-end w.NOT p ts v1 t1 ⨾ expr-end 0 depth e v1 us t2
    expr-end l zero (paren p e) ts us took = absurd took
    expr-end l (suc depth) (paren p e) ts us (v1, t1, (v2, t2, t3)) =
        at-end w.LEFT_PAREN p ts v1 t1 ⨾ expr-end 5 depth e v1 v2 t2 ⨾ a-end w.RIGHT_PAREN v2 us t3
    expr-end l depth (row e rs) ts us (m, within, shape, (v1, t1, t2)) = expr-end m depth e ts v1 t1 ⨾ operands-end m depth rs v1 us t2

    operands-end : (l depth : ℕ) (rs : Operands P) → Leaves (AreOperands l depth rs)
    operands-end l depth no_operands ts us took = nothing-end ts us took
    operands-end l depth (operand op e rs) ts us (v1, (high, t1), (v2, t2, t3)) =
        a-end (op_word op) ts v1 t1 ⨾ expr-end l depth e v1 v2 t2 ⨾ operands-end l depth rs v2 us t3

    args-end : (depth : ℕ) (es : Exprs P) → Leaves (AreArgs depth es)
    args-end depth no_exprs ts us took = nothing-end ts us took
    args-end depth (exprs e es) ts us (v1, t1, t2) = expr-end 5 depth e ts v1 t1 ⨾ more-end depth es v1 us t2

    more-end : (depth : ℕ) (es : Exprs P) → Leaves (AreMoreArgs depth es)
    more-end depth no_exprs ts us took = nothing-end ts us took
    more-end depth (exprs e es) ts us (v1, t1, (v2, t2, t3)) = a-end w.COMMA ts v1 t1 ⨾ expr-end 5 depth e v1 v2 t2 ⨾ more-end depth es v2 us t3

  parens-end : (depth : ℕ) (es : Exprs P) → Leaves (InParens depth es)
  parens-end zero es ts us took = absurd took
  parens-end (suc depth) es ts us (v1, t1, (v2, t2, t3)) = a-end w.LEFT_PAREN ts v1 t1 ⨾ args-end depth es v1 v2 t2 ⨾ a-end w.RIGHT_PAREN v2 us t3

  pub ref-end : (depth : ℕ) (r : Ref P) → Leaves (IsRef depth r)
  ref-end depth (whole p n) = at-end (named n) p
  ref-end depth (part p n i) = expr-end 0 depth (element p n i)

  -- ---- statements

  mutual
    stmt-end : (depth : ℕ) (s : Stmt P) → Leaves (IsStmt depth s)
    stmt-end depth (assign r e) ts us (v1, t1, (v2, t2, t3)) = ref-end depth r ts v1 t1 ⨾ a-end w.ASSIGN v1 v2 t2 ⨾ expr-end 5 depth e v2 us t3
    stmt-end depth (assign_entry r mon p entry q es) ts us (v1, t1, (v2, t2, (v3, t3, (v4, t4, (v5, t5, t6))))) =
        ref-end depth r ts v1 t1 ⨾ a-end w.ASSIGN v1 v2 t2 ⨾ at-end (named mon) p v2 v3 t3 ⨾ a-end w.DOT v3 v4 t4 ⨾ at-end (named entry) q v4 v5 t5 ⨾ parens-end depth es v5 us t6
    stmt-end depth (assign_empty r cond p) ts us (v1, t1, (v2, t2, (v3, t3, t4))) =
        ref-end depth r ts v1 t1 ⨾ a-end w.ASSIGN v1 v2 t2 ⨾ a-end w.EMPTY v2 v3 t3 ⨾ at-end (named cond) p v3 us t4
    stmt-end depth (perform p n es) ts us (v1, t1, t2) = at-end (named n) p ts v1 t1 ⨾ parens-end depth es v1 us t2
    stmt-end depth (perform_entry p mon entry q es) ts us (v1, t1, (v2, t2, (v3, t3, t4))) =
        at-end (named mon) p ts v1 t1 ⨾ a-end w.DOT v1 v2 t2 ⨾ at-end (named entry) q v2 v3 t3 ⨾ parens-end depth es v3 us t4
    stmt-end zero (when p e ss) ts us took = absurd took
    stmt-end (suc depth) (when p e ss) ts us (v1, t1, (v2, t2, (v3, t3, (v4, t4, (v5, t5, t6))))) =
        at-end w.IF p ts v1 t1 ⨾ expr-end 5 depth e v1 v2 t2 ⨾ a-end w.THEN v2 v3 t3 ⨾ stmts-end depth ss v3 v4 t4 ⨾ a-end w.END v4 v5 t5 ⨾ a-end w.IF v5 us t6
    stmt-end zero (when_else p e ss others) ts us took = absurd took
    stmt-end (suc depth) (when_else p e ss others) ts us (v1, t1, (v2, t2, (v3, t3, (v4, t4, (v5, t5, (v6, t6, (v7, t7, t8))))))) =
        at-end w.IF p ts v1 t1 ⨾ expr-end 5 depth e v1 v2 t2 ⨾ a-end w.THEN v2 v3 t3 ⨾ stmts-end depth ss v3 v4 t4 ⨾ a-end w.ELSE v4 v5 t5
        ⨾ stmts-end depth others v5 v6 t6 ⨾ a-end w.END v6 v7 t7 ⨾ a-end w.IF v7 us t8
    stmt-end zero (loop p n q low high ss) ts us took = absurd took
    stmt-end (suc depth) (loop p n q low high ss) ts us (v1, t1, (v2, t2, (v3, t3, (v4, t4, (v5, t5, (v6, t6, (v7, t7, (v8, t8, (v9, t9, t10))))))))) =
        at-end w.FOR p ts v1 t1 ⨾ at-end (named n) q v1 v2 t2 ⨾ a-end w.COLON v2 v3 t3 ⨾ constant-end low v3 v4 t4 ⨾ a-end w.RANGE v4 v5 t5
        ⨾ constant-end high v5 v6 t6 ⨾ a-end w.DO v6 v7 t7 ⨾ stmts-end depth ss v7 v8 t8 ⨾ a-end w.END v8 v9 t9 ⨾ a-end w.FOR v9 us t10
    stmt-end depth (exit_when p e) ts us (v1, t1, (v2, t2, t3)) = at-end w.EXIT p ts v1 t1 ⨾ a-end w.WHEN v1 v2 t2 ⨾ expr-end 5 depth e v2 us t3
    stmt-end depth (get p dev q r) ts us (v1, t1, (v2, t2, t3)) = at-end w.GET p ts v1 t1 ⨾ at-end (named dev) q v1 v2 t2 ⨾ ref-end depth r v2 us t3
    stmt-end depth (put p dev q e) ts us (v1, t1, (v2, t2, t3)) = at-end w.PUT p ts v1 t1 ⨾ at-end (named dev) q v1 v2 t2 ⨾ expr-end 5 depth e v2 us t3
    stmt-end depth (wait p cond q limit c) ts us (v1, t1, (v2, t2, (v3, t3, (v4, t4, (v5, t5, t6))))) =
        at-end w.WAIT p ts v1 t1 ⨾ at-end (named cond) q v1 v2 t2 ⨾ a-end w.NO_LONGER_THAN v2 v3 t3 ⨾ constant-end limit v3 v4 t4 ⨾ a-end w.COLON v4 v5 t5
        ⨾ constant-end c v5 us t6
    stmt-end depth (signal p cond q) ts us (v1, t1, t2) = at-end w.SIGNAL p ts v1 t1 ⨾ at-end (named cond) q v1 us t2
    stmt-end depth (broadcast p cond q) ts us (v1, t1, t2) = at-end w.BROADCAST p ts v1 t1 ⨾ at-end (named cond) q v1 us t2
    stmt-end depth (except p c) ts us (v1, t1, t2) = at-end w.EXCEPT p ts v1 t1 ⨾ constant-end c v1 us t2
    stmt-end depth (assert p e) ts us (v1, t1, t2) = at-end w.ASSERT p ts v1 t1 ⨾ expr-end 5 depth e v1 us t2

    pub stmts-end : (depth : ℕ) (ss : Stmts P) → Leaves (AreStmts depth ss)
    stmts-end depth no_stmts ts us took = nothing-end ts us took
    stmts-end depth (stmts s ss) ts us (v1, t1, t2) = stmt-end depth s ts v1 t1 ⨾ stmts-end depth ss v1 us t2

  -- ---- declarations

  scalar-end : (s : Scalar P) → Leaves (IsScalar s)
  scalar-end int ts us took = a-end w.INT ts us took
  scalar-end boolean ts us took = a-end w.BOOLEAN ts us took
  scalar-end (subrange low high) ts us (v1, t1, (v2, t2, t3)) = constant-end low ts v1 t1 ⨾ a-end w.RANGE v1 v2 t2 ⨾ constant-end high v2 us t3

  kind-end : (k : Kind P) → Leaves (IsKind k)
  kind-end (scalar s) ts us took = scalar-end s ts us took
  kind-end (array low high s) ts us (v1, t1, (v2, t2, (v3, t3, (v4, t4, (v5, t5, t6))))) =
      a-end w.ARRAY ts v1 t1 ⨾ constant-end low v1 v2 t2 ⨾ a-end w.RANGE v2 v3 t3 ⨾ constant-end high v3 v4 t4 ⨾ a-end w.OF v4 v5 t5 ⨾ scalar-end s v5 us t6

  pub var-end : (x : Var P) → Leaves (IsVar x)
  var-end x ts us (v1, t1, (v2, t2, (v3, t3, t4))) =
      a-end w.VAR ts v1 t1 ⨾ at-end (named x.name) x.place v1 v2 t2 ⨾ a-end w.COLON v2 v3 t3 ⨾ kind-end x.kind v3 us t4

  pub param-end : (x : Param P) → Leaves (IsParam x)
  param-end x ts us (v1, t1, (v2, t2, t3)) = at-end (named x.name) x.place ts v1 t1 ⨾ a-end w.COLON v1 v2 t2 ⨾ scalar-end x.kind v2 us t3

  pub result-end : (k : RoutineKind) (s : Option (Scalar P)) → Leaves (IsResult k s)
  result-end procedure None ts us took = nothing-end ts us took
  result-end procedure (Some s) ts us took = absurd took
  result-end function None ts us took = absurd took
  result-end function (Some s) ts us (v1, t1, t2) = a-end w.RETURNS ts v1 t1 ⨾ scalar-end s v1 us t2

  value-end : (k : RoutineKind) (e : Option (Expr P)) → Leaves (IsValue k e)
  value-end procedure None ts us took = nothing-end ts us took
  value-end procedure (Some e) ts us took = absurd took
  value-end function None ts us took = absurd took
  value-end function (Some e) ts us (v1, t1, t2) = a-end w.RETURN ts v1 t1 ⨾ expr-end 5 MOST_LEVELS e v1 us t2

  pub routine-end : (x : Routine P) → Leaves (IsRoutine x)
  routine-end x ts us (v1, t1, (v2, t2, (v3, t3, (v4, t4, (v5, t5, (v6, t6, (v7, t7, (v8, t8, (v9, t9, (v10, t10, (v11, t11, t12))))))))))) =
      a-end (kind_word x.kind) ts v1 t1 ⨾ at-end (named x.name) x.place v1 v2 t2 ⨾ a-end w.LEFT_PAREN v2 v3 t3 ⨾ some-listed-end IsParam param-end x.params v3 v4 t4
      ⨾ a-end w.RIGHT_PAREN v4 v5 t5 ⨾ result-end x.kind x.result v5 v6 t6 ⨾ each-end IsVar var-end x.vars v6 v7 t7 ⨾ a-end w.BEGIN v7 v8 t8
      ⨾ stmts-end MOST_LEVELS x.body v8 v9 t9 ⨾ value-end x.kind x.value v9 v10 t10 ⨾ a-end w.END v10 v11 t11 ⨾ at-end (named x.close) x.close_place v11 us t12

  pub member-end : (x : Member P) → Leaves (IsMember x)
  member-end (variable_member v) ts us took = var-end v ts us took
  member-end (condition_member n p) ts us (v1, t1, t2) = a-end w.CONDITION ts v1 t1 ⨾ at-end (named n) p v1 us t2

  pub entry-end : (x : Routine P) → Leaves (IsEntry x)
  entry-end x ts us (v1, t1, t2) = a-end w.ENTRY ts v1 t1 ⨾ routine-end x v1 us t2

  monitor-end : (x : Monitor P) → Leaves (IsMonitor x)
  monitor-end x ts us (v1, t1, (v2, t2, (v3, t3, (v4, t4, (v5, t5, t6))))) =
      a-end w.MONITOR ts v1 t1 ⨾ at-end (named x.name) x.place v1 v2 t2 ⨾ each-end IsMember member-end x.members v2 v3 t3
      ⨾ each-end IsEntry entry-end x.entries v3 v4 t4 ⨾ a-end w.END v4 v5 t5 ⨾ at-end (named x.close) x.close_place v5 us t6

  first-end : (x : Option (Constant P)) → Leaves (IsFirst x)
  first-end None ts us took = nothing-end ts us took
  first-end (Some c) ts us (v1, t1, (v2, t2, (v3, t3, t4))) =
      a-end w.FIRST ts v1 t1 ⨾ a-end w.ACTIVATION v1 v2 t2 ⨾ a-end w.AT_TIME v2 v3 t3 ⨾ constant-end c v3 us t4

  deadline-end : (x : Option (Constant P)) → Leaves (IsDeadline x)
  deadline-end None ts us took = nothing-end ts us took
  deadline-end (Some c) ts us (v1, t1, t2) = a-end w.DEADLINE ts v1 t1 ⨾ constant-end c v1 us t2

  pub activation-end : (x : Activation P) → Leaves (IsActivation x)
  activation-end (periodic frame d f) ts us (v1, t1, (v2, t2, (v3, t3, (v4, t4, t5)))) =
      a-end w.PERIODIC ts v1 t1 ⨾ a-end w.FRAME v1 v2 t2 ⨾ constant-end frame v2 v3 t3 ⨾ deadline-end d v3 v4 t4 ⨾ first-end f v4 us t5
  activation-end (at_event n p frame d) ts us (v1, t1, (v2, t2, (v3, t3, (v4, t4, t5)))) =
      a-end w.AT_EVENT ts v1 t1 ⨾ at-end (named n) p v1 v2 t2 ⨾ a-end w.FRAME v2 v3 t3 ⨾ constant-end frame v3 v4 t4 ⨾ deadline-end d v4 us t5

  handler-end : (x : Option (Handler P)) → Leaves (IsHandler x)
  handler-end None ts us took = nothing-end ts us took
  handler-end (Some h) ts us (v1, t1, (v2, t2, (v3, t3, (v4, t4, t5)))) =
      a-end w.HANDLER ts v1 t1 ⨾ a-end w.LEFT_PAREN v1 v2 t2 ⨾ listed-end IsConstant constant-end h.numbers v2 v3 t3 ⨾ a-end w.RIGHT_PAREN v3 v4 t4
      ⨾ stmts-end MOST_LEVELS h.body v4 us t5

  process-end : (x : Process P) → Leaves (IsProcess x)
  process-end x ts us (v1, t1, (v2, t2, (v3, t3, (v4, t4, (v5, t5, (v6, t6, (v7, t7, (v8, t8, (v9, t9, (v10, t10, t11)))))))))) =
      a-end w.PROCESS ts v1 t1 ⨾ at-end (named x.name) x.place v1 v2 t2 ⨾ a-end w.COLON v2 v3 t3 ⨾ activation-end x.activation v3 v4 t4
      ⨾ each-end IsVar var-end x.vars v4 v5 t5 ⨾ each-end IsRoutine routine-end x.routines v5 v6 t6 ⨾ a-end w.BEGIN v6 v7 t7
      ⨾ stmts-end MOST_LEVELS x.body v7 v8 t8 ⨾ handler-end x.handler v8 v9 t9 ⨾ a-end w.END v9 v10 t10 ⨾ at-end (named x.close) x.close_place v10 us t11

  pub decl-end : (x : Decl P) → Leaves (IsDecl x)
  decl-end (tree.constant n p c) ts us (v1, t1, (v2, t2, (v3, t3, t4))) =
      a-end w.CONST ts v1 t1 ⨾ at-end (named n) p v1 v2 t2 ⨾ a-end w.ASSIGN v2 v3 t3 ⨾ constant-end c v3 us t4
  decl-end (device n p o) ts us (v1, t1, (v2, t2, (v3, t3, t4))) =
      a-end w.DEVICE ts v1 t1 ⨾ at-end (named n) p v1 v2 t2 ⨾ a-end w.COLON v2 v3 t3 ⨾ a-end (way_word o) v3 us t4
  decl-end (event n p) ts us (v1, t1, t2) = a-end w.EVENT ts v1 t1 ⨾ at-end (named n) p v1 us t2
  decl-end (routine r) ts us took = routine-end r ts us took
  decl-end (monitor m) ts us took = monitor-end m ts us took
  decl-end (process p) ts us took = process-end p ts us took
