-- The words of a list of tokens are those of its tree, whatever the places.
use Rattle.std.proofs.Common.{◌≡◌, ℕ, zero, suc, true, false, List, [], ◌∷◌, map, Option, Some, None, ap, sym, ◌∙◌}
use Rattle.syntax_tree.specs.Placed.{Constant, literal_constant, named_constant, Scalar, int, boolean, subrange, Kind, scalar, array, Var, Param, Expr, literal, truth, variable, element, call, minus, negation, paren, row, Exprs, no_exprs, exprs, Operands, no_operands, operand, Ref, whole, part, Stmt, assign, assign_entry, assign_empty, perform, perform_entry, when, when_else, loop, exit_when, get, put, wait, signal, broadcast, except, assert, Stmts, no_stmts, stmts, RoutineKind, procedure, function, Routine, Member, variable_member, condition_member, Monitor, Activation, periodic, at_event, Handler, Process, Decl, constant, device, event, routine, monitor, process, Prog, optional}
use Rattle.syntax_tree.specs.Bare.{bare_constant, bare_scalar, bare_kind, bare_var, bare_param, bare_expr, bare_exprs, bare_operands, bare_ref, bare_stmt, bare_stmts, bare_routine, bare_member, bare_monitor, bare_activation, bare_handler, bare_process, bare_decl, bare}
use Rattle.syntax.specs.Words as w
use Rattle.syntax.specs.Words.{Word, named, number, Tok, words_of}
use Rattle.syntax.specs.ExprGrammar.{a, ◌▷◌, Each, Listed, SomeListed, IsConstant, op_word, IsExpr, AreOperands, AreArgs, AreMoreArgs, InParens}
use Rattle.syntax.specs.StmtGrammar.{IsRef, IsStmt, AreStmts}
use Rattle.syntax.specs.Grammar.{MOST_LEVELS, IsScalar, IsKind, IsVar, IsParam, kind_word, IsResult, IsValue, IsRoutine, IsMember, IsEntry, IsMonitor, IsDeadline, IsFirst, IsActivation, IsHandler, IsProcess, IsDecl, IsProg}
use Rattle.syntax_reading.specs.TreeWords.{each_words, listed_words, optional_words, constant_words, expr_words, operands_words, args_words, more_words, parens_words, ref_words, stmt_words, stmts_words, scalar_words, kind_words, var_words, param_words, result_words, value_words, routine_words, member_words, entry_words, monitor_words, deadline_words, first_words, activation_words, handler_words, process_words, decl_words, prog_words}

module _ {P : Type 0} where
  -- a part has these words
  abbrev Has : (List (Tok P) → List (Tok P) → Type 0) → (List Word → List Word) → Type 0
  Has R f = (ts us : List (Tok P)) → R ts us → words_of ts ≡ f (words_of us)

  each-words : {A B : Type 0} (R : A → List (Tok P) → List (Tok P) → Type 0) (b : A → B) (f : B → List Word → List Word) → ((x : A) → Has (R x) (f (b x)))
      → (xs : List A) → Has (Each R xs) (each_words f (map b xs))
  each-words R b f has [] ts us took = ap words_of took
  each-words R b f has (x ∷ xs) ts us (vs, took, more) = has x ts vs took ∙ ap (f (b x)) (each-words R b f has xs vs us more)

  commas : {A B : Type 0} (R : A → List (Tok P) → List (Tok P) → Type 0) (b : A → B) (f : B → List Word → List Word) → ((x : A) → Has (R x) (f (b x)))
      → (x : A) → Has (a w.COMMA ▷ R x) (λ us. w.COMMA ∷ f (b x) us)
  commas R b f has x ts us (vs, (q, c), took) = ap words_of c ∙ ap (λ y. w.COMMA ∷ y) (has x vs us took)

  listed-words : {A B : Type 0} (R : A → List (Tok P) → List (Tok P) → Type 0) (b : A → B) (f : B → List Word → List Word) → ((x : A) → Has (R x) (f (b x)))
      → (xs : List A) → Has (Listed R xs) (listed_words f (map b xs))
  listed-words R b f has [] ts us took = absurd took
  listed-words R b f has (x ∷ xs) ts us (vs, took, more) =
      has x ts vs took ∙ ap (f (b x)) (each-words (λ y. a w.COMMA ▷ R y) b (λ y us. w.COMMA ∷ f y us) (commas R b f has) xs vs us more)

  some-listed-words : {A B : Type 0} (R : A → List (Tok P) → List (Tok P) → Type 0) (b : A → B) (f : B → List Word → List Word) → ((x : A) → Has (R x) (f (b x)))
      → (xs : List A) → Has (SomeListed R xs) (listed_words f (map b xs))
  some-listed-words R b f has [] ts us took = ap words_of took
  some-listed-words R b f has (x ∷ xs) ts us took = listed-words R b f has (x ∷ xs) ts us took

  constant-words : (c : Constant P) → Has (IsConstant c) (constant_words (bare_constant c))
  constant-words (literal_constant p true n q) ts us (v1, t1, t2) = ap words_of t1 ∙ ap (λ x. w.MINUS ∷ x) (ap words_of t2)
  constant-words (literal_constant p false n q) ts us (same, took) = ap words_of took
  constant-words (named_constant p true n q) ts us (v1, t1, t2) = ap words_of t1 ∙ ap (λ x. w.MINUS ∷ x) (ap words_of t2)
  constant-words (named_constant p false n q) ts us (same, took) = ap words_of took

  mutual
    pub expr-words : (l depth : ℕ) (e : Expr P) → Has (IsExpr l depth e) (expr_words (bare_expr e))
    expr-words l depth (literal p n) ts us took = ap words_of took
    expr-words l depth (truth p true) ts us took = ap words_of took
    expr-words l depth (truth p false) ts us took = ap words_of took
    expr-words l depth (variable p n) ts us took = ap words_of took
    expr-words l zero (element p n i) ts us (v1, t1, more) = absurd more
    expr-words l (suc depth) (element p n i) ts us (v1, t1, (v2, (q2, t2), (v3, t3, (q4, t4)))) = ap words_of t1 ∙ ap (λ x. named n ∷ x) (ap words_of t2 ∙ ap (λ x. w.LEFT_BRACKET ∷ x) (expr-words 5 depth i v2 v3 t3 ∙ ap (expr_words (bare_expr i)) (ap words_of t4)))
    expr-words l zero (call p n es) ts us (v1, t1, more) = absurd more
    expr-words l (suc depth) (call p n es) ts us (v1, t1, (v2, (q2, t2), (v3, t3, (q4, t4)))) = ap words_of t1 ∙ ap (λ x. named n ∷ x) (ap words_of t2 ∙ ap (λ x. w.LEFT_PAREN ∷ x) (args-words depth es v2 v3 t3 ∙ ap (args_words (bare_exprs es)) (ap words_of t4)))
    expr-words l zero (minus p e) ts us took = absurd took
    expr-words l (suc depth) (minus p e) ts us (v1, t1, t2) = ap words_of t1 ∙ ap (λ x. w.MINUS ∷ x) (expr-words 0 depth e v1 us t2)
    expr-words l zero (negation p e) ts us took = absurd took
    expr-words l (suc depth) (negation p e) ts us (v1, t1, t2) = ap words_of t1 ∙ ap (λ x. w.NOT ∷ x) (expr-words 0 depth e v1 us t2)
    expr-words l zero (paren p e) ts us took = absurd took
    expr-words l (suc depth) (paren p e) ts us (v1, t1, (v2, t2, (q3, t3))) = ap words_of t1 ∙ ap (λ x. w.LEFT_PAREN ∷ x) (expr-words 5 depth e v1 v2 t2 ∙ ap (expr_words (bare_expr e)) (ap words_of t3))
    expr-words l depth (row e rs) ts us (m, within, shape, (v1, t1, t2)) = expr-words m depth e ts v1 t1 ∙ ap (expr_words (bare_expr e)) (operands-words m depth rs v1 us t2)

    operands-words : (l depth : ℕ) (rs : Operands P) → Has (AreOperands l depth rs) (operands_words (bare_operands rs))
    operands-words l depth no_operands ts us took = ap words_of took
    operands-words l depth (operand op e rs) ts us (v1, (high, (q, t1)), (v2, t2, t3)) =
        ap words_of t1 ∙ ap (λ x. op_word op ∷ x) (expr-words l depth e v1 v2 t2 ∙ ap (expr_words (bare_expr e)) (operands-words l depth rs v2 us t3))

    args-words : (depth : ℕ) (es : Exprs P) → Has (AreArgs depth es) (args_words (bare_exprs es))
    args-words depth no_exprs ts us took = ap words_of took
    args-words depth (exprs e es) ts us (v1, t1, t2) = expr-words 5 depth e ts v1 t1 ∙ ap (expr_words (bare_expr e)) (more-words depth es v1 us t2)

    more-words : (depth : ℕ) (es : Exprs P) → Has (AreMoreArgs depth es) (more_words (bare_exprs es))
    more-words depth no_exprs ts us took = ap words_of took
    more-words depth (exprs e es) ts us (v1, (q, t1), (v2, t2, t3)) =
        ap words_of t1 ∙ ap (λ x. w.COMMA ∷ x) (expr-words 5 depth e v1 v2 t2 ∙ ap (expr_words (bare_expr e)) (more-words depth es v2 us t3))

  parens-words : (depth : ℕ) (es : Exprs P) → Has (InParens depth es) (parens_words (bare_exprs es))
  parens-words zero es ts us took = absurd took
  parens-words (suc depth) es ts us (v1, (q1, t1), (v2, t2, (q3, t3))) = ap words_of t1 ∙ ap (λ x. w.LEFT_PAREN ∷ x) (args-words depth es v1 v2 t2 ∙ ap (args_words (bare_exprs es)) (ap words_of t3))

  ref-words : (depth : ℕ) (r : Ref P) → Has (IsRef depth r) (ref_words (bare_ref r))
  ref-words depth (whole p n) ts us took = ap words_of took
  ref-words depth (part p n i) ts us took = expr-words 0 depth (element p n i) ts us took

  mutual
    stmt-words : (depth : ℕ) (s : Stmt P) → Has (IsStmt depth s) (stmt_words (bare_stmt s))
    stmt-words depth (assign r e) ts us (v1, t1, (v2, (q2, t2), t3)) = ref-words depth r ts v1 t1 ∙ ap (ref_words (bare_ref r)) (ap words_of t2 ∙ ap (λ x. w.ASSIGN ∷ x) (expr-words 5 depth e v2 us t3))
    stmt-words depth (assign_entry r mon p entry q es) ts us (v1, t1, (v2, (q2, t2), (v3, t3, (v4, (q4, t4), (v5, t5, t6))))) = ref-words depth r ts v1 t1 ∙ ap (ref_words (bare_ref r)) (ap words_of t2 ∙ ap (λ x. w.ASSIGN ∷ x) (ap words_of t3 ∙ ap (λ x. named mon ∷ x) (ap words_of t4 ∙ ap (λ x. w.DOT ∷ x) (ap words_of t5 ∙ ap (λ x. named entry ∷ x) (parens-words depth es v5 us t6)))))
    stmt-words depth (assign_empty r cond p) ts us (v1, t1, (v2, (q2, t2), (v3, (q3, t3), t4))) = ref-words depth r ts v1 t1 ∙ ap (ref_words (bare_ref r)) (ap words_of t2 ∙ ap (λ x. w.ASSIGN ∷ x) (ap words_of t3 ∙ ap (λ x. w.EMPTY ∷ x) (ap words_of t4)))
    stmt-words depth (perform p n es) ts us (v1, t1, t2) = ap words_of t1 ∙ ap (λ x. named n ∷ x) (parens-words depth es v1 us t2)
    stmt-words depth (perform_entry p mon entry q es) ts us (v1, t1, (v2, (q2, t2), (v3, t3, t4))) = ap words_of t1 ∙ ap (λ x. named mon ∷ x) (ap words_of t2 ∙ ap (λ x. w.DOT ∷ x) (ap words_of t3 ∙ ap (λ x. named entry ∷ x) (parens-words depth es v3 us t4)))
    stmt-words zero (when p e ss) ts us took = absurd took
    stmt-words (suc depth) (when p e ss) ts us (v1, t1, (v2, t2, (v3, (q3, t3), (v4, t4, (v5, (q5, t5), (q6, t6)))))) = ap words_of t1 ∙ ap (λ x. w.IF ∷ x) (expr-words 5 depth e v1 v2 t2 ∙ ap (expr_words (bare_expr e)) (ap words_of t3 ∙ ap (λ x. w.THEN ∷ x) (stmts-words depth ss v3 v4 t4 ∙ ap (stmts_words (bare_stmts ss)) (ap words_of t5 ∙ ap (λ x. w.END ∷ x) (ap words_of t6)))))
    stmt-words zero (when_else p e ss others) ts us took = absurd took
    stmt-words (suc depth) (when_else p e ss others) ts us (v1, t1, (v2, t2, (v3, (q3, t3), (v4, t4, (v5, (q5, t5), (v6, t6, (v7, (q7, t7), (q8, t8)))))))) = ap words_of t1 ∙ ap (λ x. w.IF ∷ x) (expr-words 5 depth e v1 v2 t2 ∙ ap (expr_words (bare_expr e)) (ap words_of t3 ∙ ap (λ x. w.THEN ∷ x) (stmts-words depth ss v3 v4 t4 ∙ ap (stmts_words (bare_stmts ss)) (ap words_of t5 ∙ ap (λ x. w.ELSE ∷ x) (stmts-words depth others v5 v6 t6 ∙ ap (stmts_words (bare_stmts others)) (ap words_of t7 ∙ ap (λ x. w.END ∷ x) (ap words_of t8)))))))
    stmt-words zero (loop p n q low high ss) ts us took = absurd took
    stmt-words (suc depth) (loop p n q low high ss) ts us (v1, t1, (v2, t2, (v3, (q3, t3), (v4, t4, (v5, (q5, t5), (v6, t6, (v7, (q7, t7), (v8, t8, (v9, (q9, t9), (q10, t10)))))))))) = ap words_of t1 ∙ ap (λ x. w.FOR ∷ x) (ap words_of t2 ∙ ap (λ x. named n ∷ x) (ap words_of t3 ∙ ap (λ x. w.COLON ∷ x) (constant-words low v3 v4 t4 ∙ ap (constant_words (bare_constant low)) (ap words_of t5 ∙ ap (λ x. w.RANGE ∷ x) (constant-words high v5 v6 t6 ∙ ap (constant_words (bare_constant high)) (ap words_of t7 ∙ ap (λ x. w.DO ∷ x) (stmts-words depth ss v7 v8 t8 ∙ ap (stmts_words (bare_stmts ss)) (ap words_of t9 ∙ ap (λ x. w.END ∷ x) (ap words_of t10)))))))))
    stmt-words depth (exit_when p e) ts us (v1, t1, (v2, (q2, t2), t3)) = ap words_of t1 ∙ ap (λ x. w.EXIT ∷ x) (ap words_of t2 ∙ ap (λ x. w.WHEN ∷ x) (expr-words 5 depth e v2 us t3))
    stmt-words depth (get p dev q r) ts us (v1, t1, (v2, t2, t3)) = ap words_of t1 ∙ ap (λ x. w.GET ∷ x) (ap words_of t2 ∙ ap (λ x. named dev ∷ x) (ref-words depth r v2 us t3))
    stmt-words depth (put p dev q e) ts us (v1, t1, (v2, t2, t3)) = ap words_of t1 ∙ ap (λ x. w.PUT ∷ x) (ap words_of t2 ∙ ap (λ x. named dev ∷ x) (expr-words 5 depth e v2 us t3))
    stmt-words depth (wait p cond q limit c) ts us (v1, t1, (v2, t2, (v3, (q3, t3), (v4, t4, (v5, (q5, t5), t6))))) = ap words_of t1 ∙ ap (λ x. w.WAIT ∷ x) (ap words_of t2 ∙ ap (λ x. named cond ∷ x) (ap words_of t3 ∙ ap (λ x. w.NO_LONGER_THAN ∷ x) (constant-words limit v3 v4 t4 ∙ ap (constant_words (bare_constant limit)) (ap words_of t5 ∙ ap (λ x. w.COLON ∷ x) (constant-words c v5 us t6)))))
    stmt-words depth (signal p cond q) ts us (v1, t1, t2) = ap words_of t1 ∙ ap (λ x. w.SIGNAL ∷ x) (ap words_of t2)
    stmt-words depth (broadcast p cond q) ts us (v1, t1, t2) = ap words_of t1 ∙ ap (λ x. w.BROADCAST ∷ x) (ap words_of t2)
    stmt-words depth (except p c) ts us (v1, t1, t2) = ap words_of t1 ∙ ap (λ x. w.EXCEPT ∷ x) (constant-words c v1 us t2)
    stmt-words depth (assert p e) ts us (v1, t1, t2) = ap words_of t1 ∙ ap (λ x. w.ASSERT ∷ x) (expr-words 5 depth e v1 us t2)

    stmts-words : (depth : ℕ) (ss : Stmts P) → Has (AreStmts depth ss) (stmts_words (bare_stmts ss))
    stmts-words depth no_stmts ts us took = ap words_of took
    stmts-words depth (stmts s ss) ts us (v1, t1, t2) = stmt-words depth s ts v1 t1 ∙ ap (stmt_words (bare_stmt s)) (stmts-words depth ss v1 us t2)

  scalar-words : (s : Scalar P) → Has (IsScalar s) (scalar_words (bare_scalar s))
  scalar-words int ts us (q, took) = ap words_of took
  scalar-words boolean ts us (q, took) = ap words_of took
  scalar-words (subrange low high) ts us (v1, t1, (v2, (q2, t2), t3)) = constant-words low ts v1 t1 ∙ ap (constant_words (bare_constant low)) (ap words_of t2 ∙ ap (λ x. w.RANGE ∷ x) (constant-words high v2 us t3))

  kind-words : (k : Kind P) → Has (IsKind k) (kind_words (bare_kind k))
  kind-words (scalar s) ts us took = scalar-words s ts us took
  kind-words (array low high s) ts us (v1, (q1, t1), (v2, t2, (v3, (q3, t3), (v4, t4, (v5, (q5, t5), t6))))) = ap words_of t1 ∙ ap (λ x. w.ARRAY ∷ x) (constant-words low v1 v2 t2 ∙ ap (constant_words (bare_constant low)) (ap words_of t3 ∙ ap (λ x. w.RANGE ∷ x) (constant-words high v3 v4 t4 ∙ ap (constant_words (bare_constant high)) (ap words_of t5 ∙ ap (λ x. w.OF ∷ x) (scalar-words s v5 us t6)))))

  var-words : (v : Var P) → Has (IsVar v) (var_words (bare_var v))
  var-words v ts us (v1, (q1, t1), (v2, t2, (v3, (q3, t3), t4))) = ap words_of t1 ∙ ap (λ x. w.VAR ∷ x) (ap words_of t2 ∙ ap (λ x. named v.name ∷ x) (ap words_of t3 ∙ ap (λ x. w.COLON ∷ x) (kind-words v.kind v3 us t4)))

  param-words : (v : Param P) → Has (IsParam v) (param_words (bare_param v))
  param-words v ts us (v1, t1, (v2, (q2, t2), t3)) = ap words_of t1 ∙ ap (λ x. named v.name ∷ x) (ap words_of t2 ∙ ap (λ x. w.COLON ∷ x) (scalar-words v.kind v2 us t3))

  result-words : (k : RoutineKind) (s : Option (Scalar P)) → Has (IsResult k s) (optional_words result_words (optional bare_scalar s))
  result-words procedure None ts us took = ap words_of took
  result-words procedure (Some s) ts us took = absurd took
  result-words function None ts us took = absurd took
  result-words function (Some s) ts us (v1, (q, t1), t2) = ap words_of t1 ∙ ap (λ x. w.RETURNS ∷ x) (scalar-words s v1 us t2)

  value-words : (k : RoutineKind) (e : Option (Expr P)) → Has (IsValue k e) (optional_words value_words (optional bare_expr e))
  value-words procedure None ts us took = ap words_of took
  value-words procedure (Some e) ts us took = absurd took
  value-words function None ts us took = absurd took
  value-words function (Some e) ts us (v1, (q, t1), t2) = ap words_of t1 ∙ ap (λ x. w.RETURN ∷ x) (expr-words 5 MOST_LEVELS e v1 us t2)

  routine-words : (r : Routine P) → Has (IsRoutine r) (routine_words (bare_routine r))
  routine-words r ts us (v1, (q1, t1), (v2, t2, (v3, (q3, t3), (v4, t4, (v5, (q5, t5), (v6, t6, (v7, t7, (v8, (q8, t8), (v9, t9, (v10, t10, (v11, (q11, t11), t12))))))))))) =
      ap words_of t1 ∙ ap (λ x. kind_word r.kind ∷ x) (ap words_of t2 ∙ ap (λ x. named r.name ∷ x) (ap words_of t3 ∙ ap (λ x. w.LEFT_PAREN ∷ x) (some-listed-words IsParam bare_param param_words param-words r.params v3 v4 t4 ∙ ap (listed_words param_words (map bare_param r.params)) (ap words_of t5 ∙ ap (λ x. w.RIGHT_PAREN ∷ x) (result-words r.kind r.result v5 v6 t6 ∙ ap (optional_words result_words (optional bare_scalar r.result)) (each-words IsVar bare_var var_words var-words r.vars v6 v7 t7 ∙ ap (each_words var_words (map bare_var r.vars)) (ap words_of t8 ∙ ap (λ x. w.BEGIN ∷ x) (stmts-words MOST_LEVELS r.body v8 v9 t9 ∙ ap (stmts_words (bare_stmts r.body)) (value-words r.kind r.value v9 v10 t10 ∙ ap (optional_words value_words (optional bare_expr r.value)) (ap words_of t11 ∙ ap (λ x. w.END ∷ x) (ap words_of t12)))))))))))

  member-words : (m : Member P) → Has (IsMember m) (member_words (bare_member m))
  member-words (variable_member v) ts us took = var-words v ts us took
  member-words (condition_member n p) ts us (v1, (q, t1), t2) = ap words_of t1 ∙ ap (λ x. w.CONDITION ∷ x) (ap words_of t2)

  entry-words : (r : Routine P) → Has (IsEntry r) (entry_words (bare_routine r))
  entry-words r ts us (v1, (q, t1), t2) = ap words_of t1 ∙ ap (λ x. w.ENTRY ∷ x) (routine-words r v1 us t2)

  monitor-words : (m : Monitor P) → Has (IsMonitor m) (monitor_words (bare_monitor m))
  monitor-words m ts us (v1, (q1, t1), (v2, t2, (v3, t3, (v4, t4, (v5, (q5, t5), t6))))) =
      ap words_of t1 ∙ ap (λ x. w.MONITOR ∷ x) (ap words_of t2 ∙ ap (λ x. named m.name ∷ x) (each-words IsMember bare_member member_words member-words m.members v2 v3 t3 ∙ ap (each_words member_words (map bare_member m.members)) (each-words IsEntry bare_routine entry_words entry-words m.entries v3 v4 t4 ∙ ap (each_words entry_words (map bare_routine m.entries)) (ap words_of t5 ∙ ap (λ x. w.END ∷ x) (ap words_of t6)))))

  first-words : (c : Option (Constant P)) → Has (IsFirst c) (optional_words first_words (optional bare_constant c))
  first-words None ts us took = ap words_of took
  first-words (Some c) ts us (v1, (q1, t1), (v2, (q2, t2), (v3, (q3, t3), t4))) = ap words_of t1 ∙ ap (λ x. w.FIRST ∷ x) (ap words_of t2 ∙ ap (λ x. w.ACTIVATION ∷ x) (ap words_of t3 ∙ ap (λ x. w.AT_TIME ∷ x) (constant-words c v3 us t4)))

  deadline-words : (c : Option (Constant P)) → Has (IsDeadline c) (optional_words deadline_words (optional bare_constant c))
  deadline-words None ts us took = ap words_of took
  deadline-words (Some c) ts us (v1, (q1, t1), t2) = ap words_of t1 ∙ ap (λ x. w.DEADLINE ∷ x) (constant-words c v1 us t2)

  activation-words : (x : Activation P) → Has (IsActivation x) (activation_words (bare_activation x))
  activation-words (periodic frame d f) ts us (v1, (q1, t1), (v2, (q2, t2), (v3, t3, (v4, t4, t5)))) =
      ap words_of t1 ∙ ap (λ x. w.PERIODIC ∷ x) (ap words_of t2 ∙ ap (λ x. w.FRAME ∷ x) (constant-words frame v2 v3 t3 ∙ ap (constant_words (bare_constant frame))
      (deadline-words d v3 v4 t4 ∙ ap (optional_words deadline_words (optional bare_constant d)) (first-words f v4 us t5))))
  activation-words (at_event e p frame d) ts us (v1, (q1, t1), (v2, t2, (v3, (q3, t3), (v4, t4, t5)))) =
      ap words_of t1 ∙ ap (λ x. w.AT_EVENT ∷ x) (ap words_of t2 ∙ ap (λ x. named e ∷ x) (ap words_of t3 ∙ ap (λ x. w.FRAME ∷ x) (constant-words frame v3 v4 t4
      ∙ ap (constant_words (bare_constant frame)) (deadline-words d v4 us t5))))

  handler-words : (x : Option (Handler P)) → Has (IsHandler x) (optional_words handler_words (optional bare_handler x))
  handler-words None ts us took = ap words_of took
  handler-words (Some h) ts us (v1, (q1, t1), (v2, (q2, t2), (v3, t3, (v4, (q4, t4), t5)))) = ap words_of t1 ∙ ap (λ x. w.HANDLER ∷ x) (ap words_of t2 ∙ ap (λ x. w.LEFT_PAREN ∷ x) (listed-words IsConstant bare_constant constant_words constant-words h.numbers v2 v3 t3 ∙ ap (listed_words constant_words (map bare_constant h.numbers)) (ap words_of t4 ∙ ap (λ x. w.RIGHT_PAREN ∷ x) (stmts-words MOST_LEVELS h.body v4 us t5))))

  process-words : (p : Process P) → Has (IsProcess p) (process_words (bare_process p))
  process-words p ts us (v1, (q1, t1), (v2, t2, (v3, (q3, t3), (v4, t4, (v5, t5, (v6, t6, (v7, (q7, t7), (v8, t8, (v9, t9, (v10, (q10, t10), t11)))))))))) =
      ap words_of t1 ∙ ap (λ x. w.PROCESS ∷ x) (ap words_of t2 ∙ ap (λ x. named p.name ∷ x) (ap words_of t3 ∙ ap (λ x. w.COLON ∷ x) (activation-words p.activation v3 v4 t4 ∙ ap (activation_words (bare_activation p.activation)) (each-words IsVar bare_var var_words var-words p.vars v4 v5 t5 ∙ ap (each_words var_words (map bare_var p.vars)) (each-words IsRoutine bare_routine routine_words routine-words p.routines v5 v6 t6 ∙ ap (each_words routine_words (map bare_routine p.routines)) (ap words_of t7 ∙ ap (λ x. w.BEGIN ∷ x) (stmts-words MOST_LEVELS p.body v7 v8 t8 ∙ ap (stmts_words (bare_stmts p.body)) (handler-words p.handler v8 v9 t9 ∙ ap (optional_words handler_words (optional bare_handler p.handler)) (ap words_of t10 ∙ ap (λ x. w.END ∷ x) (ap words_of t11))))))))))

  decl-words : (x : Decl P) → Has (IsDecl x) (decl_words (bare_decl x))
  decl-words (constant n p c) ts us (v1, (q1, t1), (v2, t2, (v3, (q3, t3), t4))) = ap words_of t1 ∙ ap (λ x. w.CONST ∷ x) (ap words_of t2 ∙ ap (λ x. named n ∷ x) (ap words_of t3 ∙ ap (λ x. w.ASSIGN ∷ x) (constant-words c v3 us t4)))
  decl-words (device n p o) ts us (v1, (q1, t1), (v2, t2, (v3, (q3, t3), (q4, t4)))) = ap words_of t1 ∙ ap (λ x. w.DEVICE ∷ x) (ap words_of t2 ∙ ap (λ x. named n ∷ x) (ap words_of t3 ∙ ap (λ x. w.COLON ∷ x) (ap words_of t4)))
  decl-words (event n p) ts us (v1, (q1, t1), t2) = ap words_of t1 ∙ ap (λ x. w.EVENT ∷ x) (ap words_of t2)
  decl-words (routine r) ts us took = routine-words r ts us took
  decl-words (monitor m) ts us took = monitor-words m ts us took
  decl-words (process p) ts us took = process-words p ts us took

  -- the words of a program's tokens are those of its tree without places
  pub prog-words : (g : Prog P) (ts : List (Tok P)) → IsProg g ts [] → words_of ts ≡ prog_words (bare g)
  prog-words g ts (v1, (q1, t1), (v2, t2, (v3, t3, (v4, (q4, t4), t5)))) =
      ap words_of t1 ∙ ap (λ x. w.PROGRAM ∷ x) (ap words_of t2 ∙ ap (λ x. named g.name ∷ x) (each-words IsDecl bare_decl decl_words decl-words g.decls v2 v3 t3 ∙ ap (each_words decl_words (map bare_decl g.decls)) (ap words_of t4 ∙ ap (λ x. w.END ∷ x) (ap words_of t5))))

-- trees that are equal apart from places have equal words
pub one_list : {P Q : Type 0} (g : Prog P) (h : Prog Q) (ts : List (Tok P)) (us : List (Tok Q)) → IsProg g ts [] → IsProg h us [] → bare g ≡ bare h → words_of ts ≡ words_of us
one_list g h ts us left right same = prog-words g ts left ∙ ap prog_words same ∙ sym (prog-words h us right)
