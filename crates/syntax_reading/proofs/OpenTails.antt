-- A token that opens a level beyond the last is one of the list.
use Rattle.std.proofs.Common.{◌≡◌, ℕ, zero, suc, ◌<◌, List, ◌∷◌, ◌++◌, length, inl, inr, ap, sym, ◌∙◌, length-append, arith}
use Rattle.syntax_tree.specs.Placed.{RoutineKind, function}
use Rattle.syntax.specs.Words as w
use Rattle.syntax.specs.Words.{Word, named, Tok}
use Rattle.syntax.specs.ExprGrammar.{a, ◌▷◌, IsConstant, op_word, OfLevel, IsExpr}
use Rattle.syntax.specs.StmtGrammar.{IsRef, AreStmts}
use Rattle.syntax.specs.Grammar.{MOST_LEVELS, kind_word, IsVar, IsParam, IsRoutine, IsMember, IsEntry, IsDecl}
use Rattle.syntax.specs.Opening.{Part, Whole, here, a_name, UpToFactor, UpToArg, IntoFactor, OpensFactor, OpensExpr, OpensIndex, OpensArgs, OpensRef, OpensSimple, IntoStmt, OpensStmt, OpensStmts, RoutineFront, OpensRoutine, OpensMonitor, ProcessFront, OpensProcess, OpensDecl, OpensProg}
use Rattle.syntax_reading.proofs.Tails.{IsEnd, ◌⨾◌, Leaves, nothing-end, a-end, each-end, listed-end, some-listed-end, constant-end, expr-end, ref-end, stmts-end, var-end, param-end, result-end, routine-end, member-end, entry-end, activation-end, decl-end}

module _ {P : Type 0} where
  -- the second list is the end of the first from this token on
  pub record IsAt (ts us : List (Tok P)) : Type 0 where
    pub end : IsEnd ts us
    pub first : Tok P
    pub rest : List (Tok P)
    pub is : us ≡ first ∷ rest

  infixr 5 ◌⨟◌
  ◌⨟◌ : {ts us vs : List (Tok P)} → IsEnd ts us → IsAt us vs → IsAt ts vs
  ◌⨟◌ h g = record { end = h ⨾ g.end; first = g.first; rest = g.rest; is = g.is }

  abbrev pub Stops : Part P → Type 0
  Stops R = (ts us : List (Tok P)) → R ts us → IsAt ts us

  -- so it has a token
  pub some-at : (ts us : List (Tok P)) → IsAt ts us → 0 < length ts
  some-at ts us it = let e = ap length (it.end.is ∙ ap (λ x. it.end.front ++ x) it.is) in omega (arith, simp length-append at e)

  here-at : (word : Word) → Stops (here word)
  here-at word ts us (same, (vs, (p, took))) =
      record { end = nothing-end ts us same; first = record { word = word; place = p }; rest = vs; is = sym same ∙ took }

  name-end : Leaves {P = P} a_name
  name-end ts us (n, took) = a-end (named n) ts us took

  -- ---- expressions

  up-end : (level depth : ℕ) → Leaves {P = P} (UpToFactor level depth)
  unfolding UpToFactor
  up-end zero depth ts us took = nothing-end ts us took
  up-end (suc level) depth ts us (vs, (rs, (one, took)), more) =
      each-end (λ r. IsExpr level depth r.0 ▷ OfLevel (suc level) r.1)
      (λ r ts us (vs, e, (high, o)). expr-end level depth r.0 ts vs e ⨾ a-end (op_word r.1) vs us o) rs ts vs took ⨾ up-end level depth vs us more

  arg-end : (depth : ℕ) → Leaves {P = P} (UpToArg depth)
  arg-end depth ts us (es, took) =
      each-end (λ e. IsExpr 5 depth e ▷ a w.COMMA) (λ e ts us (vs, t1, t2). expr-end 5 depth e ts vs t1 ⨾ a-end w.COMMA vs us t2) es ts us took

  into-end : (depth : ℕ) → Leaves {P = P} (IntoFactor depth)
  into-end depth ts us (inl took) = a-end w.MINUS ts us took
  into-end depth ts us (inr (inl took)) = a-end w.NOT ts us took
  into-end depth ts us (inr (inr (inl (v1, t1, t2)))) = a-end w.LEFT_PAREN ts v1 t1 ⨾ up-end 5 depth v1 us t2
  into-end depth ts us (inr (inr (inr (inl (v1, t1, (v2, t2, t3)))))) = name-end ts v1 t1 ⨾ a-end w.LEFT_BRACKET v1 v2 t2 ⨾ up-end 5 depth v2 us t3
  into-end depth ts us (inr (inr (inr (inr (v1, t1, (v2, t2, (v3, t3, t4))))))) =
      name-end ts v1 t1 ⨾ a-end w.LEFT_PAREN v1 v2 t2 ⨾ arg-end depth v2 v3 t3 ⨾ up-end 5 depth v3 us t4

  pub factor-at : (depth : ℕ) → Stops (OpensFactor depth)
  unfolding OpensFactor
  factor-at zero ts us (inl took) = here-at w.MINUS ts us took
  factor-at zero ts us (inr (inl took)) = here-at w.NOT ts us took
  factor-at zero ts us (inr (inr (inl took))) = here-at w.LEFT_PAREN ts us took
  factor-at zero ts us (inr (inr (inr (inl (v1, t1, t2))))) = name-end ts v1 t1 ⨟ here-at w.LEFT_BRACKET v1 us t2
  factor-at zero ts us (inr (inr (inr (inr (v1, t1, t2))))) = name-end ts v1 t1 ⨟ here-at w.LEFT_PAREN v1 us t2
  factor-at (suc depth) ts us (v1, t1, t2) = into-end depth ts v1 t1 ⨟ factor-at depth v1 us t2

  pub expr-at : (depth : ℕ) → Stops (OpensExpr depth)
  expr-at depth ts us (v1, t1, t2) = up-end 5 depth ts v1 t1 ⨟ factor-at depth v1 us t2

  index-at : (depth : ℕ) → Stops (OpensIndex depth)
  index-at zero = here-at w.LEFT_BRACKET
  index-at (suc depth) = λ ts us (v1, t1, t2). a-end w.LEFT_BRACKET ts v1 t1 ⨟ expr-at depth v1 us t2

  args-at : (depth : ℕ) → Stops (OpensArgs depth)
  args-at zero = here-at w.LEFT_PAREN
  args-at (suc depth) = λ ts us (v1, t1, (v2, t2, t3)). a-end w.LEFT_PAREN ts v1 t1 ⨟ arg-end depth v1 v2 t2 ⨟ expr-at depth v2 us t3

  -- ---- statements

  ref-at : (depth : ℕ) → Stops (OpensRef depth)
  ref-at depth ts us (v1, t1, t2) = name-end ts v1 t1 ⨟ index-at depth v1 us t2

  whole-ref : (depth : ℕ) → Leaves {P = P} (Whole (IsRef depth))
  whole-ref depth ts us (r, took) = ref-end depth r ts us took

  whole-stmts : (depth : ℕ) → Leaves {P = P} (Whole (AreStmts depth))
  whole-stmts depth ts us (ss, took) = stmts-end depth ss ts us took

  whole-expr : (depth : ℕ) → Leaves {P = P} (Whole (IsExpr 5 depth))
  whole-expr depth ts us (e, took) = expr-end 5 depth e ts us took

  whole-constant : Leaves {P = P} (Whole IsConstant)
  whole-constant ts us (c, took) = constant-end c ts us took

  simple-at : (depth : ℕ) → Stops (OpensSimple depth)
  simple-at depth ts us (inl took) = ref-at depth ts us took
  simple-at depth ts us (inr (inl (v1, t1, (v2, t2, t3)))) = whole-ref depth ts v1 t1 ⨟ a-end w.ASSIGN v1 v2 t2 ⨟ expr-at depth v2 us t3
  simple-at depth ts us (inr (inr (inl (v1, t1, (v2, t2, (v3, t3, (v4, t4, (v5, t5, t6)))))))) =
      whole-ref depth ts v1 t1 ⨟ a-end w.ASSIGN v1 v2 t2 ⨟ name-end v2 v3 t3 ⨟ a-end w.DOT v3 v4 t4 ⨟ name-end v4 v5 t5 ⨟ args-at depth v5 us t6
  simple-at depth ts us (inr (inr (inr (inl (v1, t1, t2))))) = name-end ts v1 t1 ⨟ args-at depth v1 us t2
  simple-at depth ts us (inr (inr (inr (inr (inl (v1, t1, (v2, t2, (v3, t3, t4)))))))) =
      name-end ts v1 t1 ⨟ a-end w.DOT v1 v2 t2 ⨟ name-end v2 v3 t3 ⨟ args-at depth v3 us t4
  simple-at depth ts us (inr (inr (inr (inr (inr (inl (v1, t1, (v2, t2, t3)))))))) = a-end w.EXIT ts v1 t1 ⨟ a-end w.WHEN v1 v2 t2 ⨟ expr-at depth v2 us t3
  simple-at depth ts us (inr (inr (inr (inr (inr (inr (inl (v1, t1, (v2, t2, t3))))))))) = a-end w.GET ts v1 t1 ⨟ name-end v1 v2 t2 ⨟ ref-at depth v2 us t3
  simple-at depth ts us (inr (inr (inr (inr (inr (inr (inr (inl (v1, t1, (v2, t2, t3)))))))))) = a-end w.PUT ts v1 t1 ⨟ name-end v1 v2 t2 ⨟ expr-at depth v2 us t3
  simple-at depth ts us (inr (inr (inr (inr (inr (inr (inr (inr (v1, t1, t2))))))))) = a-end w.ASSERT ts v1 t1 ⨟ expr-at depth v1 us t2

  into-stmt : (depth : ℕ) → Leaves {P = P} (IntoStmt depth)
  into-stmt depth ts us (inl (v1, t1, (v2, t2, (v3, t3, t4)))) = a-end w.IF ts v1 t1 ⨾ whole-expr depth v1 v2 t2 ⨾ a-end w.THEN v2 v3 t3 ⨾ whole-stmts depth v3 us t4
  into-stmt depth ts us (inr (inl (v1, t1, (v2, t2, (v3, t3, (v4, t4, (v5, t5, t6))))))) =
      a-end w.IF ts v1 t1 ⨾ whole-expr depth v1 v2 t2 ⨾ a-end w.THEN v2 v3 t3 ⨾ whole-stmts depth v3 v4 t4 ⨾ a-end w.ELSE v4 v5 t5 ⨾ whole-stmts depth v5 us t6
  into-stmt depth ts us (inr (inr (v1, t1, (v2, t2, (v3, t3, (v4, t4, (v5, t5, (v6, t6, (v7, t7, t8))))))))) =
      a-end w.FOR ts v1 t1 ⨾ name-end v1 v2 t2 ⨾ a-end w.COLON v2 v3 t3 ⨾ whole-constant v3 v4 t4 ⨾ a-end w.RANGE v4 v5 t5 ⨾ whole-constant v5 v6 t6
      ⨾ a-end w.DO v6 v7 t7 ⨾ whole-stmts depth v7 us t8

  pub stmt-at : (depth : ℕ) → Stops (OpensStmt depth)
  unfolding OpensStmt
  stmt-at zero ts us (inl took) = here-at w.IF ts us took
  stmt-at zero ts us (inr (inl took)) = here-at w.FOR ts us took
  stmt-at zero ts us (inr (inr took)) = simple-at zero ts us took
  stmt-at (suc depth) ts us (inl (v1, t1, t2)) = a-end w.IF ts v1 t1 ⨟ expr-at depth v1 us t2
  stmt-at (suc depth) ts us (inr (inl (v1, t1, t2))) = into-stmt depth ts v1 t1 ⨟ stmt-at depth v1 us t2
  stmt-at (suc depth) ts us (inr (inr took)) = simple-at (suc depth) ts us took

  stmts-at : (depth : ℕ) → Stops (OpensStmts depth)
  stmts-at depth ts us (v1, t1, t2) = whole-stmts depth ts v1 t1 ⨟ stmt-at depth v1 us t2

  -- ---- declarations

  front-end : (k : RoutineKind) → Leaves {P = P} (RoutineFront k)
  front-end k ts us (v1, t1, (v2, t2, (v3, t3, (v4, (ps, t4), (v5, t5, (v6, (s, t6), (v7, (vs, t7), t8))))))) =
      a-end (kind_word k) ts v1 t1 ⨾ name-end v1 v2 t2 ⨾ a-end w.LEFT_PAREN v2 v3 t3 ⨾ some-listed-end IsParam param-end ps v3 v4 t4
      ⨾ a-end w.RIGHT_PAREN v4 v5 t5 ⨾ result-end k s v5 v6 t6 ⨾ each-end IsVar var-end vs v6 v7 t7 ⨾ a-end w.BEGIN v7 us t8

  pub routine-at : Stops OpensRoutine
  routine-at ts us (inl (v1, (k, t1), t2)) = front-end k ts v1 t1 ⨟ stmts-at MOST_LEVELS v1 us t2
  routine-at ts us (inr (v1, t1, (v2, t2, (v3, t3, t4)))) =
      front-end function ts v1 t1 ⨟ whole-stmts MOST_LEVELS v1 v2 t2 ⨟ a-end w.RETURN v2 v3 t3 ⨟ expr-at MOST_LEVELS v3 us t4

  monitor-at : Stops OpensMonitor
  monitor-at ts us (v1, t1, (v2, t2, (v3, (ms, t3), (v4, (es, t4), (v5, t5, t6))))) =
      a-end w.MONITOR ts v1 t1 ⨟ name-end v1 v2 t2 ⨟ each-end IsMember member-end ms v2 v3 t3 ⨟ each-end IsEntry entry-end es v3 v4 t4
      ⨟ a-end w.ENTRY v4 v5 t5 ⨟ routine-at v5 us t6

  process-end : Leaves {P = P} ProcessFront
  process-end ts us (v1, t1, (v2, t2, (v3, t3, (v4, (x, t4), (v5, (vs, t5), (rs, t6)))))) =
      a-end w.PROCESS ts v1 t1 ⨾ name-end v1 v2 t2 ⨾ a-end w.COLON v2 v3 t3 ⨾ activation-end x v3 v4 t4 ⨾ each-end IsVar var-end vs v4 v5 t5
      ⨾ each-end IsRoutine routine-end rs v5 us t6

  process-at : Stops OpensProcess
  process-at ts us (inl (v1, t1, t2)) = process-end ts v1 t1 ⨟ routine-at v1 us t2
  process-at ts us (inr (inl (v1, t1, (v2, t2, t3)))) = process-end ts v1 t1 ⨟ a-end w.BEGIN v1 v2 t2 ⨟ stmts-at MOST_LEVELS v2 us t3
  process-at ts us (inr (inr (v1, t1, (v2, t2, (v3, t3, (v4, t4, (v5, t5, (v6, (ns, t6), (v7, t7, t8))))))))) =
      process-end ts v1 t1 ⨟ a-end w.BEGIN v1 v2 t2 ⨟ whole-stmts MOST_LEVELS v2 v3 t3 ⨟ a-end w.HANDLER v3 v4 t4 ⨟ a-end w.LEFT_PAREN v4 v5 t5
      ⨟ listed-end IsConstant constant-end ns v5 v6 t6 ⨟ a-end w.RIGHT_PAREN v6 v7 t7 ⨟ stmts-at MOST_LEVELS v7 us t8

  pub decl-at : Stops OpensDecl
  decl-at ts us (inl took) = routine-at ts us took
  decl-at ts us (inr (inl took)) = monitor-at ts us took
  decl-at ts us (inr (inr took)) = process-at ts us took

  pub prog-at : (ts us : List (Tok P)) → OpensProg ts us → IsAt ts us
  prog-at ts us (v1, t1, (v2, t2, (v3, (ds, t3), t4))) =
      a-end w.PROGRAM ts v1 t1 ⨟ name-end v1 v2 t2 ⨟ each-end IsDecl decl-end ds v2 v3 t3 ⨟ decl-at v3 us t4
