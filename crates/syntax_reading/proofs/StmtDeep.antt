-- In a statement, a token that opens a level beyond the last is found as a fault of nesting.
use Rattle.std.proofs.Common.{◌≡◌, ℕ, zero, suc, List, true, false, inl, inr, refl, ap, sym, ◌∙◌}
use Rattle.syntax_tree.specs.Plain.{Name}
use Rattle.syntax_tree.specs.Placed.{Ref}
use Rattle.syntax.specs.Words as w
use Rattle.syntax.specs.Words.{Word, named, Tok}
use Rattle.syntax.specs.ExprGrammar.{a, ◌▷◌, IsConstant, IsExpr}
use Rattle.syntax.specs.StmtGrammar.{IsStmt, AreStmts}
use Rattle.syntax.specs.Opening.{Whole, a_name, OpensExpr, OpensIndex, OpensArgs, OpensRef, OpensSimple, OpensStmt, OpensStmts}
use Rattle.syntax_reading.specs.ExprReading.{is_at, is_name, is_entry, expect, name, constant, index, args, inner, expr}
use Rattle.syntax_reading.specs.StmtReading as reading
use Rattle.syntax_reading.specs.StmtReading.{reference_from, reference, entry_args, entry, assigned, named_stmt, exit_stmt, get_stmt, put_stmt, assert_stmt, simple_stmt, begins, stmts_by, else_by, choice, loop_stmt, stmt_by, stmt}
use Rattle.syntax_reading.proofs.Shorter.{stmt-shorter}
use Rattle.syntax_reading.proofs.AgainBasics.{step, if-true, if-false, expect_again, name_again, Stop, stop-at}
use Rattle.syntax_reading.proofs.ExprAgain.{constant_again, expr_again, inner_again}
use Rattle.syntax_reading.proofs.StmtAgain.{Front, front, ref-front, stmt-begins, stmt-starts, name-stmt, assigns-as, stmt_list, to-each, stmts_again, stmt_again}
use Rattle.syntax_reading.proofs.OpenTails.{some-at, stmt-at}
use Rattle.syntax_reading.proofs.DeepBasics.{at-fault, Finds, finds-here, many_finds}
use Rattle.syntax_reading.proofs.ExprDeep.{index-begins, args-begin, opens-begins, opens-entry, index_finds, args_finds, expr_finds, inner_finds}

module _ {P : Type 0} where
  -- ---- how they begin

  simple-front : (depth : ℕ) (ts us : List (Tok P)) → OpensSimple depth ts us → Front ts
  simple-front depth ts us (inl (vs, (n, (q, took)), o)) = front (named n) q ts vs took (refl, refl, refl, refl) refl
  simple-front depth ts us (inr (inl (vs, (r, took), o))) = ref-front depth r ts vs took
  simple-front depth ts us (inr (inr (inl (vs, (r, took), o)))) = ref-front depth r ts vs took
  simple-front depth ts us (inr (inr (inr (inl (vs, (n, (q, took)), o))))) = front (named n) q ts vs took (refl, refl, refl, refl) refl
  simple-front depth ts us (inr (inr (inr (inr (inl (vs, (n, (q, took)), o)))))) = front (named n) q ts vs took (refl, refl, refl, refl) refl
  simple-front depth ts us (inr (inr (inr (inr (inr (inl (vs, (q, took), o))))))) = front w.EXIT q ts vs took (refl, refl, refl, refl) refl
  simple-front depth ts us (inr (inr (inr (inr (inr (inr (inl (vs, (q, took), o)))))))) = front w.GET q ts vs took (refl, refl, refl, refl) refl
  simple-front depth ts us (inr (inr (inr (inr (inr (inr (inr (inl (vs, (q, took), o))))))))) = front w.PUT q ts vs took (refl, refl, refl, refl) refl
  simple-front depth ts us (inr (inr (inr (inr (inr (inr (inr (inr (vs, (q, took), o))))))))) = front w.ASSERT q ts vs took (refl, refl, refl, refl) refl

  opens-front : (depth : ℕ) (ts us : List (Tok P)) → OpensStmt depth ts us → Front ts
  unfolding OpensStmt
  opens-front zero ts us (inl (same, (vs, (q, took)))) = front w.IF q ts vs took (refl, refl, refl, refl) refl
  opens-front zero ts us (inr (inl (same, (vs, (q, took))))) = front w.FOR q ts vs took (refl, refl, refl, refl) refl
  opens-front zero ts us (inr (inr o)) = simple-front zero ts us o
  opens-front (suc depth) ts us (inl (vs, (q, took), o)) = front w.IF q ts vs took (refl, refl, refl, refl) refl
  opens-front (suc depth) ts us (inr (inl (v1, inl (vs, (q, took), more), o))) = front w.IF q ts vs took (refl, refl, refl, refl) refl
  opens-front (suc depth) ts us (inr (inl (v1, inr (inl (vs, (q, took), more)), o))) = front w.IF q ts vs took (refl, refl, refl, refl) refl
  opens-front (suc depth) ts us (inr (inl (v1, inr (inr (vs, (q, took), more)), o))) = front w.FOR q ts vs took (refl, refl, refl, refl) refl
  opens-front (suc depth) ts us (inr (inr o)) = simple-front (suc depth) ts us o

  pub stmt-opens : (depth : ℕ) (ts us : List (Tok P)) → OpensStmt depth ts us → begins ts ≡ true
  stmt-opens depth ts us o = let f = opens-front depth ts us o in ap begins f.first ∙ f.begins

  pub stmt-follows : (depth : ℕ) (ts us : List (Tok P)) → OpensStmt depth ts us → Stop 5 ts
  stmt-follows depth ts us o = let f = opens-front depth ts us o in stop-at 5 f.word f.place ts f.rest f.ends f.first

  -- ---- references and calls of entries

  index-finds : (depth : ℕ) → Finds {P = P} (index (inner depth)) (OpensIndex depth)
  index-finds depth = index_finds (inner depth) depth (inner_again P depth) (inner_finds P depth)

  args-finds : (depth : ℕ) → Finds {P = P} (args (inner depth)) (OpensArgs depth)
  args-finds depth = args_finds (inner depth) depth (inner_again P depth) (inner_finds P depth)

  reference_from_finds : (depth : ℕ) (m : Name × P) → Finds (reference_from depth m) (OpensIndex depth)
  unfolding reference_from
  reference_from_finds depth m ts us o =
      if-true (is_at w.LEFT_BRACKET ts) _ _ _ (index-begins w.LEFT_BRACKET true refl depth ts us o) (at-fault (index (inner depth) ts) _ _ (index-finds depth ts us o))

  reference_finds : (depth : ℕ) → Finds {P = P} (reference depth) (OpensRef depth)
  unfolding reference
  reference_finds depth ts us (vs, (n, (q, took)), o) = step (name ts) _ ((n, q), vs) _ (name_again (n, q) ts vs took) (reference_from_finds depth (n, q) vs us o)

  entry_args_finds : (depth : ℕ) → Finds {P = P} (entry_args depth) (OpensArgs depth)
  unfolding entry_args
  entry_args_finds depth ts us o = if-true (is_at w.LEFT_PAREN ts) _ _ _ (args-begin w.LEFT_PAREN true refl depth ts us o) (args-finds depth ts us o)

  entry_finds : (depth : ℕ) → Finds {P = P} (entry depth) (a w.DOT ▷ a_name ▷ OpensArgs depth)
  unfolding entry
  entry_finds depth ts us (v1, (q, c), (v2, (n, (r, took)), o)) =
      step (expect w.DOT ts) _ (q, v1) _ (expect_again w.DOT q ts v1 refl c)
      (step (name v1) _ ((n, r), v2) _ (name_again (n, r) v1 v2 took) (at-fault (entry_args depth v2) _ _ (entry_args_finds depth v2 us o)))

  -- ---- statements with no others inside

  assigned_expr_finds : (depth : ℕ) (r : Ref P) → Finds (assigned depth r) (OpensExpr depth)
  unfolding assigned
  assigned_expr_finds depth r ts us o =
      if-false (is_at w.EMPTY ts) _ _ _ (opens-begins w.EMPTY (refl, refl, refl, refl, refl, λ n. refl) 5 depth ts us o)
      (if-false (is_entry ts) _ _ _ (opens-entry 5 depth ts us o) (at-fault (expr depth ts) _ _ (expr_finds depth ts us o)))

  assigned_entry_finds : (depth : ℕ) (r : Ref P) → Finds (assigned depth r) (a_name ▷ a w.DOT ▷ a_name ▷ OpensArgs depth)
  unfolding assigned
  assigned_entry_finds depth r ts us (v1, (n, (q, took)), (v2, (p, c), o)) =
      if-false (is_at w.EMPTY ts) _ _ _ (ap (is_at w.EMPTY) took)
      (if-true (is_entry ts) _ _ _ (ap is_entry took ∙ ap (is_at w.DOT) c)
      (step (name ts) _ ((n, q), v1) _ (name_again (n, q) ts v1 took) (at-fault (entry depth v1) _ _ (entry_finds depth v1 us (v2, (p, c), o)))))

  -- a statement of a keyword other than `if` and `for`
  keyword-stmt : (depth : ℕ) (ts : List (Tok P)) → is_name ts ≡ false → is_at w.IF ts ≡ false → is_at w.FOR ts ≡ false → stmt depth ts ≡ simple_stmt depth ts
  unfolding stmt stmt_by
  keyword-stmt zero ts n i f = if-false (is_name ts) _ _ _ n (if-false (is_at w.IF ts) _ _ _ i (if-false (is_at w.FOR ts) _ _ _ f refl))
  keyword-stmt (suc depth) ts n i f = if-false (is_name ts) _ _ _ n (if-false (is_at w.IF ts) _ _ _ i (if-false (is_at w.FOR ts) _ _ _ f refl))

  simple_finds : (depth : ℕ) → Finds {P = P} (stmt depth) (OpensSimple depth)
  unfolding named_stmt simple_stmt exit_stmt get_stmt put_stmt assert_stmt expect
  simple_finds depth ts us (inl (vs, (n, (q, took)), o)) =
      name-stmt depth (n, q) ts vs took
      ∙ if-false (is_at w.LEFT_PAREN vs) _ _ _ (index-begins w.LEFT_PAREN false refl depth vs us o)
      (if-false (is_at w.DOT vs) _ _ _ (index-begins w.DOT false refl depth vs us o)
      (at-fault (reference_from depth (n, q) vs) _ _ (reference_from_finds depth (n, q) vs us o)))
  simple_finds depth ts us (inr (inl (vs, (r, took), (v2, c, o)))) = assigns-as depth r ts vs v2 _ took c (assigned_expr_finds depth r v2 us o)
  simple_finds depth ts us (inr (inr (inl (vs, (r, took), (v2, c, o))))) = assigns-as depth r ts vs v2 _ took c (assigned_entry_finds depth r v2 us o)
  simple_finds depth ts us (inr (inr (inr (inl (vs, (n, (q, took)), o))))) =
      name-stmt depth (n, q) ts vs took
      ∙ if-true (is_at w.LEFT_PAREN vs) _ _ _ (args-begin w.LEFT_PAREN true refl depth vs us o) (at-fault (args (inner depth) vs) _ _ (args-finds depth vs us o))
  simple_finds depth ts us (inr (inr (inr (inr (inl (vs, (n, (q, took)), (v2, (p, c), o))))))) =
      name-stmt depth (n, q) ts vs took
      ∙ if-false (is_at w.LEFT_PAREN vs) _ _ _ (ap (is_at w.LEFT_PAREN) c)
      (if-true (is_at w.DOT vs) _ _ _ (ap (is_at w.DOT) c) (at-fault (entry depth vs) _ _ (entry_finds depth vs us (v2, (p, c), o))))
  simple_finds depth ts us (inr (inr (inr (inr (inr (inl (v1, (q, t), (v2, (r, c), o)))))))) =
      keyword-stmt depth ts (ap is_name t) (ap (is_at w.IF) t) (ap (is_at w.FOR) t) ∙ ap (simple_stmt depth) t
      ∙ step (expect w.WHEN v1) _ (r, v2) _ (expect_again w.WHEN r v1 v2 refl c) (at-fault (expr depth v2) _ _ (expr_finds depth v2 us o))
  simple_finds depth ts us (inr (inr (inr (inr (inr (inr (inl (v1, (q, t), (v2, (n, (r, took)), o))))))))) =
      keyword-stmt depth ts (ap is_name t) (ap (is_at w.IF) t) (ap (is_at w.FOR) t) ∙ ap (simple_stmt depth) t
      ∙ step (name v1) _ ((n, r), v2) _ (name_again (n, r) v1 v2 took) (at-fault (reference depth v2) _ _ (reference_finds depth v2 us o))
  simple_finds depth ts us (inr (inr (inr (inr (inr (inr (inr (inl (v1, (q, t), (v2, (n, (r, took)), o)))))))))) =
      keyword-stmt depth ts (ap is_name t) (ap (is_at w.IF) t) (ap (is_at w.FOR) t) ∙ ap (simple_stmt depth) t
      ∙ step (name v1) _ ((n, r), v2) _ (name_again (n, r) v1 v2 took) (at-fault (expr depth v2) _ _ (expr_finds depth v2 us o))
  simple_finds depth ts us (inr (inr (inr (inr (inr (inr (inr (inr (v1, (q, t), o))))))))) =
      keyword-stmt depth ts (ap is_name t) (ap (is_at w.IF) t) (ap (is_at w.FOR) t) ∙ ap (simple_stmt depth) t
      ∙ at-fault (expr depth v1) _ _ (expr_finds depth v1 us o)

  -- ---- statements with others inside

  module _ (depth : ℕ) (finds : Finds {P = P} (stmt depth) (OpensStmt depth)) where
    stmts_by_finds : Finds {P = P} (stmts_by (stmt depth)) (OpensStmts depth)
    unfolding stmts_by
    stmts_by_finds ts us (vs, (ss, took), o) =
        many_finds begins (stmt depth) (IsStmt depth) (Stop 5) (stmt_again depth) (stmt-begins depth) (stmt-starts depth) (OpensStmt depth) finds (stmt-opens depth)
        (stmt-follows depth) (stmt-shorter depth) (λ ts us o. some-at ts us (stmt-at depth ts us o)) ts us (vs, (stmt_list ss, to-each depth ss ts vs took), o)

    test_finds : Finds {P = P} (choice depth (stmt depth)) (a w.IF ▷ OpensExpr depth)
    unfolding choice
    test_finds ts us (v1, (q, i), o) = step (expect w.IF ts) _ (q, v1) _ (expect_again w.IF q ts v1 refl i) (at-fault (expr depth v1) _ _ (expr_finds depth v1 us o))

    first_finds : Finds {P = P} (choice depth (stmt depth)) (a w.IF ▷ Whole (IsExpr 5 depth) ▷ a w.THEN ▷ OpensStmts depth)
    unfolding choice
    first_finds ts us (v1, (q, i), (v2, (e, x), (v3, (r, t), o))) =
        step (expect w.IF ts) _ (q, v1) _ (expect_again w.IF q ts v1 refl i)
        (step (expr depth v1) _ (e, v2) _ (expr_again depth v1 v2 e x (stop-at 5 w.THEN r v2 v3 (refl, refl, refl, refl) t))
        (step (expect w.THEN v2) _ (r, v3) _ (expect_again w.THEN r v2 v3 refl t) (at-fault (stmts_by (stmt depth) v3) _ _ (stmts_by_finds v3 us o))))

    second_finds : Finds {P = P} (choice depth (stmt depth)) (a w.IF ▷ Whole (IsExpr 5 depth) ▷ a w.THEN ▷ Whole (AreStmts depth) ▷ a w.ELSE ▷ OpensStmts depth)
    unfolding choice else_by
    second_finds ts us (v1, (q, i), (v2, (e, x), (v3, (r, t), (v4, (ss, took), (v5, (s, d), o))))) =
        step (expect w.IF ts) _ (q, v1) _ (expect_again w.IF q ts v1 refl i)
        (step (expr depth v1) _ (e, v2) _ (expr_again depth v1 v2 e x (stop-at 5 w.THEN r v2 v3 (refl, refl, refl, refl) t))
        (step (expect w.THEN v2) _ (r, v3) _ (expect_again w.THEN r v2 v3 refl t)
        (step (stmts_by (stmt depth) v3) _ (stmt_list ss, v4) _
        (stmts_again depth (stmt depth) (stmt_again depth) ss v3 v4 took w.ELSE v5 ((refl, refl, refl, refl), refl, (s, d)))
        (if-true (is_at w.ELSE v4) _ _ _ (ap (is_at w.ELSE) d)
        (step (expect w.ELSE v4) _ (s, v5) _ (expect_again w.ELSE s v4 v5 refl d) (at-fault (stmts_by (stmt depth) v5) _ _ (stmts_by_finds v5 us o)))))))

    loop_finds : Finds {P = P} (loop_stmt (stmt depth)) (a w.FOR ▷ a_name ▷ a w.COLON ▷ Whole IsConstant ▷ a w.RANGE ▷ Whole IsConstant ▷ a w.DO ▷ OpensStmts depth)
    unfolding loop_stmt
    loop_finds ts us (v1, (q1, t1), (v2, (n, (q2, t2)), (v3, (q3, t3), (v4, (low, t4), (v5, (q5, t5), (v6, (high, t6), (v7, (q7, t7), o))))))) =
        step (expect w.FOR ts) _ (q1, v1) _ (expect_again w.FOR q1 ts v1 refl t1)
        (step (name v1) _ ((n, q2), v2) _ (name_again (n, q2) v1 v2 t2)
        (step (expect w.COLON v2) _ (q3, v3) _ (expect_again w.COLON q3 v2 v3 refl t3)
        (step (constant v3) _ (low, v4) _ (constant_again low v3 v4 t4)
        (step (expect w.RANGE v4) _ (q5, v5) _ (expect_again w.RANGE q5 v4 v5 refl t5)
        (step (constant v5) _ (high, v6) _ (constant_again high v5 v6 t6)
        (step (expect w.DO v6) _ (q7, v7) _ (expect_again w.DO q7 v6 v7 refl t7) (at-fault (stmts_by (stmt depth) v7) _ _ (stmts_by_finds v7 us o))))))))

  if-stmt : (depth : ℕ) (ts vs : List (Tok P)) → a w.IF ts vs → stmt (suc depth) ts ≡ choice depth (stmt depth) ts
  unfolding stmt stmt_by
  if-stmt depth ts vs (q, took) = ap (stmt (suc depth)) took ∙ ap (choice depth (stmt depth)) (sym took)

  for-stmt : (depth : ℕ) (ts vs : List (Tok P)) → a w.FOR ts vs → stmt (suc depth) ts ≡ loop_stmt (stmt depth) ts
  unfolding stmt stmt_by
  for-stmt depth ts vs (q, took) = ap (stmt (suc depth)) took ∙ ap (loop_stmt (stmt depth)) (sym took)

  pub stmt_finds : (depth : ℕ) → Finds {P = P} (stmt depth) (OpensStmt depth)
  unfolding stmt stmt_by OpensStmt
  stmt_finds zero ts us (inl o) = finds-here (stmt zero) w.IF (λ q vs. refl) ts us o
  stmt_finds zero ts us (inr (inl o)) = finds-here (stmt zero) w.FOR (λ q vs. refl) ts us o
  stmt_finds zero ts us (inr (inr o)) = simple_finds zero ts us o
  stmt_finds (suc depth) ts us (inl (v1, i, o)) = if-stmt depth ts v1 i ∙ test_finds depth (stmt_finds depth) ts us (v1, i, o)
  stmt_finds (suc depth) ts us (inr (inl (vs, inl (v1, i, (v2, x, (v3, t, ss))), o))) =
      if-stmt depth ts v1 i ∙ first_finds depth (stmt_finds depth) ts us (v1, i, (v2, x, (v3, t, (vs, ss, o))))
  stmt_finds (suc depth) ts us (inr (inl (vs, inr (inl (v1, i, (v2, x, (v3, t, (v4, ss, (v5, d, others)))))), o))) =
      if-stmt depth ts v1 i ∙ second_finds depth (stmt_finds depth) ts us (v1, i, (v2, x, (v3, t, (v4, ss, (v5, d, (vs, others, o))))))
  stmt_finds (suc depth) ts us (inr (inl (vs, inr (inr (v1, f, (v2, n, (v3, c, (v4, low, (v5, d, (v6, high, (v7, b, ss)))))))), o))) =
      for-stmt depth ts v1 f ∙ loop_finds depth (stmt_finds depth) ts us (v1, f, (v2, n, (v3, c, (v4, low, (v5, d, (v6, high, (v7, b, (vs, ss, o))))))))
  stmt_finds (suc depth) ts us (inr (inr o)) = simple_finds (suc depth) ts us o

  pub stmts_finds : (depth : ℕ) → Finds {P = P} (reading.stmts depth) (OpensStmts depth)
  unfolding reading.stmts
  stmts_finds depth ts us o = stmts_by_finds depth (stmt_finds depth) ts us o
