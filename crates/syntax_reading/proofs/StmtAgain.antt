-- What a statement's tokens are is read as that statement.
use Rattle.std.proofs.Common.{◌≡◌, ℕ, zero, suc, List, [], ◌∷◌, true, false, cond, Result, Ok, refl, ap, sym, ◌∙◌}
use Rattle.syntax_tree.specs.Plain.{Name}
use Rattle.syntax_tree.specs.Placed.{Constant, Expr, Exprs, Ref, whole, part, Stmt, assign, assign_entry, assign_empty, perform, perform_entry, when, when_else, loop, exit_when, get, put, wait, signal, broadcast, except, assert, Stmts, no_stmts, stmts, stmts_of}
use Rattle.syntax.specs.Words as w
use Rattle.syntax.specs.Words.{Word, named, Tok}
use Rattle.syntax.specs.ExprGrammar.{at, a, ◌▷◌, Each, InParens}
use Rattle.syntax.specs.StmtGrammar.{IsRef, IsStmt, AreStmts}
use Rattle.syntax_reading.specs.ExprReading.{Fault, Parse, same_word, is_at, is_entry, expect, name, constant, index, args, inner, expr}
use Rattle.syntax_reading.specs.StmtReading as reading
use Rattle.syntax_reading.specs.StmtReading.{reference_from, reference, entry_args, entry, assigned, named_stmt, exit_stmt, get_stmt, put_stmt, assert_stmt, wait_stmt, signal_stmt, broadcast_stmt, except_stmt, plain_stmt, simple_stmt, begins_by, begins, stmts_by, closing, else_by, choice, loop_stmt, stmt_by, stmt}
use Rattle.syntax_reading.proofs.Basics.{IsName}
use Rattle.syntax_reading.proofs.Shorter.{stmt-shorter}
use Rattle.syntax_reading.proofs.AgainBasics.{step, if-true, if-false, Again, expect_again, name_again, Stop, Ends, stop-at, many_again}
use Rattle.syntax_reading.proofs.ExprAgain.{constant_again, index_again, arg_list, from-args, args_again, expr-begins, expr-entry, expr_again, inner_again}

module _ {P : Type 0} where
  -- ---- references

  -- a reference begins with its name; what follows is read as the rest of it
  record RefParts (depth : ℕ) (r : Ref P) (ts us : List (Tok P)) : Type 0 where
    pub name : Name × P
    pub rest : List (Tok P)
    pub first : IsName name ts rest
    pub reads : is_at w.LEFT_BRACKET us ≡ false → reference_from depth name rest ≡ Ok (r, us)
    pub begins : (v : Word) → same_word w.LEFT_BRACKET v ≡ false → is_at v us ≡ false → is_at v rest ≡ false

  ref-parts : (depth : ℕ) (r : Ref P) (ts us : List (Tok P)) → IsRef depth r ts us → RefParts depth r ts us
  unfolding reference_from
  ref-parts depth (whole p n) ts us took =
      record { name = (n, p); rest = us; first = took; reads = λ none. if-false (is_at w.LEFT_BRACKET us) _ _ _ none refl; begins = λ v other none. none }
  ref-parts zero (part p n i) ts us (vs, took, more) = absurd more
  ref-parts (suc depth) (part p n i) ts us (vs, took, more) =
      record {
        name = (n, p);
        rest = vs;
        first = took;
        reads = λ none. if-true (is_at w.LEFT_BRACKET vs) _ _ _ (ap (is_at w.LEFT_BRACKET) more.1.1)
            (step (index (inner (suc depth)) vs) _ (i, us) _ (index_again (inner (suc depth)) (suc depth) (inner_again P (suc depth)) i vs us more) refl);
        begins = λ v other none. ap (is_at v) more.1.1 ∙ other;
      }

  reference_again : (depth : ℕ) (r : Ref P) (ts us : List (Tok P)) → IsRef depth r ts us → is_at w.LEFT_BRACKET us ≡ false → reference depth ts ≡ Ok (r, us)
  unfolding reference
  reference_again depth r ts us took none =
      let parts = ref-parts depth r ts us took in
      step (name ts) _ (parts.name, parts.rest) _ (name_again parts.name ts parts.rest parts.first) (parts.reads none)

  -- ---- how a statement begins

  pub record Front (ts : List (Tok P)) : Type 0 where
    pub word : Word
    pub place : P
    pub rest : List (Tok P)
    pub first : at word place ts rest
    pub ends : Ends word
    pub begins : begins_by word ≡ true

  pub front : (v : Word) (p : P) (ts us : List (Tok P)) → at v p ts us → Ends v → begins_by v ≡ true → Front ts
  front v p ts us took ends goes = record { word = v; place = p; rest = us; first = took; ends = ends; begins = goes }

  pub ref-front : (depth : ℕ) (r : Ref P) (ts us : List (Tok P)) → IsRef depth r ts us → Front ts
  ref-front depth r ts us took =
      let parts = ref-parts depth r ts us took in front (named parts.name.0) parts.name.1 ts parts.rest parts.first (refl, refl, refl, refl) refl

  stmt-front : (depth : ℕ) (s : Stmt P) (ts us : List (Tok P)) → IsStmt depth s ts us → Front ts
  stmt-front depth (assign r e) ts us (vs, took, more) = ref-front depth r ts vs took
  stmt-front depth (assign_entry r mon p entry q es) ts us (vs, took, more) = ref-front depth r ts vs took
  stmt-front depth (assign_empty r cond p) ts us (vs, took, more) = ref-front depth r ts vs took
  stmt-front depth (perform p n es) ts us (vs, took, more) = front (named n) p ts vs took (refl, refl, refl, refl) refl
  stmt-front depth (perform_entry p mon entry q es) ts us (vs, took, more) = front (named mon) p ts vs took (refl, refl, refl, refl) refl
  stmt-front zero (when p e ss) ts us took = absurd took
  stmt-front (suc depth) (when p e ss) ts us (vs, took, more) = front w.IF p ts vs took (refl, refl, refl, refl) refl
  stmt-front zero (when_else p e ss others) ts us took = absurd took
  stmt-front (suc depth) (when_else p e ss others) ts us (vs, took, more) = front w.IF p ts vs took (refl, refl, refl, refl) refl
  stmt-front zero (loop p n q low high ss) ts us took = absurd took
  stmt-front (suc depth) (loop p n q low high ss) ts us (vs, took, more) = front w.FOR p ts vs took (refl, refl, refl, refl) refl
  stmt-front depth (exit_when p e) ts us (vs, took, more) = front w.EXIT p ts vs took (refl, refl, refl, refl) refl
  stmt-front depth (get p dev q r) ts us (vs, took, more) = front w.GET p ts vs took (refl, refl, refl, refl) refl
  stmt-front depth (put p dev q e) ts us (vs, took, more) = front w.PUT p ts vs took (refl, refl, refl, refl) refl
  stmt-front depth (wait p cond q limit number) ts us (vs, took, more) = front w.WAIT p ts vs took (refl, refl, refl, refl) refl
  stmt-front depth (signal p cond q) ts us (vs, took, more) = front w.SIGNAL p ts vs took (refl, refl, refl, refl) refl
  stmt-front depth (broadcast p cond q) ts us (vs, took, more) = front w.BROADCAST p ts vs took (refl, refl, refl, refl) refl
  stmt-front depth (except p number) ts us (vs, took, more) = front w.EXCEPT p ts vs took (refl, refl, refl, refl) refl
  stmt-front depth (assert p e) ts us (vs, took, more) = front w.ASSERT p ts vs took (refl, refl, refl, refl) refl

  pub stmt-begins : (depth : ℕ) (s : Stmt P) (ts us : List (Tok P)) → IsStmt depth s ts us → begins ts ≡ true
  stmt-begins depth s ts us took = let f = stmt-front depth s ts us took in ap begins f.first ∙ f.begins

  pub stmt-starts : (depth : ℕ) (s : Stmt P) (ts us : List (Tok P)) → IsStmt depth s ts us → Stop 5 ts
  stmt-starts depth s ts us took = let f = stmt-front depth s ts us took in stop-at 5 f.word f.place ts f.rest f.ends f.first

  -- ---- statements that begin with a name

  args-again : (depth : ℕ) (es : Exprs P) (ts us : List (Tok P)) → InParens depth es ts us → args (inner depth) ts ≡ Ok (arg_list es, us)
  args-again depth es ts us took = args_again (inner depth) depth (inner_again P depth) es ts us took

  parens-begin : (v : Word) → same_word w.LEFT_PAREN v ≡ true → (depth : ℕ) (es : Exprs P) (ts us : List (Tok P)) → InParens depth es ts us → is_at v ts ≡ true
  parens-begin v same zero es ts us took = absurd took
  parens-begin v same (suc depth) es ts us (vs, (q, l), more) = ap (is_at v) l ∙ same

  entry_args_again : (depth : ℕ) (es : Exprs P) (ts us : List (Tok P)) → InParens depth es ts us → entry_args depth ts ≡ Ok (arg_list es, us)
  unfolding entry_args
  entry_args_again depth es ts us took =
      if-true (is_at w.LEFT_PAREN ts) _ _ _ (parens-begin w.LEFT_PAREN refl depth es ts us took) (args-again depth es ts us took)

  entry_again : (depth : ℕ) (n : Name × P) (es : Exprs P) (ts us : List (Tok P)) → (a w.DOT ▷ IsName n ▷ InParens depth es) ts us
      → entry depth ts ≡ Ok ((n.0, n.1, arg_list es), us)
  unfolding entry
  entry_again depth n es ts us (v1, (q1, t1), (v2, t2, t3)) =
      step (expect w.DOT ts) _ (q1, v1) _ (expect_again w.DOT q1 ts v1 refl t1)
      (step (name v1) _ (n, v2) _ (name_again n v1 v2 t2)
      (step (entry_args depth v2) _ (arg_list es, us) _ (entry_args_again depth es v2 us t3)
      refl))

  pub name-stmt : (depth : ℕ) (n : Name × P) (ts vs : List (Tok P)) → IsName n ts vs → stmt depth ts ≡ named_stmt depth n vs
  unfolding stmt stmt_by name
  name-stmt zero n ts vs took = ap (stmt zero) took
  name-stmt (suc depth) n ts vs took = ap (stmt (suc depth)) took

  -- a statement that begins with a reference and is no call
  pub assigns-as : (depth : ℕ) (r : Ref P) (ts vs v2 : List (Tok P)) (y : Result (Stmt P × List (Tok P)) Fault) → IsRef depth r ts vs → a w.ASSIGN vs v2
      → assigned depth r v2 ≡ y → stmt depth ts ≡ y
  unfolding named_stmt
  assigns-as depth r ts vs v2 y took (q, c) reads =
      let parts = ref-parts depth r ts vs took in
      name-stmt depth parts.name ts parts.rest parts.first
      ∙ if-false (is_at w.LEFT_PAREN parts.rest) _ _ _ (parts.begins w.LEFT_PAREN refl (ap (is_at w.LEFT_PAREN) c))
      (if-false (is_at w.DOT parts.rest) _ _ _ (parts.begins w.DOT refl (ap (is_at w.DOT) c))
      (step (reference_from depth parts.name parts.rest) _ (r, vs) _ (parts.reads (ap (is_at w.LEFT_BRACKET) c))
      (step (expect w.ASSIGN vs) _ (q, v2) _ (expect_again w.ASSIGN q vs v2 refl c) reads)))

  assigns : (depth : ℕ) (r : Ref P) (s : Stmt P) (ts vs v2 us : List (Tok P)) → IsRef depth r ts vs → a w.ASSIGN vs v2 → assigned depth r v2 ≡ Ok (s, us)
      → stmt depth ts ≡ Ok (s, us)
  assigns depth r s ts vs v2 us took becomes reads = assigns-as depth r ts vs v2 (Ok (s, us)) took becomes reads

  -- ---- lists of statements

  abbrev pub stmt_list : Stmts P → List (Stmt P)
  stmt_list no_stmts = []
  stmt_list (stmts s ss) = s ∷ stmt_list ss

  pub from-stmts : (ss : Stmts P) → stmts_of (stmt_list ss) ≡ ss
  from-stmts no_stmts = refl
  from-stmts (stmts s ss) = ap (stmts s) (from-stmts ss)

  pub to-each : (depth : ℕ) (ss : Stmts P) (ts us : List (Tok P)) → AreStmts depth ss ts us → Each (IsStmt depth) (stmt_list ss) ts us
  to-each depth no_stmts ts us took = took
  to-each depth (stmts s ss) ts us (vs, took, more) = (vs, took, to-each depth ss vs us more)

  -- this word ends a list of statements
  abbrev pub EndsStmts : Word → List (Tok P) → List (Tok P) → Type 0
  EndsStmts v ts us = Ends v × (begins_by v ≡ false) × a v ts us

  pub stmts_again : (depth : ℕ) (p : Parse P (Stmt P)) → Again p (IsStmt depth) (Stop 5) → (ss : Stmts P) (ts us : List (Tok P)) → AreStmts depth ss ts us
      → (v : Word) (vs : List (Tok P)) → EndsStmts v us vs → stmts_by p ts ≡ Ok (stmt_list ss, us)
  unfolding stmts_by
  stmts_again depth p again ss ts us took v vs (ends, none, (q, c)) =
      many_again begins p (IsStmt depth) (Stop 5) again (stmt-begins depth) (stmt-starts depth) (stmt-shorter depth) (stmt_list ss) ts us (to-each depth ss ts us took)
      (stop-at 5 v q us vs ends c) (ap begins c ∙ none)

  closing_again : (v : Word) → same_word v v ≡ true → (ts us : List (Tok P)) (took : (a w.END ▷ a v) ts us) → closing v ts ≡ Ok (took.2.0, us)
  unfolding closing
  closing_again v same ts us (vs, (q, c), (r, d)) =
      step (expect w.END ts) _ (q, vs) _ (expect_again w.END q ts vs refl c) (expect_again v r vs us same d)

  module _ (depth : ℕ) (again : Again {P = P} (stmt depth) (IsStmt depth) (Stop 5)) where
    choice_when : (p : P) (e : Expr P) (ss : Stmts P) (ts us : List (Tok P)) → IsStmt (suc depth) (when p e ss) ts us → choice depth (stmt depth) ts ≡ Ok (when p e ss, us)
    unfolding choice else_by
    choice_when p e ss ts us (v1, i, (v2, x, (v3, (q, t), (v4, took, (v5, (r, d), close))))) =
        step (expect w.IF ts) _ (p, v1) _ (expect_again w.IF p ts v1 refl i)
        (step (expr depth v1) _ (e, v2) _ (expr_again depth v1 v2 e x (stop-at 5 w.THEN q v2 v3 (refl, refl, refl, refl) t))
        (step (expect w.THEN v2) _ (q, v3) _ (expect_again w.THEN q v2 v3 refl t)
        (step (stmts_by (stmt depth) v3) _ (stmt_list ss, v4) _ (stmts_again depth (stmt depth) again ss v3 v4 took w.END v5 ((refl, refl, refl, refl), refl, (r, d)))
        (if-false (is_at w.ELSE v4) _ _ _ (ap (is_at w.ELSE) d)
        (step (closing w.IF v4) _ (close.0, us) _ (closing_again w.IF refl v4 us (v5, (r, d), close))
        (ap (λ x. Ok (when p e x, us)) (from-stmts ss)))))))

    choice_else : (p : P) (e : Expr P) (ss others : Stmts P) (ts us : List (Tok P)) → IsStmt (suc depth) (when_else p e ss others) ts us
        → choice depth (stmt depth) ts ≡ Ok (when_else p e ss others, us)
    unfolding choice else_by
    choice_else p e ss others ts us (v1, i, (v2, x, (v3, (q, t), (v4, took, (v5, (r, d), (v6, more, (v7, (s, f), close))))))) =
        step (expect w.IF ts) _ (p, v1) _ (expect_again w.IF p ts v1 refl i)
        (step (expr depth v1) _ (e, v2) _ (expr_again depth v1 v2 e x (stop-at 5 w.THEN q v2 v3 (refl, refl, refl, refl) t))
        (step (expect w.THEN v2) _ (q, v3) _ (expect_again w.THEN q v2 v3 refl t)
        (step (stmts_by (stmt depth) v3) _ (stmt_list ss, v4) _ (stmts_again depth (stmt depth) again ss v3 v4 took w.ELSE v5 ((refl, refl, refl, refl), refl, (r, d)))
        (if-true (is_at w.ELSE v4) _ _ _ (ap (is_at w.ELSE) d)
        (step (expect w.ELSE v4) _ (r, v5) _ (expect_again w.ELSE r v4 v5 refl d)
        (step (stmts_by (stmt depth) v5) _ (stmt_list others, v6) _ (stmts_again depth (stmt depth) again others v5 v6 more w.END v7 ((refl, refl, refl, refl), refl, (s, f)))
        (step (closing w.IF v6) _ (close.0, us) _ (closing_again w.IF refl v6 us (v7, (s, f), close))
        (ap (λ x. Ok (when_else p e x (stmts_of (stmt_list others)), us)) (from-stmts ss) ∙ ap (λ x. Ok (when_else p e ss x, us)) (from-stmts others)))))))))

    loop_again : (p : P) (n : Name) (q : P) (low high : Constant P) (ss : Stmts P) (ts us : List (Tok P)) → IsStmt (suc depth) (loop p n q low high ss) ts us
        → loop_stmt (stmt depth) ts ≡ Ok (loop p n q low high ss, us)
    unfolding loop_stmt
    loop_again p n q low high ss ts us (v1, t1, (v2, t2, (v3, (q3, t3), (v4, t4, (v5, (q5, t5), (v6, t6, (v7, (q7, t7), (v8, t8, (v9, (q9, t9), close))))))))) =
        step (expect w.FOR ts) _ (p, v1) _ (expect_again w.FOR p ts v1 refl t1)
        (step (name v1) _ ((n, q), v2) _ (name_again (n, q) v1 v2 t2)
        (step (expect w.COLON v2) _ (q3, v3) _ (expect_again w.COLON q3 v2 v3 refl t3)
        (step (constant v3) _ (low, v4) _ (constant_again low v3 v4 t4)
        (step (expect w.RANGE v4) _ (q5, v5) _ (expect_again w.RANGE q5 v4 v5 refl t5)
        (step (constant v5) _ (high, v6) _ (constant_again high v5 v6 t6)
        (step (expect w.DO v6) _ (q7, v7) _ (expect_again w.DO q7 v6 v7 refl t7)
        (step (stmts_by (stmt depth) v7) _ (stmt_list ss, v8) _ (stmts_again depth (stmt depth) again ss v7 v8 t8 w.END v9 ((refl, refl, refl, refl), refl, (q9, t9)))
        (step (closing w.FOR v8) _ (close.0, us) _ (closing_again w.FOR refl v8 us (v9, (q9, t9), close)) (ap (λ x. Ok (loop p n q low high x, us)) (from-stmts ss))))))))))

  pub stmt_again : (depth : ℕ) → Again {P = P} (stmt depth) (IsStmt depth) (Stop 5)
  unfolding stmt stmt_by simple_stmt plain_stmt exit_stmt get_stmt put_stmt assert_stmt wait_stmt signal_stmt broadcast_stmt except_stmt expect named_stmt assigned
  stmt_again depth ts us (assign r e) (vs, took, (v2, c, x)) stop =
      assigns depth r (assign r e) ts vs v2 us took c
      (if-false (is_at w.EMPTY v2) _ _ _ (expr-begins w.EMPTY (refl, refl, refl, refl, refl, λ n. refl) 5 depth e v2 us x)
      (if-false (is_entry v2) _ _ _ (expr-entry 5 depth e v2 us x stop.dot) (step (expr depth v2) _ (e, us) _ (expr_again depth v2 us e x stop) refl)))
  stmt_again depth ts us (assign_entry r mon p entry q es) (vs, took, (v2, c, (v3, m, (v4, (o, d), more)))) stop =
      assigns depth r (assign_entry r mon p entry q es) ts vs v2 us took c
      (if-false (is_at w.EMPTY v2) _ _ _ (ap (is_at w.EMPTY) m)
      (if-true (is_entry v2) _ _ _ (ap is_entry m ∙ ap (is_at w.DOT) d)
      (step (name v2) _ ((mon, p), v3) _ (name_again (mon, p) v2 v3 m)
      (step (reading.entry depth v3) _ ((entry, q, arg_list es), us) _ (entry_again depth (entry, q) es v3 us (v4, (o, d), more))
      (ap (λ x. Ok (assign_entry r mon p entry q x, us)) (from-args es))))))
  stmt_again depth ts us (assign_empty r cond p) (vs, took, (v2, c, (v3, (q, m), n))) stop =
      assigns depth r (assign_empty r cond p) ts vs v2 us took c
      (if-true (is_at w.EMPTY v2) _ _ _ (ap (is_at w.EMPTY) m)
      (step (expect w.EMPTY v2) _ (q, v3) _ (expect_again w.EMPTY q v2 v3 refl m) (step (name v3) _ ((cond, p), us) _ (name_again (cond, p) v3 us n) refl)))
  stmt_again depth ts us (perform p n es) (vs, took, more) stop =
      name-stmt depth (n, p) ts vs took
      ∙ if-true (is_at w.LEFT_PAREN vs) _ _ _ (parens-begin w.LEFT_PAREN refl depth es vs us more)
      (step (args (inner depth) vs) _ (arg_list es, us) _ (args-again depth es vs us more) (ap (λ x. Ok (perform p n x, us)) (from-args es)))
  stmt_again depth ts us (perform_entry p mon entry q es) (vs, took, (v2, (o, d), more)) stop =
      name-stmt depth (mon, p) ts vs took
      ∙ if-false (is_at w.LEFT_PAREN vs) _ _ _ (ap (is_at w.LEFT_PAREN) d)
      (if-true (is_at w.DOT vs) _ _ _ (ap (is_at w.DOT) d)
      (step (reading.entry depth vs) _ ((entry, q, arg_list es), us) _ (entry_again depth (entry, q) es vs us (v2, (o, d), more))
      (ap (λ x. Ok (perform_entry p mon entry q x, us)) (from-args es))))
  stmt_again zero ts us (when p e ss) took stop = absurd took
  stmt_again (suc depth) ts us (when p e ss) took stop = ap (stmt (suc depth)) took.1 ∙ ap (choice depth (stmt depth)) (sym took.1) ∙ choice_when depth (stmt_again depth) p e ss ts us took
  stmt_again zero ts us (when_else p e ss others) took stop = absurd took
  stmt_again (suc depth) ts us (when_else p e ss others) took stop =
      ap (stmt (suc depth)) took.1 ∙ ap (choice depth (stmt depth)) (sym took.1) ∙ choice_else depth (stmt_again depth) p e ss others ts us took
  stmt_again zero ts us (loop p n q low high ss) took stop = absurd took
  stmt_again (suc depth) ts us (loop p n q low high ss) took stop =
      ap (stmt (suc depth)) took.1 ∙ ap (loop_stmt (stmt depth)) (sym took.1) ∙ loop_again depth (stmt_again depth) p n q low high ss ts us took
  stmt_again zero ts us (exit_when p e) (v1, t1, (v2, (q2, t2), t3)) stop =
      ap (stmt zero) t1
      ∙ step (expect w.WHEN v1) _ (q2, v2) _ (expect_again w.WHEN q2 v1 v2 refl t2)
      (step (expr zero v2) _ (e, us) _ (expr_again zero v2 us e t3 stop)
      refl)
  stmt_again (suc depth) ts us (exit_when p e) (v1, t1, (v2, (q2, t2), t3)) stop =
      ap (stmt (suc depth)) t1
      ∙ step (expect w.WHEN v1) _ (q2, v2) _ (expect_again w.WHEN q2 v1 v2 refl t2)
      (step (expr (suc depth) v2) _ (e, us) _ (expr_again (suc depth) v2 us e t3 stop)
      refl)
  stmt_again zero ts us (get p dev q r) (v1, t1, (v2, t2, t3)) stop =
      ap (stmt zero) t1
      ∙ step (name v1) _ ((dev, q), v2) _ (name_again (dev, q) v1 v2 t2)
      (step (reference zero v2) _ (r, us) _ (reference_again zero r v2 us t3 stop.bracket)
      refl)
  stmt_again (suc depth) ts us (get p dev q r) (v1, t1, (v2, t2, t3)) stop =
      ap (stmt (suc depth)) t1
      ∙ step (name v1) _ ((dev, q), v2) _ (name_again (dev, q) v1 v2 t2)
      (step (reference (suc depth) v2) _ (r, us) _ (reference_again (suc depth) r v2 us t3 stop.bracket)
      refl)
  stmt_again zero ts us (put p dev q e) (v1, t1, (v2, t2, t3)) stop =
      ap (stmt zero) t1
      ∙ step (name v1) _ ((dev, q), v2) _ (name_again (dev, q) v1 v2 t2)
      (step (expr zero v2) _ (e, us) _ (expr_again zero v2 us e t3 stop)
      refl)
  stmt_again (suc depth) ts us (put p dev q e) (v1, t1, (v2, t2, t3)) stop =
      ap (stmt (suc depth)) t1
      ∙ step (name v1) _ ((dev, q), v2) _ (name_again (dev, q) v1 v2 t2)
      (step (expr (suc depth) v2) _ (e, us) _ (expr_again (suc depth) v2 us e t3 stop)
      refl)
  stmt_again zero ts us (wait p cond q limit number) (v1, t1, (v2, t2, (v3, (q3, t3), (v4, t4, (v5, (q5, t5), t6))))) stop =
      ap (stmt zero) t1
      ∙ step (name v1) _ ((cond, q), v2) _ (name_again (cond, q) v1 v2 t2)
      (step (expect w.NO_LONGER_THAN v2) _ (q3, v3) _ (expect_again w.NO_LONGER_THAN q3 v2 v3 refl t3)
      (step (constant v3) _ (limit, v4) _ (constant_again limit v3 v4 t4)
      (step (expect w.COLON v4) _ (q5, v5) _ (expect_again w.COLON q5 v4 v5 refl t5)
      (step (constant v5) _ (number, us) _ (constant_again number v5 us t6)
      refl))))
  stmt_again (suc depth) ts us (wait p cond q limit number) (v1, t1, (v2, t2, (v3, (q3, t3), (v4, t4, (v5, (q5, t5), t6))))) stop =
      ap (stmt (suc depth)) t1
      ∙ step (name v1) _ ((cond, q), v2) _ (name_again (cond, q) v1 v2 t2)
      (step (expect w.NO_LONGER_THAN v2) _ (q3, v3) _ (expect_again w.NO_LONGER_THAN q3 v2 v3 refl t3)
      (step (constant v3) _ (limit, v4) _ (constant_again limit v3 v4 t4)
      (step (expect w.COLON v4) _ (q5, v5) _ (expect_again w.COLON q5 v4 v5 refl t5)
      (step (constant v5) _ (number, us) _ (constant_again number v5 us t6)
      refl))))
  stmt_again zero ts us (signal p cond q) (v1, t1, t2) stop =
      ap (stmt zero) t1
      ∙ step (name v1) _ ((cond, q), us) _ (name_again (cond, q) v1 us t2)
      refl
  stmt_again (suc depth) ts us (signal p cond q) (v1, t1, t2) stop =
      ap (stmt (suc depth)) t1
      ∙ step (name v1) _ ((cond, q), us) _ (name_again (cond, q) v1 us t2)
      refl
  stmt_again zero ts us (broadcast p cond q) (v1, t1, t2) stop =
      ap (stmt zero) t1
      ∙ step (name v1) _ ((cond, q), us) _ (name_again (cond, q) v1 us t2)
      refl
  stmt_again (suc depth) ts us (broadcast p cond q) (v1, t1, t2) stop =
      ap (stmt (suc depth)) t1
      ∙ step (name v1) _ ((cond, q), us) _ (name_again (cond, q) v1 us t2)
      refl
  stmt_again zero ts us (except p number) (v1, t1, t2) stop =
      ap (stmt zero) t1
      ∙ step (constant v1) _ (number, us) _ (constant_again number v1 us t2)
      refl
  stmt_again (suc depth) ts us (except p number) (v1, t1, t2) stop =
      ap (stmt (suc depth)) t1
      ∙ step (constant v1) _ (number, us) _ (constant_again number v1 us t2)
      refl
  stmt_again zero ts us (assert p e) (v1, t1, t2) stop =
      ap (stmt zero) t1
      ∙ step (expr zero v1) _ (e, us) _ (expr_again zero v1 us e t2 stop)
      refl
  stmt_again (suc depth) ts us (assert p e) (v1, t1, t2) stop =
      ap (stmt (suc depth)) t1
      ∙ step (expr (suc depth) v1) _ (e, us) _ (expr_again (suc depth) v1 us e t2 stop)
      refl

  pub all_stmts_again : (depth : ℕ) (ss : Stmts P) (ts us : List (Tok P)) → AreStmts depth ss ts us → (v : Word) (vs : List (Tok P)) → EndsStmts v us vs
      → reading.stmts depth ts ≡ Ok (stmt_list ss, us)
  unfolding reading.stmts
  all_stmts_again depth ss ts us took v vs ends = stmts_again depth (stmt depth) (stmt_again depth) ss ts us took v vs ends
