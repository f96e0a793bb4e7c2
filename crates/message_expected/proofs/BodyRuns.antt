-- The automaton reads statements in their order.
use Rattle.std.proofs.Common.{◌≡◌, ℕ, zero, suc, List, [], ◌∷◌, ◌++◌, length, Bool, true, false, cond, Result, Ok, refl, ap, ◌∙◌, arith}
use Rattle.syntax.specs.declared.token.keyword.TheConstants as k
use Rattle.syntax.specs.declared.token.sign.TheConstants as m
use Rattle.syntax.specs.Words as w
use Rattle.syntax.specs.Words.{Word, Tok}
use Rattle.syntax_tree.specs.Plain.{Name}
use Rattle.syntax_tree.specs.Placed.{Expr, Ref, whole, part, Stmt, perform, perform_entry, exprs_of}
use Rattle.syntax_reading.specs.ExprReading.{Fault, ◌>>=◌, Parse, refuse, too_deep, same_word, is_named, expect, name, constant, index, args, inner, expr}
use Rattle.syntax_reading.specs.StmtReading.{reference_from, reference, entry, assigned, named_stmt, exit_stmt, get_stmt, put_stmt, assert_stmt, wait_stmt, signal_stmt, broadcast_stmt, except_stmt, plain_stmt, simple_stmt, begins, stmts_by, closing, else_by, choice, loop_stmt, stmt_by, stmt, stmts}
use Rattle.message_expected.specs.Automaton as a
use Rattle.message_expected.specs.Automaton.{Head, Turn, along, is_key, is_refused, is_sign, kind_of_word, refused, turn, where_so}
use Rattle.message_expected.specs.declared.symbols.Symbol.{Symbol}
use Rattle.message_expected.specs.declared.symbols.Symbol.TheVariants as s
use Rattle.message_expected.proofs.Runs.{Does, Reads, Same, along-name, along-word, a-name, bind, branch, deep-same, done, done-last, done-then, go, inner-same, key, key_same, last, many-heads, mark, must, name_same, none-begun, of-result, past-word, run, sign_same, via, word_does}
use Rattle.message_expected.proofs.ExprRuns.{args_do, constant_reads, expr_reads, index_does, inner_is}
use Rattle.message_expected.proofs.StmtRuns.{assigned_reads, entry_does, reference_reads, statement-refused}

abbrev pub named-turn : (x y z v : Bool) → Turn
named-turn x y z v =
    cond x (record { head = a.inside (s.FirstArgument ∷ []); behind = [] })
    (cond y (record { head = along (s.Name ∷ s.Arguments ∷ []); behind = [] })
    (cond z (record { head = a.inside (s.Expression ∷ s.Sign m.RIGHT_BRACKET ∷ []); behind = s.Sign m.ASSIGN ∷ s.Assigned ∷ [] })
    (cond v (record { head = along (s.Assigned ∷ []); behind = [] }) (record { head = refused; behind = [] }))))

-- what branches and loops begin with
abbrev branch-symbols : List Symbol
branch-symbols = s.Expression ∷ s.Keyword k.THEN ∷ s.Statements ∷ s.Else ∷ []

abbrev loop-symbols : List Symbol
loop-symbols = s.Name ∷ s.Sign m.COLON ∷ s.Constant ∷ s.Sign m.RANGE ∷ s.Constant ∷ s.Keyword k.DO ∷ s.Statements ∷ s.Keyword k.END ∷ s.Keyword k.FOR ∷ []

module _ {P : Type 0} (d : ℕ) where
  module _ (n : Name × P) where
    abbrev to-perform : List (Expr P) × List (Tok P) → Result (Stmt P × List (Tok P)) Fault
    to-perform es = Ok (perform n.1 n.0 (exprs_of es.0), es.1)

    abbrev to-entry : (Name × P × List (Expr P)) × List (Tok P) → Result (Stmt P × List (Tok P)) Fault
    to-entry e = Ok (perform_entry n.1 n.0 e.0.0 e.0.1 (exprs_of e.0.2), e.1)

    abbrev to-part : Expr P × List (Tok P) → Result (Ref P × List (Tok P)) Fault
    to-part i = Ok (part n.1 n.0 i.0, i.1)

    abbrev to-assigned : Ref P × List (Tok P) → Result (Stmt P × List (Tok P)) Fault
    to-assigned r = expect w.ASSIGN r.1 >>= λ c. assigned d r.0 c.1

    abbrev named-result : (x y z : Bool) → List (Tok P) → Result (Stmt P × List (Tok P)) Fault
    named-result x y z ts =
        cond x (args (inner d) ts >>= to-perform) (cond y (entry d ts >>= to-entry) (cond z (index (inner d) ts >>= to-part) (Ok (whole n.1 n.0, ts)) >>= to-assigned))

    abbrev NamedComes : (x y z v : Bool) → Tok P → List (Tok P) → Result (Stmt P × List (Tok P)) Fault → Type 0
    NamedComes x y z v t ts result = Same d (λ stack. go d ((named-turn x y z v).behind ++ stack) (named-turn x y z v).head t ts) result (length ts)

    to-assigned-reads : (r : Ref P) → Reads d (λ v. to-assigned (r, v)) (s.Sign m.ASSIGN ∷ s.Assigned ∷ [])
    to-assigned-reads r = bind d (expect w.ASSIGN) _ (s.Sign m.ASSIGN ∷ []) (s.Assigned ∷ []) (mark d m.ASSIGN) (λ c. assigned_reads d r)

    named-comes : (t : Tok P) (ts : List (Tok P)) (x y z v : Bool) → same_word t.word w.LEFT_PAREN ≡ x → same_word t.word w.DOT ≡ y → same_word t.word w.LEFT_BRACKET ≡ z → same_word t.word w.ASSIGN ≡ v
        → NamedComes x y z v t ts (named-result x y z (t ∷ ts))
    unfolding expect
    named-comes t ts true y z v ex ey ez ev = done-last d (a.inside (s.FirstArgument ∷ [])) (args (inner d)) to-perform t ts (args_do d (inner d) (inner_is P d) t ts ex) (λ es. done d _)
    named-comes t ts false true z v ex ey ez ev = done-last d (along (s.Name ∷ s.Arguments ∷ [])) (entry d) to-entry t ts (entry_does d t ts ey) (λ e. done d _)
    named-comes t ts false false true v ex ey ez ev =
        done-then d (a.inside (s.Expression ∷ s.Sign m.RIGHT_BRACKET ∷ [])) (s.Sign m.ASSIGN ∷ s.Assigned ∷ []) (λ ts. index (inner d) ts >>= to-part) to-assigned t ts
        (done-last d (a.inside (s.Expression ∷ s.Sign m.RIGHT_BRACKET ∷ [])) (index (inner d)) to-part t ts (index_does d (inner d) (inner_is P d) t ts ez) (λ i. done d _)) to-assigned-reads
    named-comes t ts false false false true ex ey ez ev = along-word d w.ASSIGN (λ c. assigned d (whole n.1 n.0) c.1) (s.Assigned ∷ []) t ts ev (λ q. assigned_reads d (whole n.1 n.0))
    named-comes t ts false false false false ex ey ez ev =
        of-result d _ _ (refuse (t ∷ ts)) (length ts) (ap (λ b. cond b (Ok (t.place, ts)) (refuse (t ∷ ts)) >>= λ c. assigned d (whole n.1 n.0) c.1) ev) (none-begun d t ts (length ts))

    pub named_reads : Reads d (named_stmt d n) (s.NamedStatement ∷ [])
    unfolding named_stmt reference_from turn a.named_statement expect
    named_reads = must d s.NamedStatement (named_stmt d n) refl refl (λ t ts. by t ts (same_word t.word w.LEFT_PAREN) (same_word t.word w.DOT) (same_word t.word w.LEFT_BRACKET) (same_word t.word w.ASSIGN) refl refl refl refl)
      where
        by : (t : Tok P) (ts : List (Tok P)) (x y z v : Bool) → same_word t.word w.LEFT_PAREN ≡ x → same_word t.word w.DOT ≡ y → same_word t.word w.LEFT_BRACKET ≡ z → same_word t.word w.ASSIGN ≡ v
            → NamedComes (is_sign m.LEFT_PAREN (kind_of_word t.word)) (is_sign m.DOT (kind_of_word t.word)) (is_sign m.LEFT_BRACKET (kind_of_word t.word)) (is_sign m.ASSIGN (kind_of_word t.word)) t ts
            (named-result (same_word t.word w.LEFT_PAREN) (same_word t.word w.DOT) (same_word t.word w.LEFT_BRACKET) (t ∷ ts))
        by t ts x y z v ex ey ez ev =
            let ex2 = sign_same m.LEFT_PAREN t.word ∙ ex in
            let ey2 = sign_same m.DOT t.word ∙ ey in
            let ez2 = sign_same m.LEFT_BRACKET t.word ∙ ez in
            let ev2 = sign_same m.ASSIGN t.word ∙ ev in
            of-result d _ _ (named-result x y z (t ∷ ts)) (length ts) (λ i. named-result (ex i) (ey i) (ez i) (t ∷ ts))
            (via d _ (λ stack. go d ((named-turn x y z v).behind ++ stack) (named-turn x y z v).head t ts) (named-result x y z (t ∷ ts)) (length ts) (length ts) (omega arith)
            (λ stack. λ i. go d ((named-turn (ex2 i) (ey2 i) (ez2 i) (ev2 i)).behind ++ stack) (named-turn (ex2 i) (ey2 i) (ez2 i) (ev2 i)).head t ts) (named-comes t ts x y z v ex ey ez ev))

  -- ---- statements with no others inside

  exit_does : (t : Tok P) (ts : List (Tok P)) → same_word t.word w.EXIT ≡ true → Does d (along (s.Keyword k.WHEN ∷ s.Expression ∷ [])) (exit_stmt d) t ts
  unfolding exit_stmt
  exit_does t ts e =
      along-word d w.EXIT _ (s.Keyword k.WHEN ∷ s.Expression ∷ []) t ts e (λ q. bind d (expect w.WHEN) _ (s.Keyword k.WHEN ∷ []) (s.Expression ∷ []) (key d k.WHEN) (λ c. last d (expr d) _ (s.Expression ∷ []) (expr_reads d) (λ e. done d _)))

  get_does : (t : Tok P) (ts : List (Tok P)) → same_word t.word w.GET ≡ true → Does d (along (s.Name ∷ s.Name ∷ s.Index ∷ [])) (get_stmt d) t ts
  unfolding get_stmt
  get_does t ts e =
      along-word d w.GET _ (s.Name ∷ s.Name ∷ s.Index ∷ []) t ts e (λ q. bind d name _ (s.Name ∷ []) (s.Name ∷ s.Index ∷ []) (a-name d) (λ n. last d (reference d) _ (s.Name ∷ s.Index ∷ []) (reference_reads d) (λ r. done d _)))

  put_does : (t : Tok P) (ts : List (Tok P)) → same_word t.word w.PUT ≡ true → Does d (along (s.Name ∷ s.Expression ∷ [])) (put_stmt d) t ts
  unfolding put_stmt
  put_does t ts e =
      along-word d w.PUT _ (s.Name ∷ s.Expression ∷ []) t ts e (λ q. bind d name _ (s.Name ∷ []) (s.Expression ∷ []) (a-name d) (λ n. last d (expr d) _ (s.Expression ∷ []) (expr_reads d) (λ e. done d _)))

  assert_does : (t : Tok P) (ts : List (Tok P)) → same_word t.word w.ASSERT ≡ true → Does d (along (s.Expression ∷ [])) (assert_stmt d) t ts
  unfolding assert_stmt
  assert_does t ts e = along-word d w.ASSERT _ (s.Expression ∷ []) t ts e (λ q. last d (expr d) _ (s.Expression ∷ []) (expr_reads d) (λ e. done d _))

  wait_does : (t : Tok P) (ts : List (Tok P)) → same_word t.word w.WAIT ≡ true → Does d (along (s.Name ∷ s.Keyword k.NO_LONGER_THAN ∷ s.Constant ∷ s.Sign m.COLON ∷ s.Constant ∷ [])) wait_stmt t ts
  unfolding wait_stmt
  wait_does t ts e =
      along-word d w.WAIT _ (s.Name ∷ s.Keyword k.NO_LONGER_THAN ∷ s.Constant ∷ s.Sign m.COLON ∷ s.Constant ∷ []) t ts e (λ q.
      bind d name _ (s.Name ∷ []) (s.Keyword k.NO_LONGER_THAN ∷ s.Constant ∷ s.Sign m.COLON ∷ s.Constant ∷ []) (a-name d) (λ n.
      bind d (expect w.NO_LONGER_THAN) _ (s.Keyword k.NO_LONGER_THAN ∷ []) (s.Constant ∷ s.Sign m.COLON ∷ s.Constant ∷ []) (key d k.NO_LONGER_THAN) (λ c.
      bind d constant _ (s.Constant ∷ []) (s.Sign m.COLON ∷ s.Constant ∷ []) (constant_reads d) (λ limit. bind d (expect w.COLON) _ (s.Sign m.COLON ∷ []) (s.Constant ∷ []) (mark d m.COLON) (λ c.
      last d constant _ (s.Constant ∷ []) (constant_reads d) (λ number. done d _))))))

  signal_does : (t : Tok P) (ts : List (Tok P)) → same_word t.word w.SIGNAL ≡ true → Does d (along (s.Name ∷ [])) signal_stmt t ts
  unfolding signal_stmt
  signal_does t ts e = along-word d w.SIGNAL _ (s.Name ∷ []) t ts e (λ q. last d name _ (s.Name ∷ []) (a-name d) (λ n. done d _))

  broadcast_does : (t : Tok P) (ts : List (Tok P)) → same_word t.word w.BROADCAST ≡ true → Does d (along (s.Name ∷ [])) broadcast_stmt t ts
  unfolding broadcast_stmt
  broadcast_does t ts e = along-word d w.BROADCAST _ (s.Name ∷ []) t ts e (λ q. last d name _ (s.Name ∷ []) (a-name d) (λ n. done d _))

  except_does : (t : Tok P) (ts : List (Tok P)) → Does d (where_so (is_key k.EXCEPT (kind_of_word t.word)) (s.Constant ∷ [])) except_stmt t ts
  unfolding except_stmt
  except_does t ts =
      word_does d w.EXCEPT (is_key k.EXCEPT (kind_of_word t.word)) _ (s.Constant ∷ []) t ts (key_same k.EXCEPT t.word) (λ q. last d constant _ (s.Constant ∷ []) (constant_reads d) (λ c. done d _))

  statement_by : (choose repeat : Parse P (Stmt P)) (t : Tok P) (ts : List (Tok P)) → (same_word t.word w.IF ≡ true → Does d (a.inside branch-symbols) choose t ts) → (same_word t.word w.FOR ≡ true → Does d (a.inside loop-symbols) repeat t ts)
      → Does d (a.statement (kind_of_word t.word)) (stmt_by d choose repeat) t ts
  unfolding stmt_by simple_stmt plain_stmt a.statement
  statement_by choose repeat t ts hc hr =
      branch d (λ h stack. go d stack h t ts) _ (is_named t.word) _ _ _ _ (length ts) (name_same t.word) (λ e. along-name d _ (s.NamedStatement ∷ []) t ts e (λ n. named_reads n)) (λ e.
      branch d (λ h stack. go d stack h t ts) _ (same_word t.word w.IF) _ _ _ _ (length ts) (key_same k.IF t.word) hc (λ e.
      branch d (λ h stack. go d stack h t ts) _ (same_word t.word w.FOR) _ _ _ _ (length ts) (key_same k.FOR t.word) hr (λ e.
      branch d (λ h stack. go d stack h t ts) _ (same_word t.word w.EXIT) _ _ _ _ (length ts) (key_same k.EXIT t.word) (λ e. exit_does t ts e) (λ e.
      branch d (λ h stack. go d stack h t ts) _ (same_word t.word w.GET) _ _ _ _ (length ts) (key_same k.GET t.word) (λ e. get_does t ts e) (λ e.
      branch d (λ h stack. go d stack h t ts) _ (same_word t.word w.PUT) _ _ _ _ (length ts) (key_same k.PUT t.word) (λ e. put_does t ts e) (λ e.
      branch d (λ h stack. go d stack h t ts) _ (same_word t.word w.ASSERT) _ _ _ _ (length ts) (key_same k.ASSERT t.word) (λ e. assert_does t ts e) (λ e.
      branch d (λ h stack. go d stack h t ts) _ (same_word t.word w.WAIT) _ _ _ _ (length ts) (key_same k.WAIT t.word) (λ e. wait_does t ts e) (λ e.
      branch d (λ h stack. go d stack h t ts) _ (same_word t.word w.SIGNAL) _ _ _ _ (length ts) (key_same k.SIGNAL t.word) (λ e. signal_does t ts e) (λ e.
      branch d (λ h stack. go d stack h t ts) _ (same_word t.word w.BROADCAST) _ _ _ _ (length ts) (key_same k.BROADCAST t.word) (λ e. broadcast_does t ts e) (λ e. except_does t ts))))))))))

  -- ---- statements with others inside, by what reads those

  module _ (p : Parse P (Stmt P)) (h : Reads d (stmts_by p) (s.Statements ∷ [])) where
    closes : {A : Type 0} (x : A) (n : ℕ) → Reads {P = P} d (λ v. closing (w.keyword n) v >>= λ c. Ok (x, c.1)) (s.Keyword k.END ∷ s.Keyword n ∷ [])
    unfolding closing
    closes x n =
        last d (closing (w.keyword n)) _ (s.Keyword k.END ∷ s.Keyword n ∷ []) (bind d (expect w.END) _ (s.Keyword k.END ∷ []) (s.Keyword n ∷ []) (key d k.END) (λ e. key d n)) (λ c. done d x)

    else_reads : (q : P) (e : Expr P) (ss : List (Stmt P)) → Reads d (else_by p q e ss) (s.Else ∷ [])
    unfolding else_by turn a.else_part closing expect
    else_reads q e ss =
        must d s.Else (else_by p q e ss) refl refl
        (λ t ts. branch d (λ h stack. go d stack h t ts) _ (same_word t.word w.ELSE) (along (s.Statements ∷ s.Keyword k.END ∷ s.Keyword k.IF ∷ [])) _ _ _ (length ts) (key_same k.ELSE t.word)
        (λ is. along-word d w.ELSE _ (s.Statements ∷ s.Keyword k.END ∷ s.Keyword k.IF ∷ []) t ts is (λ c. bind d (stmts_by p) _ (s.Statements ∷ []) (s.Keyword k.END ∷ s.Keyword k.IF ∷ []) h (λ others. closes _ k.IF)))
        (λ is. done-last d (where_so (is_key k.END (kind_of_word t.word)) (s.Keyword k.IF ∷ [])) (closing w.IF) _ t ts
        (word_does d w.END (is_key k.END (kind_of_word t.word)) (λ e. expect w.IF e.1) (s.Keyword k.IF ∷ []) t ts (key_same k.END t.word) (λ q. key d k.IF)) (λ c. done d _)))

    choice_inside : (t : Tok P) (ts : List (Tok P)) → same_word t.word w.IF ≡ true → Same d (λ stack. run d ((s.Expression ∷ s.Keyword k.THEN ∷ s.Statements ∷ s.Else ∷ []) ++ stack) ts) (choice d p (t ∷ ts)) (length ts)
    unfolding choice
    choice_inside t ts is =
        of-result d _ _ _ (length ts) (past-word w.IF _ t ts is)
        (bind d (expr d) _ (s.Expression ∷ []) (s.Keyword k.THEN ∷ s.Statements ∷ s.Else ∷ []) (expr_reads d) (λ e.
        bind d (expect w.THEN) _ (s.Keyword k.THEN ∷ []) (s.Statements ∷ s.Else ∷ []) (key d k.THEN) (λ c. bind d (stmts_by p) _ (s.Statements ∷ []) (s.Else ∷ []) h (λ ss. else_reads t.place e ss))) ts)

    loop_inside : (t : Tok P) (ts : List (Tok P)) → same_word t.word w.FOR ≡ true
        → Same d (λ stack. run d ((s.Name ∷ s.Sign m.COLON ∷ s.Constant ∷ s.Sign m.RANGE ∷ s.Constant ∷ s.Keyword k.DO ∷ s.Statements ∷ s.Keyword k.END ∷ s.Keyword k.FOR ∷ []) ++ stack) ts) (loop_stmt p (t ∷ ts)) (length ts)
    unfolding loop_stmt
    loop_inside t ts is =
        of-result d _ _ _ (length ts) (past-word w.FOR _ t ts is)
        (bind d name _ (s.Name ∷ []) (s.Sign m.COLON ∷ s.Constant ∷ s.Sign m.RANGE ∷ s.Constant ∷ s.Keyword k.DO ∷ s.Statements ∷ s.Keyword k.END ∷ s.Keyword k.FOR ∷ []) (a-name d) (λ n.
        bind d (expect w.COLON) _ (s.Sign m.COLON ∷ []) (s.Constant ∷ s.Sign m.RANGE ∷ s.Constant ∷ s.Keyword k.DO ∷ s.Statements ∷ s.Keyword k.END ∷ s.Keyword k.FOR ∷ []) (mark d m.COLON) (λ c.
        bind d constant _ (s.Constant ∷ []) (s.Sign m.RANGE ∷ s.Constant ∷ s.Keyword k.DO ∷ s.Statements ∷ s.Keyword k.END ∷ s.Keyword k.FOR ∷ []) (constant_reads d) (λ low.
        bind d (expect w.RANGE) _ (s.Sign m.RANGE ∷ []) (s.Constant ∷ s.Keyword k.DO ∷ s.Statements ∷ s.Keyword k.END ∷ s.Keyword k.FOR ∷ []) (mark d m.RANGE) (λ c.
        bind d constant _ (s.Constant ∷ []) (s.Keyword k.DO ∷ s.Statements ∷ s.Keyword k.END ∷ s.Keyword k.FOR ∷ []) (constant_reads d) (λ high.
        bind d (expect w.DO) _ (s.Keyword k.DO ∷ []) (s.Statements ∷ s.Keyword k.END ∷ s.Keyword k.FOR ∷ []) (key d k.DO) (λ c.
        bind d (stmts_by p) _ (s.Statements ∷ []) (s.Keyword k.END ∷ s.Keyword k.FOR ∷ []) h (λ ss. closes _ k.FOR))))))) ts)

  -- statements, by what reads each
  statements_by : (p : Parse P (Stmt P)) → ((t : Tok P) (ts : List (Tok P)) → Does d (a.statement (kind_of_word t.word)) p t ts) → Reads d (stmts_by p) (s.Statements ∷ [])
  unfolding stmts_by turn
  statements_by p does =
      many-heads d s.Statements begins p (λ t. a.statement (kind_of_word t.word)) refl refl refl (λ t. refl) (λ t ts. statement-refused t.word) (λ t ts is. does t ts)

module _ {P : Type 0} where
  stmt_does : (d : ℕ) (t : Tok P) (ts : List (Tok P)) → Does d (a.statement (kind_of_word t.word)) (stmt {P = P} d) t ts
  unfolding stmt
  stmt_does zero t ts = statement_by 0 too_deep too_deep t ts (λ is. deep-same branch-symbols t ts (length ts)) (λ is. deep-same loop-symbols t ts (length ts))
  stmt_does (suc e) t ts =
      statement_by (suc e) (choice e (stmt e)) (loop_stmt (stmt e)) t ts
      (λ is. inner-same e branch-symbols t ts _ (length ts) (choice_inside e (stmt e) (statements_by e (stmt e) (stmt_does e)) t ts is))
      (λ is. inner-same e loop-symbols t ts _ (length ts) (loop_inside e (stmt e) (statements_by e (stmt e) (stmt_does e)) t ts is))

  pub stmts_read : (d : ℕ) → Reads d (stmts {P = P} d) (s.Statements ∷ [])
  unfolding stmts
  stmts_read d = statements_by d (stmt d) (stmt_does d)
