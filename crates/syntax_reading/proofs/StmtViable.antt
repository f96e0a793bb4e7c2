-- Before a fault in statements stands what can be gone on with, with one level of nesting more.
use Rattle.std.proofs.Common.{◌≡◌, ℕ, zero, suc, ◌⊎◌, inl, inr, List, [], ◌∷◌, ◌++◌, false, Result, Ok, Err, refl, subst}
use Rattle.syntax_tree.specs.Plain.{Name}
use Rattle.syntax_tree.specs.Placed.{literal_constant, Expr, literal, Ref, whole, part, Stmt, assign, assign_entry, assign_empty, perform, perform_entry, when, when_else, loop, exit_when, get, put, wait, signal, broadcast, except, assert, Stmts, no_stmts, stmts_of}
use Rattle.syntax.specs.Words as w
use Rattle.syntax.specs.Words.{Word, named, number, Tok}
use Rattle.syntax.specs.ExprGrammar.{at, a, ◌▷◌, nothing, Each, IsConstant, IsExpr}
use Rattle.syntax.specs.StmtGrammar.{IsRef, IsStmt, AreStmts}
use Rattle.syntax.specs.Opening.{Part, Whole, ◌∪◌, a_name}
use Rattle.syntax_reading.specs.ExprReading.{Fault, ◌>>=◌, Parse, refuse, too_deep, is_at, is_name, is_entry, expect, name, constant, index, args, inner, expr}
use Rattle.syntax_reading.specs.StmtReading.{reference_from, reference, entry_args, entry, assigned, named_stmt, exit_stmt, get_stmt, put_stmt, assert_stmt, wait_stmt, signal_stmt, broadcast_stmt, except_stmt, plain_stmt, simple_stmt, begins, stmts_by, closing, else_by, choice, loop_stmt, stmt_by, stmt, stmts}
use Rattle.syntax_reading.proofs.StmtSound.{stmts-of}
use Rattle.syntax_reading.proofs.Viable as v
use Rattle.syntax_reading.proofs.Viable.{Via, Implies, bind, imp, last, either, via-ok, via-refuse, via-deep, some-tok, via-word, via-name, via-many}
use Rattle.syntax_reading.proofs.ExprViable.{via-constant, IndexPart, ArgsPart, args-some, via-index, via-args, via-expr, via-inner}

module _ {P : Type 0} (o : P) where
  a-stmt : Stmt P
  a-stmt = assert o (literal o 0)

  module _ (d : ℕ) where
    abbrev RefPart : Part P
    RefPart = IndexPart o d ∪ nothing

    via-ref-from : (n : Name × P) → Via (reference_from d n) RefPart
    unfolding reference_from
    via-ref-from n =
        either (is_at w.LEFT_BRACKET) _ _ RefPart (imp RefPart (λ ts us x. inl x) (last (index (inner d)) (IndexPart o d) _ (via-index o (inner d) d (via-inner o d)) (λ e. via-ok _)))
        (imp RefPart (λ ts us x. inr x) (via-ok _))

    ref-whole : Implies {P = P} (a_name ▷ RefPart) (Whole (IsRef (suc d)))
    ref-whole ts us (vs, (n, (p, t)), inl (v1, l, (v2, (e, x), r))) = (part p n e, (vs, t, (v1, l, (v2, x, r))))
    ref-whole ts us (vs, (n, (p, t)), inr same) = (whole p n, subst (λ u. at (named n) p ts u) same t)

    via-reference : Via (reference {P = P} d) (Whole (IsRef (suc d)))
    unfolding reference
    via-reference = imp (Whole (IsRef (suc d))) ref-whole (bind name a_name RefPart _ (via-name o) (λ n. via-ref-from n))

    via-entry-args : Via (entry_args {P = P} d) (ArgsPart o d)
    unfolding entry_args
    via-entry-args = either (is_at w.LEFT_PAREN) _ _ (ArgsPart o d) (via-args o (inner d) d (via-inner o d)) (via-refuse [] (ArgsPart o d) (args-some o d))

    abbrev EntryPart : Part P
    EntryPart = a w.DOT ▷ a_name ▷ ArgsPart o d

    via-entry : Via (entry {P = P} d) EntryPart
    unfolding entry
    via-entry =
        bind (expect w.DOT) (a w.DOT) (a_name ▷ ArgsPart o d) _ (via-word o w.DOT) (λ c. bind name a_name (ArgsPart o d) _ (via-name o) (λ n. last (entry_args d) (ArgsPart o d) _ via-entry-args (λ es. via-ok _)))

    abbrev AssignedPart : Part P
    AssignedPart = a w.EMPTY ▷ a_name ∪ a_name ▷ EntryPart ∪ Whole (IsExpr 5 (suc d))

    via-assigned : (r : Ref P) → Via (assigned d r) AssignedPart
    unfolding assigned
    via-assigned r =
        either (is_at w.EMPTY) _ _ AssignedPart
        (imp AssignedPart (λ ts us x. inl x) (bind (expect w.EMPTY) (a w.EMPTY) a_name _ (via-word o w.EMPTY) (λ c. last name a_name _ (via-name o) (λ n. via-ok _))))
        (either is_entry _ _ AssignedPart (imp AssignedPart (λ ts us x. inr (inl x)) (bind name a_name EntryPart _ (via-name o) (λ m. last (entry d) EntryPart _ via-entry (λ e. via-ok _))))
        (imp AssignedPart (λ ts us x. inr (inr x)) (last (expr d) (Whole (IsExpr 5 (suc d))) _ (via-expr o d) (λ e. via-ok _))))

    abbrev NamedStmt : Part P
    NamedStmt = ArgsPart o d ∪ EntryPart ∪ RefPart ▷ a w.ASSIGN ▷ AssignedPart

    via-named-stmt : (n : Name × P) → Via (named_stmt d n) NamedStmt
    unfolding named_stmt
    via-named-stmt n =
        either (is_at w.LEFT_PAREN) _ _ NamedStmt (imp NamedStmt (λ ts us x. inl x) (last (args (inner d)) (ArgsPart o d) _ (via-args o (inner d) d (via-inner o d)) (λ es. via-ok _)))
        (either (is_at w.DOT) _ _ NamedStmt (imp NamedStmt (λ ts us x. inr (inl x)) (last (entry d) EntryPart _ via-entry (λ e. via-ok _)))
        (imp NamedStmt (λ ts us x. inr (inr x)) (bind (reference_from d n) RefPart (a w.ASSIGN ▷ AssignedPart) _ (via-ref-from n) (λ r.
        bind (expect w.ASSIGN) (a w.ASSIGN) AssignedPart _ (via-word o w.ASSIGN) (λ c. via-assigned r)))))

    assigned-whole : (r : Ref P) (ts v1 v2 us : List (Tok P)) → IsRef (suc d) r ts v1 → a w.ASSIGN v1 v2 → AssignedPart v2 us → Whole (IsStmt (suc d)) ts us
    assigned-whole r ts v1 v2 us rt c (inl (v3, e, (m, (q, t3)))) = (assign_empty r m q, (v1, rt, (v2, c, (v3, e, t3))))
    assigned-whole r ts v1 v2 us rt c (inr (inl (v3, (m, (q, t3)), (v4, dot, (v5, (e, (q2, t5)), (es, x)))))) = (assign_entry r m q e q2 es, (v1, rt, (v2, c, (v3, t3, (v4, dot, (v5, t5, x))))))
    assigned-whole r ts v1 v2 us rt c (inr (inr (e, x))) = (assign r e, (v1, rt, (v2, c, x)))

    named-stmt-whole : Implies {P = P} (a_name ▷ NamedStmt) (Whole (IsStmt (suc d)))
    named-stmt-whole ts us (vs, (n, (p, t)), inl (es, x)) = (perform p n es, (vs, t, x))
    named-stmt-whole ts us (vs, (n, (p, t)), inr (inl (v1, dot, (v2, (m, (q, t2)), (es, x))))) = (perform_entry p n m q es, (vs, t, (v1, dot, (v2, t2, x))))
    named-stmt-whole ts us (vs, (n, (p, t)), inr (inr (v1, rp, (v2, c, x)))) = let r = ref-whole ts v1 (vs, (n, (p, t)), rp) in assigned-whole r.0 ts v1 v2 us r.1 c x

    abbrev S : Part P
    S = Whole (IsStmt (suc d))

    via-exit : Via (exit_stmt {P = P} d) S
    unfolding exit_stmt
    via-exit =
        imp S (λ ts us (v1, (p, t), (v2, c, (e, x))). (exit_when p e, (v1, t, (v2, c, x))))
        (bind (expect w.EXIT) (a w.EXIT) (a w.WHEN ▷ Whole (IsExpr 5 (suc d))) _ (via-word o w.EXIT) (λ p.
        bind (expect w.WHEN) (a w.WHEN) (Whole (IsExpr 5 (suc d))) _ (via-word o w.WHEN) (λ c. last (expr d) (Whole (IsExpr 5 (suc d))) _ (via-expr o d) (λ e. via-ok _))))

    via-get : Via (get_stmt {P = P} d) S
    unfolding get_stmt
    via-get =
        imp S (λ ts us (v1, (p, t), (v2, (n, (q, t2)), (r, x))). (get p n q r, (v1, t, (v2, t2, x))))
        (bind (expect w.GET) (a w.GET) (a_name ▷ Whole (IsRef (suc d))) _ (via-word o w.GET) (λ p. bind name a_name (Whole (IsRef (suc d))) _ (via-name o) (λ n.
        last (reference d) (Whole (IsRef (suc d))) _ via-reference (λ r. via-ok _))))

    via-put : Via (put_stmt {P = P} d) S
    unfolding put_stmt
    via-put =
        imp S (λ ts us (v1, (p, t), (v2, (n, (q, t2)), (e, x))). (put p n q e, (v1, t, (v2, t2, x))))
        (bind (expect w.PUT) (a w.PUT) (a_name ▷ Whole (IsExpr 5 (suc d))) _ (via-word o w.PUT) (λ p. bind name a_name (Whole (IsExpr 5 (suc d))) _ (via-name o) (λ n.
        last (expr d) (Whole (IsExpr 5 (suc d))) _ (via-expr o d) (λ e. via-ok _))))

    via-assert : Via (assert_stmt {P = P} d) S
    unfolding assert_stmt
    via-assert =
        imp S (λ ts us (v1, (p, t), (e, x)). (assert p e, (v1, t, x)))
        (bind (expect w.ASSERT) (a w.ASSERT) (Whole (IsExpr 5 (suc d))) _ (via-word o w.ASSERT) (λ p. last (expr d) (Whole (IsExpr 5 (suc d))) _ (via-expr o d) (λ e. via-ok _)))

    via-wait : Via (wait_stmt {P = P}) S
    unfolding wait_stmt
    via-wait =
        imp S (λ ts us (v1, (p, t), (v2, (n, (q, t2)), (v3, c, (v4, (l, t4), (v5, k, (m, t6)))))). (wait p n q l m, (v1, t, (v2, t2, (v3, c, (v4, t4, (v5, k, t6)))))))
        (bind (expect w.WAIT) (a w.WAIT) _ _ (via-word o w.WAIT) (λ p. bind name a_name _ _ (via-name o) (λ n.
        bind (expect w.NO_LONGER_THAN) (a w.NO_LONGER_THAN) _ _ (via-word o w.NO_LONGER_THAN) (λ c. bind constant (Whole IsConstant) _ _ (via-constant o) (λ l.
        bind (expect w.COLON) (a w.COLON) _ _ (via-word o w.COLON) (λ c. last constant (Whole IsConstant) _ (via-constant o) (λ m. via-ok _)))))))

    via-signal : Via (signal_stmt {P = P}) S
    unfolding signal_stmt
    via-signal =
        imp S (λ ts us (v1, (p, t), (n, (q, t2))). (signal p n q, (v1, t, t2))) (bind (expect w.SIGNAL) (a w.SIGNAL) _ _ (via-word o w.SIGNAL) (λ p. last name a_name _ (via-name o) (λ n. via-ok _)))

    via-broadcast : Via (broadcast_stmt {P = P}) S
    unfolding broadcast_stmt
    via-broadcast =
        imp S (λ ts us (v1, (p, t), (n, (q, t2))). (broadcast p n q, (v1, t, t2))) (bind (expect w.BROADCAST) (a w.BROADCAST) _ _ (via-word o w.BROADCAST) (λ p. last name a_name _ (via-name o) (λ n. via-ok _)))

    via-except : Via (except_stmt {P = P}) S
    unfolding except_stmt
    via-except =
        imp S (λ ts us (v1, (p, t), (n, t2)). (except p n, (v1, t, t2))) (bind (expect w.EXCEPT) (a w.EXCEPT) _ _ (via-word o w.EXCEPT) (λ p. last constant (Whole IsConstant) _ (via-constant o) (λ n. via-ok _)))

    via-plain : Via (plain_stmt {P = P}) S
    unfolding plain_stmt
    via-plain = either (is_at w.WAIT) _ _ S via-wait (either (is_at w.SIGNAL) _ _ S via-signal (either (is_at w.BROADCAST) _ _ S via-broadcast via-except))

    via-simple : Via (simple_stmt {P = P} d) S
    unfolding simple_stmt
    via-simple = either (is_at w.EXIT) _ _ S via-exit (either (is_at w.GET) _ _ S via-get (either (is_at w.PUT) _ _ S via-put (either (is_at w.ASSERT) _ _ S via-assert via-plain)))

    via-stmt-by : (p r : Parse P (Stmt P)) → Via p S → Via r S → Via (stmt_by d p r) S
    unfolding stmt_by
    via-stmt-by p r h g =
        either is_name _ _ S (imp S named-stmt-whole (bind name a_name NamedStmt _ (via-name o) (λ n. via-named-stmt n)))
        (either (is_at w.IF) _ _ S h (either (is_at w.FOR) _ _ S g via-simple))

  via-closing : (word : Word) → Via {P = P} (closing word) (a w.END ▷ a word)
  unfolding closing
  via-closing word = bind (expect w.END) (a w.END) (a word) _ (via-word o w.END) (λ e. via-word o word)

  -- ---- with statements inside, which have this many levels

  abbrev ElsePart : ℕ → Part P
  ElsePart d = a w.ELSE ▷ Whole (AreStmts d) ▷ a w.END ▷ a w.IF ∪ a w.END ▷ a w.IF

  choice-some : (d : ℕ) → v.Some (Whole (IsStmt {P = P} (suc d)))
  choice-some d = record {
    more = some-tok o w.IF ∷ some-tok o (number 0) ∷ some-tok o w.THEN ∷ some-tok o w.END ∷ some-tok o w.IF ∷ [];
    fits = λ us. (when o (literal o 0) no_stmts, (_, refl, (_, refl, (_, (o, refl), (_, refl, (_, (o, refl), (o, refl)))))));
  }

  module _ (d : ℕ) (p : Parse P (Stmt P)) (h : Via p (Whole (IsStmt d))) where
    pub via-stmts-by : Via (stmts_by p) (Whole (AreStmts d))
    unfolding stmts_by
    via-stmts-by = imp (Whole (AreStmts d)) (λ ts us (ss, took). (stmts_of ss, stmts-of d ss ts us took)) (via-many begins p (IsStmt d) h)

    via-else : (q : P) (c : Expr P) (ss : List (Stmt P)) → Via (else_by p q c ss) (ElsePart d)
    unfolding else_by
    via-else q c ss =
        either (is_at w.ELSE) _ _ (ElsePart d)
        (imp (ElsePart d) (λ ts us x. inl x) (bind (expect w.ELSE) (a w.ELSE) (Whole (AreStmts d) ▷ a w.END ▷ a w.IF) _ (via-word o w.ELSE) (λ c.
        bind (stmts_by p) (Whole (AreStmts d)) (a w.END ▷ a w.IF) _ via-stmts-by (λ others. last (closing w.IF) (a w.END ▷ a w.IF) _ (via-closing w.IF) (λ c. via-ok _)))))
        (imp (ElsePart d) (λ ts us x. inr x) (last (closing w.IF) (a w.END ▷ a w.IF) _ (via-closing w.IF) (λ c. via-ok _)))

    choice-whole : Implies {P = P} (a w.IF ▷ Whole (IsExpr 5 d) ▷ a w.THEN ▷ Whole (AreStmts d) ▷ ElsePart d) (Whole (IsStmt (suc d)))
    choice-whole ts us (v1, (q, t), (v2, (e, x), (v3, c, (v4, (ss, y), inl (v5, l, (v6, (others, z), (v7, f, g))))))) =
        (when_else q e ss others, (v1, t, (v2, x, (v3, c, (v4, y, (v5, l, (v6, z, (v7, f, g))))))))
    choice-whole ts us (v1, (q, t), (v2, (e, x), (v3, c, (v4, (ss, y), inr (v5, f, g))))) = (when q e ss, (v1, t, (v2, x, (v3, c, (v4, y, (v5, f, g))))))

    loop-whole : Implies {P = P} (a w.FOR ▷ a_name ▷ a w.COLON ▷ Whole IsConstant ▷ a w.RANGE ▷ Whole IsConstant ▷ a w.DO ▷ Whole (AreStmts d) ▷ a w.END ▷ a w.FOR) (Whole (IsStmt (suc d)))
    loop-whole ts us (v1, (q, t), (v2, (n, (r, t2)), (v3, c, (v4, (l, t4), (v5, g, (v6, (m, t6), (v7, b, (v8, (ss, y), (v9, e, f))))))))) =
        (loop q n r l m ss, (v1, t, (v2, t2, (v3, c, (v4, t4, (v5, g, (v6, t6, (v7, b, (v8, y, (v9, e, f))))))))))

    via-loop : Via (loop_stmt p) (Whole (IsStmt (suc d)))
    unfolding loop_stmt
    via-loop =
        imp (Whole (IsStmt (suc d))) loop-whole
        (bind (expect w.FOR) (a w.FOR) _ _ (via-word o w.FOR) (λ x. bind name a_name _ _ (via-name o) (λ n. bind (expect w.COLON) (a w.COLON) _ _ (via-word o w.COLON) (λ c.
        bind constant (Whole IsConstant) _ _ (via-constant o) (λ low. bind (expect w.RANGE) (a w.RANGE) _ _ (via-word o w.RANGE) (λ c.
        bind constant (Whole IsConstant) _ _ (via-constant o) (λ high. bind (expect w.DO) (a w.DO) _ _ (via-word o w.DO) (λ c.
        bind (stmts_by p) (Whole (AreStmts d)) _ _ via-stmts-by (λ ss. last (closing w.FOR) (a w.END ▷ a w.FOR) _ (via-closing w.FOR) (λ c. via-ok _))))))))))

  via-choice : (d : ℕ) (p : Parse P (Stmt P)) → Via p (Whole (IsStmt (suc d))) → Via (choice d p) (Whole (IsStmt (suc (suc d))))
  unfolding choice
  via-choice d p h =
      imp (Whole (IsStmt (suc (suc d)))) (choice-whole (suc d) p h)
      (bind (expect w.IF) (a w.IF) _ _ (via-word o w.IF) (λ q. bind (expr d) (Whole (IsExpr 5 (suc d))) _ _ (via-expr o d) (λ e. bind (expect w.THEN) (a w.THEN) _ _ (via-word o w.THEN) (λ c.
      bind (stmts_by p) (Whole (AreStmts (suc d))) (ElsePart (suc d)) _ (via-stmts-by (suc d) p h) (λ ss. via-else (suc d) p h q e ss)))))

  pub via-stmt : (d : ℕ) → Via (stmt {P = P} d) (Whole (IsStmt (suc d)))
  unfolding stmt
  via-stmt zero = via-stmt-by zero too_deep too_deep (via-deep a-stmt (Whole (IsStmt (suc zero))) (choice-some zero)) (via-deep a-stmt (Whole (IsStmt (suc zero))) (choice-some zero))
  via-stmt (suc d) =
      via-stmt-by (suc d) (choice d (stmt d)) (loop_stmt (stmt d)) (via-choice d (stmt d) (via-stmt d)) (via-loop (suc d) (stmt d) (via-stmt d))

  pub via-stmts : (d : ℕ) → Via (stmts {P = P} d) (Whole (AreStmts (suc d)))
  unfolding stmts
  via-stmts d = via-stmts-by (suc d) (stmt d) (via-stmt d)
