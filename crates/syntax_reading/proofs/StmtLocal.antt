-- What is read of statements up to a token does not depend on what stands behind it, nor on levels of nesting that are not used.
use Rattle.std.proofs.Common.{◌≡◌, ℕ, zero, suc, ◌≤◌, ◌<◌, inl, inr, List, [], ◌∷◌, ◌++◌, length, Bool, true, false, ◌&&◌, cond, Result, Ok, Err, refl, ap, sym, ◌∙◌, subst, arith}
use Rattle.syntax_tree.specs.Plain.{Name}
use Rattle.syntax_tree.specs.Placed.{Expr, Ref, Stmt, assign_entry, exprs_of}
use Rattle.syntax.specs.Words as w
use Rattle.syntax.specs.Words.{Word, named, number, keyword, sign, Tok}
use Rattle.syntax_reading.specs.ExprReading.{Fault, ◌>>=◌, Parse, refuse, too_deep, is_named, is_at, is_name, is_entry, expect, name, constant, index, args, inner, expr}
use Rattle.syntax_reading.specs.StmtReading.{reference_from, reference, entry_args, entry, assigned, named_stmt, exit_stmt, get_stmt, put_stmt, assert_stmt, wait_stmt, signal_stmt, broadcast_stmt, except_stmt, plain_stmt, simple_stmt, begins, stmts_by, closing, else_by, choice, loop_stmt, stmt_by, stmt, stmts}
use Rattle.syntax_reading.proofs.Shorter.{stmt-shorter}
use Rattle.syntax_reading.proofs.StmtSound.{stmt_sound}
use Rattle.syntax_reading.proofs.Local.{Within, Stays, Moves, bind-within, Out, Good, Heads, heads-same, cond-within, cond-out, good-ok, bind, either, good-expect, good-name, good-many}
use Rattle.syntax_reading.proofs.ExprLocal.{deep, good-index, good-args, good-inner, good-constant, good-expr, name-past, expr-past}

module _ {P : Type 0} (t : Tok P) (a b : List (Tok P)) where
  refused : {A : Type 0} → Good t a b {A = A} refuse refuse
  refused = record { stays = λ v. omega arith; local = λ front. inr (inl (_, refl)) }

  module _ (d e : ℕ) (less : d ≤ e) where
    good-reference-from : (n : Name × P) → Good t a b (reference_from d n) (reference_from e n)
    unfolding reference_from
    good-reference-from n =
        either t a b (is_at w.LEFT_BRACKET) _ _ _ _ (λ u xs ys. refl)
        (bind t a b (index (inner d)) (index (inner e)) _ _ (good-index t a b (inner d) (inner e) (good-inner t a b d e less)) (λ i. good-ok t a b _)) (good-ok t a b _)

    good-reference : Good t a b (reference d) (reference e)
    unfolding reference
    good-reference = bind t a b name name _ _ (good-name t a b) (λ n. good-reference-from n)

    good-entry-args : Good t a b (entry_args d) (entry_args e)
    unfolding entry_args
    good-entry-args =
        either t a b (is_at w.LEFT_PAREN) _ _ _ _ (λ u xs ys. refl) (good-args t a b (inner d) (inner e) (good-inner t a b d e less)) refused

    good-entry : Good t a b (entry d) (entry e)
    unfolding entry
    good-entry =
        bind t a b (expect w.DOT) (expect w.DOT) _ _ (good-expect t a b w.DOT) (λ c. bind t a b name name _ _ (good-name t a b) (λ n.
        bind t a b (entry_args d) (entry_args e) _ _ good-entry-args (λ es. good-ok t a b _)))

    -- ---- what is assigned

    -- a test that looks past a name: where the token is that name, both sides go past it
    entry-or : {A : Type 0} (p q r s : Parse P A) → Good t a b p q → Good t a b r s → (is_named t.word ≡ true → Within (p (t ∷ a)) (length a))
        → (is_named t.word ≡ true → Within (r (t ∷ a)) (length a)) → Good t a b {A = A} (λ ts. cond (is_entry ts) (p ts) (r ts)) (λ ts. cond (is_entry ts) (q ts) (s ts))
    entry-or p q r s h g past other = record {
      stays = λ v. cond-within t a b (is_entry v) (p v) (r v) (length v) (h.stays v) (g.stays v);
      local = λ front. at front;
    }
      where
        first : (c : Bool) → is_named t.word ≡ c → Out t a b (cond (is_entry (t ∷ a)) (p (t ∷ a)) (r (t ∷ a))) (cond (is_entry (t ∷ b)) (q (t ∷ b)) (s (t ∷ b)))
        first true is = inr (inr (cond-within t a b (is_entry (t ∷ a)) (p (t ∷ a)) (r (t ∷ a)) (length a) (past is) (other is)))
        first false is =
            cond-out t a b (is_entry (t ∷ a)) (is_entry (t ∷ b)) (p (t ∷ a)) (r (t ∷ a)) (q (t ∷ b)) (s (t ∷ b))
            (ap (λ c. c && is_at w.DOT a) is ∙ sym (ap (λ c. c && is_at w.DOT b) is)) (h.local []) (g.local [])

        at : (front : List (Tok P)) → Out t a b (cond (is_entry (front ++ t ∷ a)) (p (front ++ t ∷ a)) (r (front ++ t ∷ a))) (cond (is_entry (front ++ t ∷ b)) (q (front ++ t ∷ b)) (s (front ++ t ∷ b)))
        at [] = first (is_named t.word) refl
        at (u ∷ []) = cond-out t a b (is_entry (u ∷ t ∷ a)) (is_entry (u ∷ t ∷ b)) _ _ _ _ refl (h.local (u ∷ [])) (g.local (u ∷ []))
        at (u ∷ v ∷ front) =
            cond-out t a b (is_entry (u ∷ v ∷ front ++ t ∷ a)) (is_entry (u ∷ v ∷ front ++ t ∷ b)) _ _ _ _ refl (h.local (u ∷ v ∷ front)) (g.local (u ∷ v ∷ front))

    good-assigned : (r : Ref P) → Good t a b (assigned d r) (assigned e r)
    unfolding assigned
    good-assigned r =
        either t a b (is_at w.EMPTY) _ _ _ _ (λ u xs ys. refl)
        (bind t a b (expect w.EMPTY) (expect w.EMPTY) _ _ (good-expect t a b w.EMPTY) (λ c. bind t a b name name _ _ (good-name t a b) (λ n. good-ok t a b _)))
        (entry-or _ _ _ _ (bind t a b name name _ _ (good-name t a b) through) (bind t a b (expr d) (expr e) _ _ (good-expr t a b d e less) (λ x. good-ok t a b _))
        (λ is. name-past t a b _ (λ m. (through m).stays) is) (λ is. bind-within (expr d (t ∷ a)) _ (length a) (expr-past t a b d is) (λ x u. omega arith)))
      where
        through : (m : Name × P) → Good t a b {A = Stmt P} (λ ts. entry d ts >>= λ x. Ok (assign_entry r m.0 m.1 x.0.0 x.0.1 (exprs_of x.0.2), x.1))
            (λ ts. entry e ts >>= λ x. Ok (assign_entry r m.0 m.1 x.0.0 x.0.1 (exprs_of x.0.2), x.1))
        through m = bind t a b (entry d) (entry e) _ _ good-entry (λ x. good-ok t a b _)

    good-named-stmt : (n : Name × P) → Good t a b (named_stmt d n) (named_stmt e n)
    unfolding named_stmt
    good-named-stmt n =
        either t a b (is_at w.LEFT_PAREN) _ _ _ _ (λ u xs ys. refl)
        (bind t a b (args (inner d)) (args (inner e)) _ _ (good-args t a b (inner d) (inner e) (good-inner t a b d e less)) (λ es. good-ok t a b _))
        (either t a b (is_at w.DOT) _ _ _ _ (λ u xs ys. refl) (bind t a b (entry d) (entry e) _ _ good-entry (λ x. good-ok t a b _))
        (bind t a b (reference_from d n) (reference_from e n) _ _ (good-reference-from n) (λ r.
        bind t a b (expect w.ASSIGN) (expect w.ASSIGN) _ _ (good-expect t a b w.ASSIGN) (λ c. good-assigned r))))

    good-exit : Good t a b (exit_stmt d) (exit_stmt e)
    unfolding exit_stmt
    good-exit =
        bind t a b (expect w.EXIT) (expect w.EXIT) _ _ (good-expect t a b w.EXIT) (λ p. bind t a b (expect w.WHEN) (expect w.WHEN) _ _ (good-expect t a b w.WHEN) (λ c.
        bind t a b (expr d) (expr e) _ _ (good-expr t a b d e less) (λ x. good-ok t a b _)))

    good-get : Good t a b (get_stmt d) (get_stmt e)
    unfolding get_stmt
    good-get =
        bind t a b (expect w.GET) (expect w.GET) _ _ (good-expect t a b w.GET) (λ p. bind t a b name name _ _ (good-name t a b) (λ n.
        bind t a b (reference d) (reference e) _ _ good-reference (λ r. good-ok t a b _)))

    good-put : Good t a b (put_stmt d) (put_stmt e)
    unfolding put_stmt
    good-put =
        bind t a b (expect w.PUT) (expect w.PUT) _ _ (good-expect t a b w.PUT) (λ p. bind t a b name name _ _ (good-name t a b) (λ n.
        bind t a b (expr d) (expr e) _ _ (good-expr t a b d e less) (λ x. good-ok t a b _)))

    good-assert : Good t a b (assert_stmt d) (assert_stmt e)
    unfolding assert_stmt
    good-assert =
        bind t a b (expect w.ASSERT) (expect w.ASSERT) _ _ (good-expect t a b w.ASSERT) (λ p. bind t a b (expr d) (expr e) _ _ (good-expr t a b d e less) (λ x. good-ok t a b _))

    good-wait : Good t a b (wait_stmt {P = P}) wait_stmt
    unfolding wait_stmt
    good-wait =
        bind t a b (expect w.WAIT) (expect w.WAIT) _ _ (good-expect t a b w.WAIT) (λ p. bind t a b name name _ _ (good-name t a b) (λ n.
        bind t a b (expect w.NO_LONGER_THAN) (expect w.NO_LONGER_THAN) _ _ (good-expect t a b w.NO_LONGER_THAN) (λ c.
        bind t a b constant constant _ _ (good-constant t a b) (λ limit. bind t a b (expect w.COLON) (expect w.COLON) _ _ (good-expect t a b w.COLON) (λ c.
        bind t a b constant constant _ _ (good-constant t a b) (λ number. good-ok t a b _))))))

    good-signal : Good t a b (signal_stmt {P = P}) signal_stmt
    unfolding signal_stmt
    good-signal = bind t a b (expect w.SIGNAL) (expect w.SIGNAL) _ _ (good-expect t a b w.SIGNAL) (λ p. bind t a b name name _ _ (good-name t a b) (λ n. good-ok t a b _))

    good-broadcast : Good t a b (broadcast_stmt {P = P}) broadcast_stmt
    unfolding broadcast_stmt
    good-broadcast = bind t a b (expect w.BROADCAST) (expect w.BROADCAST) _ _ (good-expect t a b w.BROADCAST) (λ p. bind t a b name name _ _ (good-name t a b) (λ n. good-ok t a b _))

    good-except : Good t a b (except_stmt {P = P}) except_stmt
    unfolding except_stmt
    good-except = bind t a b (expect w.EXCEPT) (expect w.EXCEPT) _ _ (good-expect t a b w.EXCEPT) (λ p. bind t a b constant constant _ _ (good-constant t a b) (λ n. good-ok t a b _))

    good-plain : Good t a b (plain_stmt {P = P}) plain_stmt
    unfolding plain_stmt
    good-plain =
        either t a b (is_at w.WAIT) _ _ _ _ (λ u xs ys. refl) good-wait (either t a b (is_at w.SIGNAL) _ _ _ _ (λ u xs ys. refl) good-signal
        (either t a b (is_at w.BROADCAST) _ _ _ _ (λ u xs ys. refl) good-broadcast good-except))

    good-simple : Good t a b (simple_stmt d) (simple_stmt e)
    unfolding simple_stmt
    good-simple =
        either t a b (is_at w.EXIT) _ _ _ _ (λ u xs ys. refl) good-exit (either t a b (is_at w.GET) _ _ _ _ (λ u xs ys. refl) good-get
        (either t a b (is_at w.PUT) _ _ _ _ (λ u xs ys. refl) good-put (either t a b (is_at w.ASSERT) _ _ _ _ (λ u xs ys. refl) good-assert good-plain)))

    good-stmt-by : (p q r s : Parse P (Stmt P)) → Good t a b p q → Good t a b r s → Good t a b (stmt_by d p r) (stmt_by e q s)
    unfolding stmt_by
    good-stmt-by p q r s h g =
        either t a b is_name _ _ _ _ (λ u xs ys. refl) (bind t a b name name _ _ (good-name t a b) (λ n. good-named-stmt n))
        (either t a b (is_at w.IF) _ _ _ _ (λ u xs ys. refl) h (either t a b (is_at w.FOR) _ _ _ _ (λ u xs ys. refl) g good-simple))

  good-closing : (word : Word) → Good t a b (closing word) (closing word)
  unfolding closing
  good-closing word = bind t a b (expect w.END) (expect w.END) _ _ (good-expect t a b w.END) (λ c. good-expect t a b word)

  module _ (d e : ℕ) (less : d ≤ e) (p q : Parse P (Stmt P)) (moves : Moves p) (good : Good t a b p q) where
    good-stmts-by : Good t a b (stmts_by p) (stmts_by q)
    unfolding stmts_by
    good-stmts-by = good-many t a b begins (λ u xs ys. refl) p q moves good

    good-else : (x : P) (c : Expr P) (ss : List (Stmt P)) → Good t a b (else_by p x c ss) (else_by q x c ss)
    unfolding else_by
    good-else x c ss =
        either t a b (is_at w.ELSE) _ _ _ _ (λ u xs ys. refl)
        (bind t a b (expect w.ELSE) (expect w.ELSE) _ _ (good-expect t a b w.ELSE) (λ c. bind t a b (stmts_by p) (stmts_by q) _ _ good-stmts-by (λ others.
        bind t a b (closing w.IF) (closing w.IF) _ _ (good-closing w.IF) (λ c. good-ok t a b _))))
        (bind t a b (closing w.IF) (closing w.IF) _ _ (good-closing w.IF) (λ c. good-ok t a b _))

    good-choice : Good t a b (choice d p) (choice e q)
    unfolding choice
    good-choice =
        bind t a b (expect w.IF) (expect w.IF) _ _ (good-expect t a b w.IF) (λ x. bind t a b (expr d) (expr e) _ _ (good-expr t a b d e less) (λ c.
        bind t a b (expect w.THEN) (expect w.THEN) _ _ (good-expect t a b w.THEN) (λ y. bind t a b (stmts_by p) (stmts_by q) _ _ good-stmts-by (λ ss. good-else x c ss))))

    good-loop : Good t a b (loop_stmt p) (loop_stmt q)
    unfolding loop_stmt
    good-loop =
        bind t a b (expect w.FOR) (expect w.FOR) _ _ (good-expect t a b w.FOR) (λ x. bind t a b name name _ _ (good-name t a b) (λ n.
        bind t a b (expect w.COLON) (expect w.COLON) _ _ (good-expect t a b w.COLON) (λ c. bind t a b constant constant _ _ (good-constant t a b) (λ low.
        bind t a b (expect w.RANGE) (expect w.RANGE) _ _ (good-expect t a b w.RANGE) (λ c. bind t a b constant constant _ _ (good-constant t a b) (λ high.
        bind t a b (expect w.DO) (expect w.DO) _ _ (good-expect t a b w.DO) (λ c. bind t a b (stmts_by p) (stmts_by q) _ _ good-stmts-by (λ ss.
        bind t a b (closing w.FOR) (closing w.FOR) _ _ (good-closing w.FOR) (λ c. good-ok t a b _)))))))))

  stmt-moves : (d : ℕ) → Moves (stmt {P = P} d)
  stmt-moves d ts us x e = stmt-shorter d x ts us (stmt_sound d ts us x e)

  pub good-stmt : (d e : ℕ) → d ≤ e → Good t a b (stmt {P = P} d) (stmt e)
  unfolding stmt
  good-stmt zero zero less = good-stmt-by zero zero less too_deep too_deep too_deep too_deep (deep t a b too_deep) (deep t a b too_deep)
  good-stmt zero (suc e) less =
      good-stmt-by zero (suc e) less too_deep (choice e (stmt e)) too_deep (loop_stmt (stmt e)) (deep t a b (choice e (stmt e))) (deep t a b (loop_stmt (stmt e)))
  good-stmt (suc d) zero less = absurd (omega (arith, less))
  good-stmt (suc d) (suc e) less =
      let below : d ≤ e = omega (arith, less) in
      let inner = good-stmt d e below in
      good-stmt-by (suc d) (suc e) less (choice d (stmt d)) (choice e (stmt e)) (loop_stmt (stmt d)) (loop_stmt (stmt e))
      (good-choice d e below (stmt d) (stmt e) (stmt-moves d) inner) (good-loop d e below (stmt d) (stmt e) (stmt-moves d) inner)

  pub good-stmts : (d e : ℕ) → d ≤ e → Good t a b (stmts {P = P} d) (stmts e)
  unfolding stmts
  good-stmts d e less = good-stmts-by d e less (stmt d) (stmt e) (stmt-moves d) (good-stmt d e less)
