-- What is read as a statement has the tokens of its tree.
use Rattle.std.proofs.Common.{◌≡◌, ℕ, zero, suc, List, [], ◌∷◌, Ok, refl, sym, subst}
use Rattle.syntax_tree.specs.Plain.{Name}
use Rattle.syntax_tree.specs.Placed.{Expr, Ref, whole, part, Stmt, assign, assign_entry, assign_empty, perform, perform_entry, when, when_else, loop, exit_when, get, put, wait, signal, broadcast, except, assert, exprs_of, stmts_of}
use Rattle.syntax.specs.Words as w
use Rattle.syntax.specs.Words.{Word, named, Tok}
use Rattle.syntax.specs.ExprGrammar.{at, a, ◌▷◌, Each, IsExpr, InParens}
use Rattle.syntax.specs.StmtGrammar.{IsRef, IsStmt, AreStmts}
use Rattle.syntax_reading.specs.ExprReading.{Parse, too_deep, is_at, is_name, is_entry, expect, name, constant, index, args, inner, expr}
use Rattle.syntax_reading.specs.StmtReading as reading
use Rattle.syntax_reading.specs.StmtReading.{reference_from, reference, entry_args, entry, assigned, named_stmt, exit_stmt, get_stmt, put_stmt, assert_stmt, wait_stmt, signal_stmt, broadcast_stmt, except_stmt, plain_stmt, simple_stmt, begins, stmts_by, closing, else_by, choice, loop_stmt, stmt_by, stmt}
use Rattle.syntax_reading.proofs.Basics.{bind_ok, by_if, Sound, done, expect_sound, a_sound, name_sound, many_sound}
use Rattle.syntax_reading.proofs.ExprSound.{constant_sound, index_sound, args_sound, inner_sound, expr_sound}

module _ {P : Type 0} where
  abbrev front : Name × P → List (Tok P) → List (Tok P)
  front n ts = record { word = named n.0; place = n.1 } ∷ ts

  pub reference_from_sound : (depth : ℕ) (n : Name × P) → Sound (reference_from depth n) (λ r ts us. IsRef depth r (front n ts) us)
  unfolding reference_from
  reference_from_sound depth n ts us r e =
      by_if (is_at w.LEFT_BRACKET ts) _ _ _
      (λ is e.
      let i = bind_ok (index (inner depth) ts) _ _ e in
      done (λ r ts us. IsRef depth r (front n ts) us) ts (part n.1 n.0 i.0.0) r i.0.1 us
      (ts, refl, index_sound (inner depth) depth (inner_sound P depth) ts i.0.1 i.0.0 i.1) i.2)
      (λ is e. done (λ r ts us. IsRef depth r (front n ts) us) ts (whole n.1 n.0) r ts us refl e) e

  reference_sound : (depth : ℕ) → Sound {P = P} (reference depth) (IsRef depth)
  unfolding reference
  reference_sound depth ts us r e =
      let n = bind_ok (name ts) _ _ e in
      subst (λ x. IsRef depth r x us) (sym (name_sound ts n.0.1 n.0.0 n.1)) (reference_from_sound depth n.0.0 n.0.1 us r n.2)

  -- an entry that is called, behind its monitor
  abbrev IsCall : ℕ → Name × P × List (Expr P) → List (Tok P) → List (Tok P) → Type 0
  IsCall depth c = a w.DOT ▷ at (named c.0) c.1 ▷ InParens depth (exprs_of c.2)

  args-sound : (depth : ℕ) → Sound {P = P} (args (inner depth)) (λ es. InParens depth (exprs_of es))
  args-sound depth ts us es e = args_sound (inner depth) depth (inner_sound P depth) ts us es e

  entry_args_sound : (depth : ℕ) → Sound {P = P} (entry_args depth) (λ es. InParens depth (exprs_of es))
  unfolding entry_args
  entry_args_sound depth ts us es e = by_if (is_at w.LEFT_PAREN ts) _ _ _ (λ is e. args-sound depth ts us es e) (λ is e. cc) e

  entry_sound : (depth : ℕ) → Sound {P = P} (entry depth) (IsCall depth)
  unfolding entry
  entry_sound depth ts us s e =
      let c = bind_ok (expect w.DOT ts) _ _ e in
      let n = bind_ok (name c.0.1) _ _ c.2 in
      let x = bind_ok (entry_args depth n.0.1) _ _ n.2 in
      done (IsCall depth) ts (n.0.0.0, n.0.0.1, x.0.0) s x.0.1 us
      (c.0.1, a_sound w.DOT ts c.0.1 c.0.0 c.1, (n.0.1, name_sound c.0.1 n.0.1 n.0.0 n.1, entry_args_sound depth n.0.1 x.0.1 x.0.0 x.1)) x.2

  -- what is assigned to this reference, behind the `:=`
  abbrev Assigned : ℕ → Ref P → Stmt P → List (Tok P) → List (Tok P) → Type 0
  Assigned depth r s ts us = (vs ws : List (Tok P)) → IsRef depth r vs ws → a w.ASSIGN ws ts → IsStmt depth s vs us

  assigned_sound : (depth : ℕ) (r : Ref P) → Sound (assigned depth r) (Assigned depth r)
  unfolding assigned
  assigned_sound depth r ts us s e =
      by_if (is_at w.EMPTY ts) _ _ _
      (λ is e.
      let c = bind_ok (expect w.EMPTY ts) _ _ e in
      let n = bind_ok (name c.0.1) _ _ c.2 in
      done (Assigned depth r) ts (assign_empty r n.0.0.0 n.0.0.1) s n.0.1 us
      (λ vs ws took becomes. (ws, took, (ts, becomes, (c.0.1, a_sound w.EMPTY ts c.0.1 c.0.0 c.1, name_sound c.0.1 n.0.1 n.0.0 n.1)))) n.2)
      (λ is e.
      by_if (is_entry ts) _ _ _
      (λ is e.
      let m = bind_ok (name ts) _ _ e in
      let x = bind_ok (entry depth m.0.1) _ _ m.2 in
      done (Assigned depth r) ts (assign_entry r m.0.0.0 m.0.0.1 x.0.0.0 x.0.0.1 (exprs_of x.0.0.2)) s x.0.1 us
      (λ vs ws took becomes. (ws, took, (ts, becomes, (m.0.1, name_sound ts m.0.1 m.0.0 m.1, entry_sound depth m.0.1 x.0.1 x.0.0 x.1)))) x.2)
      (λ is e.
      let x = bind_ok (expr depth ts) _ _ e in
      done (Assigned depth r) ts (assign r x.0.0) s x.0.1 us
      (λ vs ws took becomes. (ws, took, (ts, becomes, expr_sound depth ts x.0.1 x.0.0 x.1))) x.2) e) e

  named_stmt_sound : (depth : ℕ) (n : Name × P) → Sound (named_stmt depth n) (λ s ts us. IsStmt depth s (front n ts) us)
  unfolding named_stmt
  named_stmt_sound depth n ts us s e =
      by_if (is_at w.LEFT_PAREN ts) _ _ _
      (λ is e.
      let x = bind_ok (args (inner depth) ts) _ _ e in
      done (λ s ts us. IsStmt depth s (front n ts) us) ts (perform n.1 n.0 (exprs_of x.0.0)) s x.0.1 us (ts, refl, args-sound depth ts x.0.1 x.0.0 x.1) x.2)
      (λ is e.
      by_if (is_at w.DOT ts) _ _ _
      (λ is e.
      let x = bind_ok (entry depth ts) _ _ e in
      done (λ s ts us. IsStmt depth s (front n ts) us) ts (perform_entry n.1 n.0 x.0.0.0 x.0.0.1 (exprs_of x.0.0.2)) s x.0.1 us
      (ts, refl, entry_sound depth ts x.0.1 x.0.0 x.1) x.2)
      (λ is e.
      let r = bind_ok (reference_from depth n ts) _ _ e in
      let c = bind_ok (expect w.ASSIGN r.0.1) _ _ r.2 in
      assigned_sound depth r.0.0 c.0.1 us s c.2 (front n ts) r.0.1 (reference_from_sound depth n ts r.0.1 r.0.0 r.1) (a_sound w.ASSIGN r.0.1 c.0.1 c.0.0 c.1)) e) e

  exit_sound : (depth : ℕ) → Sound {P = P} (exit_stmt depth) (IsStmt depth)
  unfolding exit_stmt
  exit_sound depth ts us s e =
      let p = bind_ok (expect w.EXIT ts) _ _ e in
      let c = bind_ok (expect w.WHEN p.0.1) _ _ p.2 in
      let x = bind_ok (expr depth c.0.1) _ _ c.2 in
      done (IsStmt depth) ts (exit_when p.0.0 x.0.0) s x.0.1 us
      (p.0.1, expect_sound w.EXIT ts p.0.1 p.0.0 p.1, (c.0.1, a_sound w.WHEN p.0.1 c.0.1 c.0.0 c.1, expr_sound depth c.0.1 x.0.1 x.0.0 x.1)) x.2

  get_sound : (depth : ℕ) → Sound {P = P} (get_stmt depth) (IsStmt depth)
  unfolding get_stmt
  get_sound depth ts us s e =
      let p = bind_ok (expect w.GET ts) _ _ e in
      let n = bind_ok (name p.0.1) _ _ p.2 in
      let r = bind_ok (reference depth n.0.1) _ _ n.2 in
      done (IsStmt depth) ts (get p.0.0 n.0.0.0 n.0.0.1 r.0.0) s r.0.1 us
      (p.0.1, expect_sound w.GET ts p.0.1 p.0.0 p.1, (n.0.1, name_sound p.0.1 n.0.1 n.0.0 n.1, reference_sound depth n.0.1 r.0.1 r.0.0 r.1)) r.2

  put_sound : (depth : ℕ) → Sound {P = P} (put_stmt depth) (IsStmt depth)
  unfolding put_stmt
  put_sound depth ts us s e =
      let p = bind_ok (expect w.PUT ts) _ _ e in
      let n = bind_ok (name p.0.1) _ _ p.2 in
      let x = bind_ok (expr depth n.0.1) _ _ n.2 in
      done (IsStmt depth) ts (put p.0.0 n.0.0.0 n.0.0.1 x.0.0) s x.0.1 us
      (p.0.1, expect_sound w.PUT ts p.0.1 p.0.0 p.1, (n.0.1, name_sound p.0.1 n.0.1 n.0.0 n.1, expr_sound depth n.0.1 x.0.1 x.0.0 x.1)) x.2

  assert_sound : (depth : ℕ) → Sound {P = P} (assert_stmt depth) (IsStmt depth)
  unfolding assert_stmt
  assert_sound depth ts us s e =
      let p = bind_ok (expect w.ASSERT ts) _ _ e in
      let x = bind_ok (expr depth p.0.1) _ _ p.2 in
      done (IsStmt depth) ts (assert p.0.0 x.0.0) s x.0.1 us
      (p.0.1, expect_sound w.ASSERT ts p.0.1 p.0.0 p.1, expr_sound depth p.0.1 x.0.1 x.0.0 x.1) x.2

  wait_sound : (depth : ℕ) → Sound {P = P} wait_stmt (IsStmt depth)
  unfolding wait_stmt
  wait_sound depth ts us s e =
      let p = bind_ok (expect w.WAIT ts) _ _ e in
      let n = bind_ok (name p.0.1) _ _ p.2 in
      let c = bind_ok (expect w.NO_LONGER_THAN n.0.1) _ _ n.2 in
      let l = bind_ok (constant c.0.1) _ _ c.2 in
      let d = bind_ok (expect w.COLON l.0.1) _ _ l.2 in
      let m = bind_ok (constant d.0.1) _ _ d.2 in
      done (IsStmt depth) ts (wait p.0.0 n.0.0.0 n.0.0.1 l.0.0 m.0.0) s m.0.1 us
      (p.0.1, expect_sound w.WAIT ts p.0.1 p.0.0 p.1, (n.0.1, name_sound p.0.1 n.0.1 n.0.0 n.1, (c.0.1, a_sound w.NO_LONGER_THAN n.0.1 c.0.1 c.0.0 c.1, (l.0.1, constant_sound c.0.1 l.0.1 l.0.0 l.1, (d.0.1, a_sound w.COLON l.0.1 d.0.1 d.0.0 d.1, constant_sound d.0.1 m.0.1 m.0.0 m.1))))) m.2

  signal_sound : (depth : ℕ) → Sound {P = P} signal_stmt (IsStmt depth)
  unfolding signal_stmt
  signal_sound depth ts us s e =
      let p = bind_ok (expect w.SIGNAL ts) _ _ e in
      let n = bind_ok (name p.0.1) _ _ p.2 in
      done (IsStmt depth) ts (signal p.0.0 n.0.0.0 n.0.0.1) s n.0.1 us
      (p.0.1, expect_sound w.SIGNAL ts p.0.1 p.0.0 p.1, name_sound p.0.1 n.0.1 n.0.0 n.1) n.2

  broadcast_sound : (depth : ℕ) → Sound {P = P} broadcast_stmt (IsStmt depth)
  unfolding broadcast_stmt
  broadcast_sound depth ts us s e =
      let p = bind_ok (expect w.BROADCAST ts) _ _ e in
      let n = bind_ok (name p.0.1) _ _ p.2 in
      done (IsStmt depth) ts (broadcast p.0.0 n.0.0.0 n.0.0.1) s n.0.1 us
      (p.0.1, expect_sound w.BROADCAST ts p.0.1 p.0.0 p.1, name_sound p.0.1 n.0.1 n.0.0 n.1) n.2

  except_sound : (depth : ℕ) → Sound {P = P} except_stmt (IsStmt depth)
  unfolding except_stmt
  except_sound depth ts us s e =
      let p = bind_ok (expect w.EXCEPT ts) _ _ e in
      let c = bind_ok (constant p.0.1) _ _ p.2 in
      done (IsStmt depth) ts (except p.0.0 c.0.0) s c.0.1 us
      (p.0.1, expect_sound w.EXCEPT ts p.0.1 p.0.0 p.1, constant_sound p.0.1 c.0.1 c.0.0 c.1) c.2

  plain_sound : (depth : ℕ) → Sound {P = P} plain_stmt (IsStmt depth)
  unfolding plain_stmt
  plain_sound depth ts us s e =
      by_if (is_at w.WAIT ts) _ _ _ (λ is e. wait_sound depth ts us s e) (λ is e.
      by_if (is_at w.SIGNAL ts) _ _ _ (λ is e. signal_sound depth ts us s e) (λ is e.
      by_if (is_at w.BROADCAST ts) _ _ _ (λ is e. broadcast_sound depth ts us s e) (λ is e. except_sound depth ts us s e) e) e) e

  simple_sound : (depth : ℕ) → Sound {P = P} (simple_stmt depth) (IsStmt depth)
  unfolding simple_stmt
  simple_sound depth ts us s e =
      by_if (is_at w.EXIT ts) _ _ _ (λ is e. exit_sound depth ts us s e) (λ is e.
      by_if (is_at w.GET ts) _ _ _ (λ is e. get_sound depth ts us s e) (λ is e.
      by_if (is_at w.PUT ts) _ _ _ (λ is e. put_sound depth ts us s e) (λ is e.
      by_if (is_at w.ASSERT ts) _ _ _ (λ is e. assert_sound depth ts us s e) (λ is e. plain_sound depth ts us s e) e) e) e) e

  -- ---- statements with others inside

  pub stmts-of : (depth : ℕ) (ss : List (Stmt P)) (ts us : List (Tok P)) → Each (IsStmt depth) ss ts us → AreStmts depth (stmts_of ss) ts us
  stmts-of depth [] ts us took = took
  stmts-of depth (s ∷ ss) ts us (vs, took, more) = (vs, took, stmts-of depth ss vs us more)

  closing_sound : (word : Word) (ts us : List (Tok P)) (p : P) → closing word ts ≡ Ok (p, us) → (a w.END ▷ a word) ts us
  unfolding closing
  closing_sound word ts us p e =
      let c = bind_ok (expect w.END ts) _ _ e in (c.0.1, a_sound w.END ts c.0.1 c.0.0 c.1, a_sound word c.0.1 us p c.2)

  module _ (depth : ℕ) (p : Parse P (Stmt P)) (sound : Sound p (IsStmt depth)) where
    pub stmts_sound : Sound (stmts_by p) (λ ss. AreStmts depth (stmts_of ss))
    unfolding stmts_by
    stmts_sound ts us ss e = stmts-of depth ss ts us (many_sound p (IsStmt depth) sound begins ts us ss e)

    -- the tokens before these were those of a branch up to its first statements
    abbrev Began : P → Expr P → List (Stmt P) → Stmt P → List (Tok P) → List (Tok P) → Type 0
    Began q e ss s ts us = (vs : List (Tok P)) → (at w.IF q ▷ IsExpr 5 depth e ▷ a w.THEN ▷ AreStmts depth (stmts_of ss)) vs ts → IsStmt (suc depth) s vs us

    else_sound : (q : P) (g : Expr P) (ss : List (Stmt P)) → Sound (else_by p q g ss) (Began q g ss)
    unfolding else_by
    else_sound q g ss ts us s e =
        by_if (is_at w.ELSE ts) _ _ _
        (λ is e.
        let c = bind_ok (expect w.ELSE ts) _ _ e in
        let o = bind_ok (stmts_by p c.0.1) _ _ c.2 in
        let d = bind_ok (closing w.IF o.0.1) _ _ o.2 in
        done (Began q g ss) ts (when_else q g (stmts_of ss) (stmts_of o.0.0)) s d.0.1 us
        (λ vs (v1, i, (v2, x, (v3, t, took))). (v1, i, (v2, x, (v3, t, (ts, took, (c.0.1, a_sound w.ELSE ts c.0.1 c.0.0 c.1, (o.0.1, stmts_sound c.0.1 o.0.1 o.0.0 o.1, closing_sound w.IF o.0.1 d.0.1 d.0.0 d.1))))))) d.2)
        (λ is e.
        let d = bind_ok (closing w.IF ts) _ _ e in
        done (Began q g ss) ts (when q g (stmts_of ss)) s d.0.1 us
        (λ vs (v1, i, (v2, x, (v3, t, took))). (v1, i, (v2, x, (v3, t, (ts, took, closing_sound w.IF ts d.0.1 d.0.0 d.1))))) d.2) e

    choice_sound : Sound (choice depth p) (IsStmt (suc depth))
    unfolding choice
    choice_sound ts us s e =
        let q = bind_ok (expect w.IF ts) _ _ e in
        let x = bind_ok (expr depth q.0.1) _ _ q.2 in
        let t = bind_ok (expect w.THEN x.0.1) _ _ x.2 in
        let o = bind_ok (stmts_by p t.0.1) _ _ t.2 in
        else_sound q.0.0 x.0.0 o.0.0 o.0.1 us s o.2 ts
        (q.0.1, expect_sound w.IF ts q.0.1 q.0.0 q.1, (x.0.1, expr_sound depth q.0.1 x.0.1 x.0.0 x.1, (t.0.1, a_sound w.THEN x.0.1 t.0.1 t.0.0 t.1, stmts_sound t.0.1 o.0.1 o.0.0 o.1)))

    loop_sound : Sound (loop_stmt p) (IsStmt (suc depth))
    unfolding loop_stmt
    loop_sound ts us s e =
        let q = bind_ok (expect w.FOR ts) _ _ e in
        let n = bind_ok (name q.0.1) _ _ q.2 in
        let c = bind_ok (expect w.COLON n.0.1) _ _ n.2 in
        let l = bind_ok (constant c.0.1) _ _ c.2 in
        let d = bind_ok (expect w.RANGE l.0.1) _ _ l.2 in
        let h = bind_ok (constant d.0.1) _ _ d.2 in
        let b = bind_ok (expect w.DO h.0.1) _ _ h.2 in
        let o = bind_ok (stmts_by p b.0.1) _ _ b.2 in
        let z = bind_ok (closing w.FOR o.0.1) _ _ o.2 in
        done (IsStmt (suc depth)) ts (loop q.0.0 n.0.0.0 n.0.0.1 l.0.0 h.0.0 (stmts_of o.0.0)) s z.0.1 us
        (q.0.1, expect_sound w.FOR ts q.0.1 q.0.0 q.1, (n.0.1, name_sound q.0.1 n.0.1 n.0.0 n.1, (c.0.1, a_sound w.COLON n.0.1 c.0.1 c.0.0 c.1, (l.0.1, constant_sound c.0.1 l.0.1 l.0.0 l.1, (d.0.1, a_sound w.RANGE l.0.1 d.0.1 d.0.0 d.1, (h.0.1, constant_sound d.0.1 h.0.1 h.0.0 h.1, (b.0.1, a_sound w.DO h.0.1 b.0.1 b.0.0 b.1, (o.0.1, stmts_sound b.0.1 o.0.1 o.0.0 o.1, closing_sound w.FOR o.0.1 z.0.1 z.0.0 z.1)))))))) z.2

  stmt_by_sound : (depth : ℕ) (choose turn : Parse P (Stmt P)) → Sound choose (IsStmt depth) → Sound turn (IsStmt depth) → Sound (stmt_by depth choose turn) (IsStmt depth)
  unfolding stmt_by
  stmt_by_sound depth choose turn chosen turned ts us s e =
      by_if (is_name ts) _ _ _
      (λ is e.
      let n = bind_ok (name ts) _ _ e in
      subst (λ x. IsStmt depth s x us) (sym (name_sound ts n.0.1 n.0.0 n.1)) (named_stmt_sound depth n.0.0 n.0.1 us s n.2)) (λ is e.
      by_if (is_at w.IF ts) _ _ _ (λ is e. chosen ts us s e) (λ is e.
      by_if (is_at w.FOR ts) _ _ _ (λ is e. turned ts us s e) (λ is e. simple_sound depth ts us s e) e) e) e

  pub stmt_sound : (depth : ℕ) → Sound {P = P} (stmt depth) (IsStmt depth)
  unfolding stmt
  stmt_sound zero ts us s e = stmt_by_sound zero too_deep too_deep (λ ts us s e. cc) (λ ts us s e. cc) ts us s e
  stmt_sound (suc depth) ts us s e =
      stmt_by_sound (suc depth) (choice depth (stmt depth)) (loop_stmt (stmt depth)) (choice_sound depth (stmt depth) (stmt_sound depth))
      (loop_sound depth (stmt depth) (stmt_sound depth)) ts us s e

  pub all_stmts_sound : (depth : ℕ) → Sound {P = P} (reading.stmts depth) (λ ss. AreStmts depth (stmts_of ss))
  unfolding reading.stmts
  all_stmts_sound depth ts us ss e = stmts_sound depth (stmt depth) (stmt_sound depth) ts us ss e
