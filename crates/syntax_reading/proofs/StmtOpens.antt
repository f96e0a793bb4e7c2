-- Where a fault of nesting comes from in a statement.
use Rattle.std.proofs.Common.{◌≡◌, ℕ, zero, suc, List, ◌∷◌, true, inl, inr, Result, Ok, Err, refl, sym, subst}
use Rattle.syntax_tree.specs.Plain.{Name}
use Rattle.syntax_tree.specs.Placed.{Constant, Expr, Ref, Stmt, stmts_of}
use Rattle.syntax.specs.Words as w
use Rattle.syntax.specs.Words.{Word, named, Tok}
use Rattle.syntax.specs.ExprGrammar.{a, ◌▷◌}
use Rattle.syntax.specs.StmtGrammar.{IsRef, IsStmt}
use Rattle.syntax.specs.Opening.{Part, Whole, ◌∪◌, a_name, OpensExpr, OpensArgs, OpensRef, OpensSimple, IntoStmt, OpensStmt, OpensStmts}
use Rattle.syntax_reading.specs.ExprReading.{Fault, nesting, ◌>>=◌, Parse, too_deep, is_at, is_name, is_entry, name, constant, index, args, inner, expr}
use Rattle.syntax_reading.specs.StmtReading as reading
use Rattle.syntax_reading.specs.StmtReading.{reference_from, reference, entry_args, entry, assigned, named_stmt, exit_stmt, get_stmt, put_stmt, assert_stmt, wait_stmt, signal_stmt, broadcast_stmt, except_stmt, plain_stmt, simple_stmt, begins, stmts_by, closing, else_by, choice, loop_stmt, stmt_by, stmt}
use Rattle.syntax_reading.proofs.Basics.{by_if, a_sound, name_sound}
use Rattle.syntax_reading.proofs.ExprSound.{constant_sound, inner_sound, expr_sound}
use Rattle.syntax_reading.proofs.StmtSound.{reference_from_sound, stmts-of, stmts_sound, stmt_sound}
use Rattle.syntax_reading.proofs.OpenBasics.{by_step, past, no_fault, Reaches, Opens, Never, past_word, past_name, expect_never, here_opens, many_opens}
use Rattle.syntax_reading.proofs.ExprOpens.{constant_never, index_opens, args_opens, inner_opens, expr_opens}

module _ {P : Type 0} where
  abbrev front : Name × P → List (Tok P) → List (Tok P)
  front m ts = record { word = named m.0; place = m.1 } ∷ ts

  -- past a constant
  pub past_constant : {B : Type 0} (ts : List (Tok P)) (f : Constant P × List (Tok P) → Result B Fault) (n : ℕ) → (constant ts >>= f) ≡ Err (nesting n)
      → (x : Constant P × List (Tok P)) × (constant ts ≡ Ok x) × (f x ≡ Err (nesting n))
  past_constant ts f n e = past (constant ts) f (nesting n) (constant_never ts n) e

  -- a name that was read
  pub name-read : (ts us : List (Tok P)) (m : Name × P) → name ts ≡ Ok (m, us) → a_name ts us
  name-read ts us m e = (m.0, (m.1, name_sound ts us m e))

  args-opens : (depth : ℕ) (ts : List (Tok P)) (n : ℕ) → is_at w.LEFT_PAREN ts ≡ true → args (inner depth) ts ≡ Err (nesting n) → Reaches (OpensArgs depth) ts n
  args-opens depth ts n is e = args_opens (inner depth) depth (inner_sound P depth) (inner_opens P depth) ts n is e

  -- ---- references and calls of entries

  reference_from_opens : (depth : ℕ) (m : Name × P) (ts : List (Tok P)) (n : ℕ) → reference_from depth m ts ≡ Err (nesting n) → Reaches (OpensRef depth) (front m ts) n
  unfolding reference_from
  reference_from_opens depth m ts n e =
      by_if (is_at w.LEFT_BRACKET ts) _ _ _
      (λ is e.
      by_step (index (inner depth) ts) _ (nesting n)
      (λ bad.
      let r = index_opens (inner depth) depth (inner_sound P depth) (inner_opens P depth) ts n is bad in
      (r.0, (ts, (m.0, (m.1, refl)), r.1), r.2))
      (λ x good e. cc) e)
      (λ not e. cc) e

  reference_opens : (depth : ℕ) → Opens {P = P} (reference depth) (OpensRef depth)
  unfolding reference
  reference_opens depth ts n e =
      let m = past_name ts _ n e in
      subst (λ t. Reaches (OpensRef depth) t n) (sym (name_sound ts m.0.1 m.0.0 m.1)) (reference_from_opens depth m.0.0 m.0.1 n m.2)

  entry_args_opens : (depth : ℕ) → Opens {P = P} (entry_args depth) (OpensArgs depth)
  unfolding entry_args
  entry_args_opens depth ts n e = by_if (is_at w.LEFT_PAREN ts) _ _ _ (λ is e. args-opens depth ts n is e) (λ not e. cc) e

  entry_opens : (depth : ℕ) → Opens {P = P} (entry depth) (a w.DOT ▷ a_name ▷ OpensArgs depth)
  unfolding entry
  entry_opens depth ts n e =
      let c = past_word w.DOT ts _ n e in
      let m = past_name c.0.1 _ n c.2 in
      by_step (entry_args depth m.0.1) _ (nesting n)
      (λ bad.
      let r = entry_args_opens depth m.0.1 n bad in
      (r.0, (c.0.1, a_sound w.DOT ts c.0.1 c.0.0 c.1, (m.0.1, name-read c.0.1 m.0.1 m.0.0 m.1, r.1)), r.2))
      (λ x good e. cc) m.2

  -- ---- statements with no others inside

  -- in what is assigned
  abbrev OpensAssigned : ℕ → Part P
  OpensAssigned depth = OpensExpr depth ∪ a_name ▷ a w.DOT ▷ a_name ▷ OpensArgs depth

  assigned_opens : (depth : ℕ) (r : Ref P) → Opens (assigned depth r) (OpensAssigned depth)
  unfolding assigned
  assigned_opens depth r ts n e =
      by_if (is_at w.EMPTY ts) _ _ _
      (λ is e. let c = past_word w.EMPTY ts _ n e in let m = past_name c.0.1 _ n c.2 in let done = m.2 in cc)
      (λ not e.
      by_if (is_entry ts) _ _ _
      (λ is e.
      let m = past_name ts _ n e in
      by_step (entry depth m.0.1) _ (nesting n)
      (λ bad. let r = entry_opens depth m.0.1 n bad in (r.0, inr (m.0.1, name-read ts m.0.1 m.0.0 m.1, r.1), r.2))
      (λ x good e. cc) m.2)
      (λ not e.
      by_step (expr depth ts) _ (nesting n) (λ bad. let r = expr_opens depth ts n bad in (r.0, inl r.1, r.2)) (λ x good e. cc) e) e) e

  -- behind the reference that is assigned
  assign-opens : (depth : ℕ) (ts vs ws us : List (Tok P)) → Whole (IsRef depth) ts vs → a w.ASSIGN vs ws → OpensAssigned depth ws us → OpensSimple depth ts us
  assign-opens depth ts vs ws us took becomes (inl o) = inr (inl (vs, took, (ws, becomes, o)))
  assign-opens depth ts vs ws us took becomes (inr o) = inr (inr (inl (vs, took, (ws, becomes, o))))

  named_stmt_opens : (depth : ℕ) (m : Name × P) (ts : List (Tok P)) (n : ℕ) → named_stmt depth m ts ≡ Err (nesting n) → Reaches (OpensSimple depth) (front m ts) n
  unfolding named_stmt
  named_stmt_opens depth m ts n e =
      by_if (is_at w.LEFT_PAREN ts) _ _ _
      (λ is e.
      by_step (args (inner depth) ts) _ (nesting n)
      (λ bad. let r = args-opens depth ts n is bad in (r.0, inr (inr (inr (inl (ts, (m.0, (m.1, refl)), r.1)))), r.2)) (λ x good e. cc) e)
      (λ not e.
      by_if (is_at w.DOT ts) _ _ _
      (λ is e.
      by_step (entry depth ts) _ (nesting n)
      (λ bad. let r = entry_opens depth ts n bad in (r.0, inr (inr (inr (inr (inl (ts, (m.0, (m.1, refl)), r.1))))), r.2)) (λ x good e. cc) e)
      (λ not e.
      by_step (reference_from depth m ts) _ (nesting n)
      (λ bad. let r = reference_from_opens depth m ts n bad in (r.0, inl r.1, r.2))
      (λ x good e.
      let c = past_word w.ASSIGN x.1 _ n e in
      let r = assigned_opens depth x.0 c.0.1 n c.2 in
      (r.0, assign-opens depth (front m ts) x.1 c.0.1 r.0 (x.0, reference_from_sound depth m ts x.1 x.0 good) (a_sound w.ASSIGN x.1 c.0.1 c.0.0 c.1) r.1, r.2)) e) e) e

  exit_opens : (depth : ℕ) → Opens {P = P} (exit_stmt depth) (OpensSimple depth)
  unfolding exit_stmt
  exit_opens depth ts n e =
      let p = past_word w.EXIT ts _ n e in
      let c = past_word w.WHEN p.0.1 _ n p.2 in
      by_step (expr depth c.0.1) _ (nesting n)
      (λ bad.
      let r = expr_opens depth c.0.1 n bad in
      (r.0, inr (inr (inr (inr (inr (inl (p.0.1, a_sound w.EXIT ts p.0.1 p.0.0 p.1, (c.0.1, a_sound w.WHEN p.0.1 c.0.1 c.0.0 c.1, r.1))))))), r.2))
      (λ x good e. cc) c.2

  get_opens : (depth : ℕ) → Opens {P = P} (get_stmt depth) (OpensSimple depth)
  unfolding get_stmt
  get_opens depth ts n e =
      let p = past_word w.GET ts _ n e in
      let m = past_name p.0.1 _ n p.2 in
      by_step (reference depth m.0.1) _ (nesting n)
      (λ bad.
      let r = reference_opens depth m.0.1 n bad in
      (r.0, inr (inr (inr (inr (inr (inr (inl (p.0.1, a_sound w.GET ts p.0.1 p.0.0 p.1, (m.0.1, name-read p.0.1 m.0.1 m.0.0 m.1, r.1)))))))), r.2))
      (λ x good e. cc) m.2

  put_opens : (depth : ℕ) → Opens {P = P} (put_stmt depth) (OpensSimple depth)
  unfolding put_stmt
  put_opens depth ts n e =
      let p = past_word w.PUT ts _ n e in
      let m = past_name p.0.1 _ n p.2 in
      by_step (expr depth m.0.1) _ (nesting n)
      (λ bad.
      let r = expr_opens depth m.0.1 n bad in
      (r.0, inr (inr (inr (inr (inr (inr (inr (inl (p.0.1, a_sound w.PUT ts p.0.1 p.0.0 p.1, (m.0.1, name-read p.0.1 m.0.1 m.0.0 m.1, r.1))))))))), r.2))
      (λ x good e. cc) m.2

  assert_opens : (depth : ℕ) → Opens {P = P} (assert_stmt depth) (OpensSimple depth)
  unfolding assert_stmt
  assert_opens depth ts n e =
      let p = past_word w.ASSERT ts _ n e in
      by_step (expr depth p.0.1) _ (nesting n)
      (λ bad.
      let r = expr_opens depth p.0.1 n bad in
      (r.0, inr (inr (inr (inr (inr (inr (inr (inr (p.0.1, a_sound w.ASSERT ts p.0.1 p.0.0 p.1, r.1)))))))), r.2))
      (λ x good e. cc) p.2

  wait_never : Never {P = P} wait_stmt
  unfolding wait_stmt
  wait_never ts n e =
      let p = past_word w.WAIT ts _ n e in
      let m = past_name p.0.1 _ n p.2 in
      let c = past_word w.NO_LONGER_THAN m.0.1 _ n m.2 in
      let l = past_constant c.0.1 _ n c.2 in
      let d = past_word w.COLON l.0.1 _ n l.2 in
      let x = past_constant d.0.1 _ n d.2 in
      let done = x.2 in cc

  signal_never : Never {P = P} signal_stmt
  unfolding signal_stmt
  signal_never ts n e = let p = past_word w.SIGNAL ts _ n e in let m = past_name p.0.1 _ n p.2 in let done = m.2 in cc

  broadcast_never : Never {P = P} broadcast_stmt
  unfolding broadcast_stmt
  broadcast_never ts n e = let p = past_word w.BROADCAST ts _ n e in let m = past_name p.0.1 _ n p.2 in let done = m.2 in cc

  except_never : Never {P = P} except_stmt
  unfolding except_stmt
  except_never ts n e = let p = past_word w.EXCEPT ts _ n e in let c = past_constant p.0.1 _ n p.2 in let done = c.2 in cc

  plain_never : Never {P = P} plain_stmt
  unfolding plain_stmt
  plain_never ts n e =
      by_if (is_at w.WAIT ts) _ _ _ (λ is e. wait_never ts n e) (λ is e.
      by_if (is_at w.SIGNAL ts) _ _ _ (λ is e. signal_never ts n e) (λ is e.
      by_if (is_at w.BROADCAST ts) _ _ _ (λ is e. broadcast_never ts n e) (λ is e. except_never ts n e) e) e) e

  simple_opens : (depth : ℕ) → Opens {P = P} (simple_stmt depth) (OpensSimple depth)
  unfolding simple_stmt
  simple_opens depth ts n e =
      by_if (is_at w.EXIT ts) _ _ _ (λ is e. exit_opens depth ts n e) (λ is e.
      by_if (is_at w.GET ts) _ _ _ (λ is e. get_opens depth ts n e) (λ is e.
      by_if (is_at w.PUT ts) _ _ _ (λ is e. put_opens depth ts n e) (λ is e.
      by_if (is_at w.ASSERT ts) _ _ _ (λ is e. assert_opens depth ts n e) (λ is e. absurd (plain_never ts n e)) e) e) e) e

  -- ---- statements with others inside

  closing_never : (word : Word) → Never {P = P} (closing word)
  unfolding closing
  closing_never word ts n e = let c = past_word w.END ts _ n e in expect_never word c.0.1 n c.2

  module _ (depth : ℕ) (opens : Opens {P = P} (stmt depth) (OpensStmt depth)) where
    stmts_by_opens : Opens {P = P} (stmts_by (stmt depth)) (OpensStmts depth)
    unfolding stmts_by
    stmts_by_opens ts n e =
        let (us, (vs, (ss, took), o), left) = many_opens (stmt depth) (IsStmt depth) (stmt_sound depth) (OpensStmt depth) opens begins ts n e in
        (us, (vs, (stmts_of ss, stmts-of depth ss ts vs took), o), left)

    else_opens : (q : P) (g : Expr P) (ss : List (Stmt P)) → Opens (else_by (stmt depth) q g ss) (a w.ELSE ▷ OpensStmts depth)
    unfolding else_by
    else_opens q g ss ts n e =
        by_if (is_at w.ELSE ts) _ _ _
        (λ is e.
        let c = past_word w.ELSE ts _ n e in
        by_step (stmts_by (stmt depth) c.0.1) _ (nesting n)
        (λ bad. let r = stmts_by_opens c.0.1 n bad in (r.0, (c.0.1, a_sound w.ELSE ts c.0.1 c.0.0 c.1, r.1), r.2))
        (λ x good e. let d = past (closing w.IF x.1) _ (nesting n) (closing_never w.IF x.1 n) e in let done = d.2 in cc) c.2)
        (λ not e. let d = past (closing w.IF ts) _ (nesting n) (closing_never w.IF ts n) e in let done = d.2 in cc) e

    choice_opens : Opens {P = P} (choice depth (stmt depth)) (OpensStmt (suc depth))
    unfolding choice OpensStmt
    choice_opens ts n e =
        let q = past_word w.IF ts _ n e in
        let if_read = a_sound w.IF ts q.0.1 q.0.0 q.1 in
        by_step (expr depth q.0.1) _ (nesting n)
        (λ bad. let r = expr_opens depth q.0.1 n bad in (r.0, inl (q.0.1, if_read, r.1), r.2))
        (λ x good e.
        let t = past_word w.THEN x.1 _ n e in
        let test = expr_sound depth q.0.1 x.1 x.0 good in
        let then_read = a_sound w.THEN x.1 t.0.1 t.0.0 t.1 in
        by_step (stmts_by (stmt depth) t.0.1) _ (nesting n)
        (λ bad.
        let (us, (vs, ss, o), left) = stmts_by_opens t.0.1 n bad in
        (us, inr (inl (vs, inl (q.0.1, if_read, (x.1, (x.0, test), (t.0.1, then_read, ss))), o)), left))
        (λ s read e.
        let (us, (v1, other, (vs, ss, o)), left) = else_opens q.0.0 x.0 s.0 s.1 n e in
        let first = stmts_sound depth (stmt depth) (stmt_sound depth) t.0.1 s.1 s.0 read in
        (us, inr (inl (vs, inr (inl (q.0.1, if_read, (x.1, (x.0, test), (t.0.1, then_read, (s.1, (stmts_of s.0, first), (v1, other, ss)))))), o)), left)) t.2) q.2

    loop_opens : Opens {P = P} (loop_stmt (stmt depth)) (OpensStmt (suc depth))
    unfolding loop_stmt OpensStmt
    loop_opens ts n e =
        let q = past_word w.FOR ts _ n e in
        let m = past_name q.0.1 _ n q.2 in
        let c = past_word w.COLON m.0.1 _ n m.2 in
        let l = past_constant c.0.1 _ n c.2 in
        let d = past_word w.RANGE l.0.1 _ n l.2 in
        let h = past_constant d.0.1 _ n d.2 in
        let b = past_word w.DO h.0.1 _ n h.2 in
        by_step (stmts_by (stmt depth) b.0.1) _ (nesting n)
        (λ bad.
        let (us, (vs, ss, o), left) = stmts_by_opens b.0.1 n bad in
        let for_read = a_sound w.FOR ts q.0.1 q.0.0 q.1 in
        let named_read = name-read q.0.1 m.0.1 m.0.0 m.1 in
        let colon = a_sound w.COLON m.0.1 c.0.1 c.0.0 c.1 in
        let low = constant_sound c.0.1 l.0.1 l.0.0 l.1 in
        let range = a_sound w.RANGE l.0.1 d.0.1 d.0.0 d.1 in
        let high = constant_sound d.0.1 h.0.1 h.0.0 h.1 in
        let do_read = a_sound w.DO h.0.1 b.0.1 b.0.0 b.1 in
        let into : IntoStmt depth ts vs =
        inr (inr (
          q.0.1,
          for_read,
          (m.0.1, named_read, (c.0.1, colon, (l.0.1, (l.0.0, low), (d.0.1, range, (h.0.1, (h.0.0, high), (b.0.1, do_read, ss)))))),
        )) in
        (us, inr (inl (vs, into, o)), left))
        (λ x good e. let z = past (closing w.FOR x.1) _ (nesting n) (closing_never w.FOR x.1 n) e in absurd (no_fault _ _ z.2)) b.2

  name-simple : (depth : ℕ) (ts : List (Tok P)) (n : ℕ) → Reaches (OpensSimple depth) ts n → Reaches (OpensStmt depth) ts n
  unfolding OpensStmt
  name-simple zero ts n r = (r.0, inr (inr r.1), r.2)
  name-simple (suc depth) ts n r = (r.0, inr (inr r.1), r.2)

  stmt_by_opens : (depth : ℕ) (choose turn : Parse P (Stmt P)) → ((ts : List (Tok P)) (n : ℕ) → is_at w.IF ts ≡ true → choose ts ≡ Err (nesting n) → Reaches (OpensStmt depth) ts n)
      → ((ts : List (Tok P)) (n : ℕ) → is_at w.FOR ts ≡ true → turn ts ≡ Err (nesting n) → Reaches (OpensStmt depth) ts n) → Opens (stmt_by depth choose turn) (OpensStmt depth)
  unfolding stmt_by
  stmt_by_opens depth choose turn chosen turned ts n e =
      by_if (is_name ts) _ _ _
      (λ is e.
      let m = past_name ts _ n e in
      name-simple depth ts n
      (subst (λ t. Reaches (OpensSimple depth) t n) (sym (name_sound ts m.0.1 m.0.0 m.1)) (named_stmt_opens depth m.0.0 m.0.1 n m.2))) (λ not e.
      by_if (is_at w.IF ts) _ _ _ (λ is e. chosen ts n is e) (λ not e.
      by_if (is_at w.FOR ts) _ _ _ (λ is e. turned ts n is e) (λ not e. name-simple depth ts n (simple_opens depth ts n e)) e) e) e

  here-if : (ts : List (Tok P)) (n : ℕ) → is_at w.IF ts ≡ true → too_deep {A = Stmt P} ts ≡ Err (nesting n) → Reaches (OpensStmt zero) ts n
  unfolding OpensStmt
  here-if ts n is e = let r = here_opens w.IF ts n is e in (r.0, inl r.1, r.2)

  here-for : (ts : List (Tok P)) (n : ℕ) → is_at w.FOR ts ≡ true → too_deep {A = Stmt P} ts ≡ Err (nesting n) → Reaches (OpensStmt zero) ts n
  unfolding OpensStmt
  here-for ts n is e = let r = here_opens w.FOR ts n is e in (r.0, inr (inl r.1), r.2)

  pub stmt_opens : (depth : ℕ) → Opens {P = P} (stmt depth) (OpensStmt depth)
  unfolding stmt
  stmt_opens zero ts n e = stmt_by_opens zero too_deep too_deep here-if here-for ts n e
  stmt_opens (suc depth) ts n e =
      stmt_by_opens (suc depth) (choice depth (stmt depth)) (loop_stmt (stmt depth)) (λ ts n is e. choice_opens depth (stmt_opens depth) ts n e)
      (λ ts n is e. loop_opens depth (stmt_opens depth) ts n e) ts n e

  pub stmts_opens : (depth : ℕ) → Opens {P = P} (reading.stmts depth) (OpensStmts depth)
  unfolding reading.stmts
  stmts_opens depth ts n e = stmts_by_opens depth (stmt_opens depth) ts n e
