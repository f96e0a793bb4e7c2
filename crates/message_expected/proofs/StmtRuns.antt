-- The automaton reads statements.
use Rattle.std.proofs.Common.{◌≡◌, ℕ, ◌||◌, ◌&&◌, not, ◌==◌, ◌⊎◌, inl, inr, List, [], ◌∷◌, ◌++◌, length, Bool, true, false, cond, Result, Ok, refl, ap, sym, ◌∙◌, arith}
use Rattle.std.specs.Prelude.{bytes_eq, codes}
use Rattle.syntax.specs.declared.token.keyword.TheConstants as k
use Rattle.syntax.specs.declared.token.sign.TheConstants as m
use Rattle.syntax.specs.Words as w
use Rattle.syntax.specs.Words.{Word, named, number, keyword, sign, Tok}
use Rattle.syntax_tree.specs.Plain.{Name}
use Rattle.syntax_tree.specs.Placed.{Expr, Ref, whole, part, Stmt, assign, assign_entry, assign_empty, exprs_of}
use Rattle.syntax_reading.specs.ExprReading.{Fault, ◌>>=◌, refuse, same_word, is_at, is_named, expect, name, name_by, index, args, inner, expr}
use Rattle.syntax_reading.specs.StmtReading.{reference_from, reference, entry_args, entry, assigned, begins_by}
use Rattle.message_expected.specs.Automaton as a
use Rattle.message_expected.specs.Automaton.{Head, Turn, along, is_key, is_optional, is_refused, is_sign, kind_of_word, level_of, operators, operators_behind, refused, turn, where_so}
use Rattle.message_expected.specs.declared.kinds.Kind.{Kind}
use Rattle.message_expected.specs.declared.kinds.Kind.TheVariants as of
use Rattle.message_expected.specs.declared.symbols.Symbol.{Symbol}
use Rattle.message_expected.specs.declared.symbols.Symbol.TheVariants as s
use Rattle.message_expected.proofs.Runs.{Does, Reads, Same, along-word, a-name, begun, bind, branch, done, done-last, empty, go, key_same, last, maybe-reads, must, must-all, name_same, none, none-begun, of-head, of-result, passed, run, sign_same, turn_at, via}
use Rattle.message_expected.proofs.ExprRuns.{args_do, expr_reads, index_does, inner_is, operator-head, operator_turn}

-- ---- levels of operators

abbrev HasLevel : ℕ → Type 0
HasLevel l = (l ≡ 0) ⊎ ((l ≡ 1) ⊎ ((l ≡ 2) ⊎ ((l ≡ 3) ⊎ ((l ≡ 4) ⊎ (l ≡ 5)))))

has_level : (kind : Kind) → HasLevel (level_of kind)
unfolding level_of
has_level kind = by _ _ _ _ _
  where
    by : (b1 b2 b3 b4 b5 : Bool) → HasLevel (cond b1 1 (cond b2 2 (cond b3 3 (cond b4 4 (cond b5 5 0)))))
    by true b2 b3 b4 b5 = inr (inl refl)
    by false true b3 b4 b5 = inr (inr (inl refl))
    by false false true b4 b5 = inr (inr (inr (inl refl)))
    by false false false true b5 = inr (inr (inr (inr (inl refl))))
    by false false false false true = inr (inr (inr (inr (inr refl))))
    by false false false false false = inl refl

-- ---- statements by their keywords

key_heads : (b1 b2 b3 b4 b5 b6 b7 b8 b9 b10 : Bool) → Head
key_heads b1 b2 b3 b4 b5 b6 b7 b8 b9 b10 =
    cond b1 (a.inside (s.Expression ∷ s.Keyword k.THEN ∷ s.Statements ∷ s.Else ∷ []))
    (cond b2 (a.inside (s.Name ∷ s.Sign m.COLON ∷ s.Constant ∷ s.Sign m.RANGE ∷ s.Constant ∷ s.Keyword k.DO ∷ s.Statements ∷ s.Keyword k.END ∷ s.Keyword k.FOR ∷ []))
    (cond b3 (along (s.Keyword k.WHEN ∷ s.Expression ∷ [])) (cond b4 (along (s.Name ∷ s.Name ∷ s.Index ∷ [])) (cond b5 (along (s.Name ∷ s.Expression ∷ []))
    (cond b6 (along (s.Expression ∷ [])) (cond b7 (along (s.Name ∷ s.Keyword k.NO_LONGER_THAN ∷ s.Constant ∷ s.Sign m.COLON ∷ s.Constant ∷ [])) (cond b8 (along (s.Name ∷ []))
    (cond b9 (along (s.Name ∷ [])) (where_so b10 (s.Constant ∷ []))))))))))

key-refused : (b1 b2 b3 b4 b5 b6 b7 b8 b9 b10 : Bool) → is_refused (key_heads b1 b2 b3 b4 b5 b6 b7 b8 b9 b10) ≡ not (b1 || b2 || b3 || b4 || b5 || b6 || b7 || b8 || b9 || b10)
unfolding key_heads
key-refused true b2 b3 b4 b5 b6 b7 b8 b9 b10 = refl
key-refused false true b3 b4 b5 b6 b7 b8 b9 b10 = refl
key-refused false false true b4 b5 b6 b7 b8 b9 b10 = refl
key-refused false false false true b5 b6 b7 b8 b9 b10 = refl
key-refused false false false false true b6 b7 b8 b9 b10 = refl
key-refused false false false false false true b7 b8 b9 b10 = refl
key-refused false false false false false false true b8 b9 b10 = refl
key-refused false false false false false false false true b9 b10 = refl
key-refused false false false false false false false false true b10 = refl
key-refused false false false false false false false false false true = refl
key-refused false false false false false false false false false false = refl

pub statement-refused : (v : Word) → is_refused (a.statement (kind_of_word v)) ≡ not (begins_by v)
unfolding a.statement key_heads
statement-refused (named n) = by (bytes_eq n (codes "deadline"))
  where
    by : (b : Bool) → is_refused (a.statement (cond b of.Deadline of.Name)) ≡ false
    by true = refl
    by false = refl
statement-refused (number n) = refl
statement-refused (keyword x) = key-refused (x == k.IF) (x == k.FOR) (x == k.EXIT) (x == k.GET) (x == k.PUT) (x == k.ASSERT) (x == k.WAIT) (x == k.SIGNAL) (x == k.BROADCAST) (x == k.EXCEPT)
statement-refused (sign x) = refl

index-refused : (b : Bool) → is_refused (cond b (a.inside (s.Expression ∷ s.Sign m.RIGHT_BRACKET ∷ [])) refused) ≡ not b
index-refused true = refl
index-refused false = refl

abbrev name-turn : (dot bracket paren : Bool) → Kind → ℕ → Turn
name-turn dot bracket paren kind level =
    cond dot (record { head = along (s.Name ∷ s.Arguments ∷ []); behind = [] })
    (cond (bracket || paren) (record { head = cond bracket (a.inside (s.Expression ∷ s.Sign m.RIGHT_BRACKET ∷ [])) (cond paren (a.inside (s.FirstArgument ∷ [])) refused); behind = operators 5 })
    (a.behind_operator level))

abbrev factor-head : (bracket paren : Bool) → Head
factor-head bracket paren = cond bracket (a.inside (s.Expression ∷ s.Sign m.RIGHT_BRACKET ∷ [])) (cond paren (a.inside (s.FirstArgument ∷ [])) refused)

module _ {P : Type 0} (d : ℕ) where
  -- ---- entries and references

  entry_args_read : Reads d (entry_args {P = P} d) (s.Arguments ∷ [])
  unfolding turn entry_args
  entry_args_read =
      must d s.Arguments (entry_args d) refl refl
      (λ t ts. branch d (λ h stack. go d stack h t ts) (is_sign m.LEFT_PAREN (kind_of_word t.word)) (same_word t.word w.LEFT_PAREN) (a.inside (s.FirstArgument ∷ [])) refused (args (inner d) (t ∷ ts)) (refuse (t ∷ ts)) (length ts) (sign_same m.LEFT_PAREN t.word)
      (λ e. args_do d (inner d) (inner_is P d) t ts e) (λ e. none-begun d t ts (length ts)))

  -- an entry behind its dot
  abbrev entry-rest : List (Tok P) → Result ((Name × P × List (Expr P)) × List (Tok P)) Fault
  entry-rest v = name v >>= λ n. entry_args d n.1 >>= λ es. Ok ((n.0.0, n.0.1, es.0), es.1)

  entry_rest_reads : Reads d entry-rest (s.Name ∷ s.Arguments ∷ [])
  entry_rest_reads = bind d name _ (s.Name ∷ []) (s.Arguments ∷ []) (a-name d) (λ n. last d (entry_args d) _ (s.Arguments ∷ []) entry_args_read (λ es. done d _))

  pub entry_does : (t : Tok P) (ts : List (Tok P)) → same_word t.word w.DOT ≡ true → Does d (along (s.Name ∷ s.Arguments ∷ [])) (entry d) t ts
  unfolding entry
  entry_does t ts e = along-word d w.DOT _ (s.Name ∷ s.Arguments ∷ []) t ts e (λ q. entry_rest_reads)

  pub reference_from_reads : (n : Name × P) → Reads d (reference_from d n) (s.Index ∷ [])
  unfolding reference_from turn
  reference_from_reads n =
      maybe-reads d s.Index (is_at w.LEFT_BRACKET) (λ ts. index (inner d) ts >>= λ i. Ok (part n.1 n.0 i.0, i.1)) (whole n.1 n.0) (record {
        may = refl;
        keeps = refl;
        ends = refl;
        refuses = λ t ts. index-refused (is_sign m.LEFT_BRACKET (kind_of_word t.word)) ∙ ap not (sign_same m.LEFT_BRACKET t.word);
        does = λ t ts e.
            of-head d (λ h stack. go d stack h t ts) _ (a.inside (s.Expression ∷ s.Sign m.RIGHT_BRACKET ∷ [])) _ (length ts)
            (ap (λ b. cond b (a.inside (s.Expression ∷ s.Sign m.RIGHT_BRACKET ∷ [])) refused) (sign_same m.LEFT_BRACKET t.word ∙ e))
            (done-last d (a.inside (s.Expression ∷ s.Sign m.RIGHT_BRACKET ∷ [])) (index (inner d)) _ t ts (index_does d (inner d) (inner_is P d) t ts e) (λ i. done d _));
      })

  pub reference_reads : Reads d (reference {P = P} d) (s.Name ∷ s.Index ∷ [])
  unfolding reference
  reference_reads = bind d name _ (s.Name ∷ []) (s.Index ∷ []) (a-name d) (λ n. reference_from_reads n)

  -- ---- what is assigned

  -- past an operator of another level
  skip : (l n : ℕ) (u : Tok P) (us : List (Tok P)) (stack : List Symbol) → level_of (kind_of_word u.word) ≡ n → (n == l) ≡ false → run d (s.Operators l ∷ stack) (u ∷ us) ≡ run d stack (u ∷ us)
  unfolding turn
  skip l n u us stack e other = passed d (s.Operators l) stack u us (operator-head l (level_of (kind_of_word u.word) == l) ∙ ap (λ n. not (n == l)) e ∙ ap not other) refl

  -- at one of this level
  stop : (l : ℕ) (u : Tok P) (us : List (Tok P)) (stack : List Symbol) → level_of (kind_of_word u.word) ≡ l → (l == l) ≡ true → run d (s.Operators l ∷ stack) (u ∷ us) ≡ run d (s.Factor ∷ (operators_behind l ++ stack)) us
  unfolding turn
  stop l u us stack e same =
      let at : (level_of (kind_of_word u.word) == l) ≡ true = ap (λ n. n == l) e ∙ same in
      begun d (s.Operators l) stack u us (ap (λ b. is_refused (operator_turn l b).head) at) ∙ ap (λ b. go d ((operator_turn l b).behind ++ stack) (operator_turn l b).head u us) at

  abbrev Behind : List Symbol → List (Tok P) → Type 0
  Behind stack us = run d (s.AssignedName ∷ stack) us ≡ run d (s.NamedFactor ∷ (operators 5 ++ stack)) us

  module _ (u : Tok P) (us : List (Tok P)) (stack : List Symbol) (x y : Bool) (dot : same_word u.word w.DOT ≡ false) (ex : same_word u.word w.LEFT_BRACKET ≡ x) (ey : same_word u.word w.LEFT_PAREN ≡ y) where
    name-turned : (level : ℕ) → level_of (kind_of_word u.word) ≡ level → turn_at s.AssignedName u ≡ name-turn false x y (kind_of_word u.word) level
    unfolding turn a.assigned_name a.named_factor
    name-turned level el =
        let e1 = sign_same m.DOT u.word ∙ dot in
        let e2 = sign_same m.LEFT_BRACKET u.word ∙ ex in
        let e3 = sign_same m.LEFT_PAREN u.word ∙ ey in
        λ i. name-turn (e1 i) (e2 i) (e3 i) (kind_of_word u.word) (el i)

    factor-turned : turn_at s.NamedFactor u ≡ record { head = factor-head x y; behind = [] }
    unfolding turn a.named_factor
    factor-turned =
        let e2 = sign_same m.LEFT_BRACKET u.word ∙ ex in
        let e3 = sign_same m.LEFT_PAREN u.word ∙ ey in
        λ i. record { head = factor-head (e2 i) (e3 i); behind = [] }

    name-begun : (level : ℕ) → level_of (kind_of_word u.word) ≡ level → is_refused (name-turn false x y (kind_of_word u.word) level).head ≡ false
        → run d (s.AssignedName ∷ stack) (u ∷ us) ≡ go d ((name-turn false x y (kind_of_word u.word) level).behind ++ stack) (name-turn false x y (kind_of_word u.word) level).head u us
    name-begun level el some =
        begun d s.AssignedName stack u us (ap (λ (t : Turn). is_refused t.head) (name-turned level el) ∙ some) ∙ ap (λ (t : Turn). go d (t.behind ++ stack) t.head u us) (name-turned level el)

    name-passed : (level : ℕ) → level_of (kind_of_word u.word) ≡ level → is_refused (name-turn false x y (kind_of_word u.word) level).head ≡ true → run d (s.AssignedName ∷ stack) (u ∷ us) ≡ run d stack (u ∷ us)
    name-passed level el none = passed d s.AssignedName stack u us (ap (λ (t : Turn). is_refused t.head) (name-turned level el) ∙ none) refl

    factor-begun : (rest : List Symbol) → is_refused (factor-head x y) ≡ false → run d (s.NamedFactor ∷ rest) (u ∷ us) ≡ go d rest (factor-head x y) u us
    factor-begun rest some =
        begun d s.NamedFactor rest u us (ap (λ (t : Turn). is_refused t.head) factor-turned ∙ some) ∙ ap (λ (t : Turn). go d (t.behind ++ rest) t.head u us) factor-turned

    factor-passed : (rest : List Symbol) → is_refused (factor-head x y) ≡ true → run d (s.NamedFactor ∷ rest) (u ∷ us) ≡ run d rest (u ∷ us)
    factor-passed rest none = passed d s.NamedFactor rest u us (ap (λ (t : Turn). is_refused t.head) factor-turned ∙ none) refl

  behind-other : (u : Tok P) (us : List (Tok P)) (stack : List Symbol) (x y : Bool) → same_word u.word w.DOT ≡ false → same_word u.word w.LEFT_BRACKET ≡ x → same_word u.word w.LEFT_PAREN ≡ y → Behind stack (u ∷ us)
  unfolding a.behind_operator
  behind-other u us stack true y dot ex ey = name-begun u us stack true y dot ex ey _ refl refl ∙ sym (factor-begun u us stack true y dot ex ey (operators 5 ++ stack) refl)
  behind-other u us stack false true dot ex ey = name-begun u us stack false true dot ex ey _ refl refl ∙ sym (factor-begun u us stack false true dot ex ey (operators 5 ++ stack) refl)
  behind-other u us stack false false dot ex ey =
      by (has_level (kind_of_word u.word)) ∙ sym (factor-passed u us stack false false dot ex ey (operators 5 ++ stack) refl)
    where
      by : HasLevel (level_of (kind_of_word u.word)) → run d (s.AssignedName ∷ stack) (u ∷ us) ≡ run d (operators 5 ++ stack) (u ∷ us)
      by (inl e) =
          name-passed u us stack false false dot ex ey 0 e refl
          ∙ sym (skip 1 0 u us _ e refl ∙ skip 2 0 u us _ e refl ∙ skip 3 0 u us _ e refl ∙ skip 4 0 u us _ e refl ∙ skip 5 0 u us _ e refl)
      by (inr (inl e)) = name-begun u us stack false false dot ex ey 1 e refl ∙ sym (stop 1 u us _ e refl)
      by (inr (inr (inl e))) = name-begun u us stack false false dot ex ey 2 e refl ∙ sym (skip 1 2 u us _ e refl ∙ stop 2 u us _ e refl)
      by (inr (inr (inr (inl e)))) =
          name-begun u us stack false false dot ex ey 3 e refl ∙ sym (skip 1 3 u us _ e refl ∙ skip 2 3 u us _ e refl ∙ stop 3 u us _ e refl)
      by (inr (inr (inr (inr (inl e))))) =
          name-begun u us stack false false dot ex ey 4 e refl ∙ sym (skip 1 4 u us _ e refl ∙ skip 2 4 u us _ e refl ∙ skip 3 4 u us _ e refl ∙ stop 4 u us _ e refl)
      by (inr (inr (inr (inr (inr e))))) =
          name-begun u us stack false false dot ex ey 5 e refl
          ∙ sym (skip 1 5 u us _ e refl ∙ skip 2 5 u us _ e refl ∙ skip 3 5 u us _ e refl ∙ skip 4 5 u us _ e refl ∙ stop 5 u us _ e refl)

  -- where no entry follows, an expression goes on
  behind-name : (us : List (Tok P)) (stack : List Symbol) → is_at w.DOT us ≡ false → Behind stack us
  behind-name [] stack dot =
      none P d d s.AssignedName stack refl
      ∙ sym (none P d d s.NamedFactor (operators 5 ++ stack) refl ∙ none P d d (s.Operators 1) _ refl ∙ none P d d (s.Operators 2) _ refl ∙ none P d d (s.Operators 3) _ refl ∙ none P d d (s.Operators 4) _ refl
      ∙ none P d d (s.Operators 5) stack refl)
  behind-name (u ∷ us) stack dot = behind-other u us stack (same_word u.word w.LEFT_BRACKET) (same_word u.word w.LEFT_PAREN) dot refl refl

  name-one : (v : Word) (t : Tok P) (ts : List (Tok P)) → is_named v ≡ true → (n : Name) × (name_by v t ts ≡ Ok ((n, t.place), ts))
  name-one (named n) t ts is = (n, refl)
  name-one (number n) t ts is = cc
  name-one (keyword n) t ts is = cc
  name-one (sign n) t ts is = cc

  pub a_name_first : {B : Type 0} (f : (Name × P) × List (Tok P) → Result B Fault) (t : Tok P) (ts : List (Tok P)) → is_named t.word ≡ true → (n : Name) × ((name (t ∷ ts) >>= f) ≡ f ((n, t.place), ts))
  unfolding name
  a_name_first f t ts is = let (n, same) = name-one t.word t ts is in (n, ap (λ r. r >>= f) same)

  module _ (r : Ref P) where
    abbrev to-empty : (Name × P) × List (Tok P) → Result (Stmt P × List (Tok P)) Fault
    to-empty n = Ok (assign_empty r n.0.0 n.0.1, n.1)

    abbrev to-entry : (Name × P) × List (Tok P) → Result (Stmt P × List (Tok P)) Fault
    to-entry x = entry d x.1 >>= λ e. Ok (assign_entry r x.0.0 x.0.1 e.0.0 e.0.1 (exprs_of e.0.2), e.1)

    abbrev to-assign : Expr P × List (Tok P) → Result (Stmt P × List (Tok P)) Fault
    to-assign e = Ok (assign r e.0, e.1)

    abbrev results : (x y z : Bool) → Tok P → List (Tok P) → Result (Stmt P × List (Tok P)) Fault
    results x y z t ts = cond x (expect w.EMPTY (t ∷ ts) >>= λ c. name c.1 >>= to-empty) (cond (y && z) (name (t ∷ ts) >>= to-entry) (expr d (t ∷ ts) >>= to-assign))

    abbrev assigned-turn : (x y : Bool) → Kind → Turn
    assigned-turn x y kind =
        cond x (record { head = along (s.Name ∷ []); behind = [] })
        (cond y (record { head = along (s.AssignedName ∷ []); behind = [] }) (record { head = a.factor kind; behind = operators 5 }))

    abbrev Comes : (x y : Bool) → Tok P → List (Tok P) → Result (Stmt P × List (Tok P)) Fault → Type 0
    Comes x y t ts result = Same d (λ stack. go d ((assigned-turn x y (kind_of_word t.word)).behind ++ stack) (assigned-turn x y (kind_of_word t.word)).head t ts) result (length (t ∷ ts))

    expr-assigned : Reads d (λ ts. expr d ts >>= to-assign) (s.Expression ∷ [])
    expr-assigned = last d (expr d) to-assign (s.Expression ∷ []) (expr_reads d) (λ e. done d _)

    entry-assigned : (x : Name × P) (t : Tok P) (u : Tok P) (us : List (Tok P)) → same_word u.word w.DOT ≡ true → Comes false true t (u ∷ us) (to-entry (x, u ∷ us))
    unfolding turn a.assigned_name
    entry-assigned x t u us dot =
        let does = done-last d (along (s.Name ∷ s.Arguments ∷ [])) (entry d) (λ e. Ok (assign_entry r x.0 x.1 e.0.0 e.0.1 (exprs_of e.0.2), e.1)) u us (entry_does u us dot) (λ e. done d _) in
        let at = sign_same m.DOT u.word ∙ dot in
        let other : Turn = cond (is_sign m.LEFT_BRACKET (kind_of_word u.word) || is_sign m.LEFT_PAREN (kind_of_word u.word)) (record { head = a.named_factor (kind_of_word u.word); behind = operators 5 })
        (a.behind_operator (level_of (kind_of_word u.word))) in
        let dotted : turn_at s.AssignedName u ≡ record { head = along (s.Name ∷ s.Arguments ∷ []); behind = [] } =
        ap (λ b. cond b (record { head = along (s.Name ∷ s.Arguments ∷ []); behind = [] }) other) at in
        via d _ _ (to-entry (x, u ∷ us)) (length us) (length (t ∷ u ∷ us)) (omega arith)
        (λ stack. begun d s.AssignedName stack u us (ap (λ (t : Turn). is_refused t.head) dotted) ∙ ap (λ (t : Turn). go d (t.behind ++ stack) t.head u us) dotted) does

    name-assigned : (t : Tok P) (ts : List (Tok P)) (z : Bool) → is_named t.word ≡ true → is_at w.DOT ts ≡ z → Comes false true t ts (results false true z t ts)
    unfolding turn a.factor
    name-assigned t [] true name dot = cc
    name-assigned t (u ∷ us) true name dot =
        let (n, same) = a_name_first to-entry t (u ∷ us) name in of-result d _ _ (to-entry ((n, t.place), u ∷ us)) (length (t ∷ u ∷ us)) same (entry-assigned (n, t.place) t u us dot)
    name-assigned t ts false name dot =
        via d _ (λ stack. run d (s.Expression ∷ stack) (t ∷ ts)) (expr d (t ∷ ts) >>= to-assign) (length (t ∷ ts)) (length (t ∷ ts)) (omega arith)
        (λ stack. behind-name ts stack dot ∙ sym (expression-named t ts stack name)) (expr-assigned (t ∷ ts))
      where
        other-head : Kind → Head
        other-head kind =
            cond (is_sign m.LEFT_PAREN kind) (a.inside (s.Expression ∷ s.Sign m.RIGHT_PAREN ∷ [])) (cond (is_sign m.MINUS kind) (a.inside (s.Factor ∷ [])) (cond (is_key k.NOT kind) (a.inside (s.Factor ∷ []))
            (where_so ((a.is_number kind || is_key k.TRUE kind) || is_key k.FALSE kind) [])))

        expression-named : (t : Tok P) (ts : List (Tok P)) (stack : List Symbol) → is_named t.word ≡ true → run d (s.Expression ∷ stack) (t ∷ ts) ≡ run d (s.NamedFactor ∷ (operators 5 ++ stack)) ts
        expression-named t ts stack name =
            begun d s.Expression stack t ts refl
            ∙ ap (λ b. go d (operators 5 ++ stack) (cond b (along (s.NamedFactor ∷ [])) (other-head (kind_of_word t.word))) t ts) (name_same t.word ∙ name)

    pub assigned_reads : Reads d (assigned d r) (s.Assigned ∷ [])
    unfolding assigned turn a.assigned
    assigned_reads = must-all d s.Assigned (assigned d r) refl (empty d s.Expression [] (λ ts. expr d ts >>= to-assign) refl expr-assigned) (λ t ts. by t ts (same_word t.word w.EMPTY) (is_named t.word) (is_at w.DOT ts) refl refl refl)
      where
        comes : (t : Tok P) (ts : List (Tok P)) (x y z : Bool) → same_word t.word w.EMPTY ≡ x → is_named t.word ≡ y → is_at w.DOT ts ≡ z → Comes x y t ts (results x y z t ts)
        comes t ts true y z e g h =
            via d _ (λ stack. go d stack (along (s.Name ∷ [])) t ts) (expect w.EMPTY (t ∷ ts) >>= λ c. name c.1 >>= to-empty) (length ts) (length (t ∷ ts)) (omega arith) (λ stack. refl)
            (along-word d w.EMPTY (λ c. name c.1 >>= to-empty) (s.Name ∷ []) t ts e (λ q. last d name to-empty (s.Name ∷ []) (a-name d) (λ n. done d _)))
        comes t ts false true z e g h = name-assigned t ts z g h
        comes t ts false false z e g h =
            via d _ (λ stack. run d (s.Expression ∷ stack) (t ∷ ts)) (expr d (t ∷ ts) >>= to-assign) (length (t ∷ ts)) (length (t ∷ ts)) (omega arith) (λ stack. sym (begun d s.Expression stack t ts refl)) (expr-assigned (t ∷ ts))

        by : (t : Tok P) (ts : List (Tok P)) (x y z : Bool) → same_word t.word w.EMPTY ≡ x → is_named t.word ≡ y → is_at w.DOT ts ≡ z
            → Comes (is_key k.EMPTY (kind_of_word t.word)) (a.is_name (kind_of_word t.word)) t ts (results (same_word t.word w.EMPTY) (is_named t.word) (is_at w.DOT ts) t ts)
        by t ts x y z e g h =
            let e2 = key_same k.EMPTY t.word ∙ e in
            let g2 = name_same t.word ∙ g in
            of-result d _ _ (results x y z t ts) (length (t ∷ ts)) (λ i. results (e i) (g i) (h i) t ts)
            (via d _ (λ stack. go d ((assigned-turn x y (kind_of_word t.word)).behind ++ stack) (assigned-turn x y (kind_of_word t.word)).head t ts) (results x y z t ts) (length (t ∷ ts)) (length (t ∷ ts)) (omega arith)
            (λ stack. λ i. go d ((assigned-turn (e2 i) (g2 i) (kind_of_word t.word)).behind ++ stack) (assigned-turn (e2 i) (g2 i) (kind_of_word t.word)).head t ts) (comes t ts x y z e g h))
