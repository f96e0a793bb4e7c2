-- Each part of a program takes a token or more.
use Rattle.std.proofs.Common.{ℕ, zero, suc, ◌+◌, ◌≤◌, ◌<◌, List, [], ◌∷◌, length, true, false, ap, arith}
use Rattle.syntax_tree.specs.Placed.{Constant, literal_constant, named_constant, Expr, literal, truth, variable, element, call, minus, negation, paren, row, Exprs, no_exprs, exprs, Operands, no_operands, operand, Ref, whole, part, Stmt, assign, assign_entry, assign_empty, perform, perform_entry, when, when_else, loop, exit_when, get, put, wait, signal, broadcast, except, assert, Stmts, no_stmts, stmts}
use Rattle.syntax.specs.Words as w
use Rattle.syntax.specs.Words.{Word, named, number, Tok}
use Rattle.syntax.specs.ExprGrammar.{at, a, ◌▷◌, nothing, Each, IsConstant, op_word, IsExpr, AreOperands, AreArgs, AreMoreArgs, InParens}
use Rattle.syntax.specs.StmtGrammar.{IsRef, IsStmt, AreStmts}

module _ {P : Type 0} where
  abbrev pub Short : (List (Tok P) → List (Tok P) → Type 0) → Type 0
  Short R = (ts us : List (Tok P)) → R ts us → length us ≤ length ts

  abbrev pub Shorter : (List (Tok P) → List (Tok P) → Type 0) → Type 0
  Shorter R = (ts us : List (Tok P)) → R ts us → length us < length ts

  pub at-shorter : (word : Word) (p : P) → Shorter (at word p)
  at-shorter word p ts us took = let e = ap length took in omega (arith, e)

  pub a-shorter : (word : Word) → Shorter (a word)
  a-shorter word ts us (p, took) = at-shorter word p ts us took

  pub nothing-short : Short nothing
  nothing-short ts us took = let e = ap length took in omega (arith, e)

  pub weak : (R : List (Tok P) → List (Tok P) → Type 0) → Shorter R → Short R
  weak R r ts us took = let e = r ts us took in omega (arith, e)

  -- one part, and what follows it
  pub then : (R S : List (Tok P) → List (Tok P) → Type 0) → Shorter R → Short S → Shorter (R ▷ S)
  then R S r s ts us (vs, took, more) = let e = r ts vs took in let f = s vs us more in omega (arith, e, f)

  pub then-short : (R S : List (Tok P) → List (Tok P) → Type 0) → Short R → Short S → Short (R ▷ S)
  then-short R S r s ts us (vs, took, more) = let e = r ts vs took in let f = s vs us more in omega (arith, e, f)

  pub a-then : (word : Word) (S : List (Tok P) → List (Tok P) → Type 0) → Short S → Shorter (a word ▷ S)
  a-then word S s = then (a word) S (a-shorter word) s

  pub at-then : (word : Word) (p : P) (S : List (Tok P) → List (Tok P) → Type 0) → Short S → Shorter (at word p ▷ S)
  at-then word p S s = then (at word p) S (at-shorter word p) s

  pub each-short : {A : Type 0} (R : A → List (Tok P) → List (Tok P) → Type 0) → ((x : A) → Short (R x)) → (xs : List A) → Short (Each R xs)
  each-short R r [] = nothing-short
  each-short R r (x ∷ xs) = then-short (R x) (Each R xs) (r x) (each-short R r xs)

  -- so there are no more of these than tokens
  pub each-long : {A : Type 0} (R : A → List (Tok P) → List (Tok P) → Type 0) → ((x : A) → Shorter (R x)) → (xs : List A) (ts us : List (Tok P)) → Each R xs ts us
      → length xs + length us ≤ length ts
  each-long R r [] ts us took = let e = ap length took in omega (arith, e)
  each-long R r (x ∷ xs) ts us (vs, took, more) = let e = r x ts vs took in let f = each-long R r xs vs us more in omega (arith, e, f)

  pub constant-shorter : (c : Constant P) → Shorter (IsConstant c)
  constant-shorter (literal_constant p true n q) ts us took = at-then w.MINUS p (at (number n) q) (weak (at (number n) q) (at-shorter (number n) q)) ts us took
  constant-shorter (literal_constant p false n q) ts us (same, took) = at-shorter (number n) p ts us took
  constant-shorter (named_constant p true n q) ts us took = at-then w.MINUS p (at (named n) q) (weak (at (named n) q) (at-shorter (named n) q)) ts us took
  constant-shorter (named_constant p false n q) ts us (same, took) = at-shorter (named n) p ts us took

  mutual
    pub expr-shorter : (l depth : ℕ) (e : Expr P) → Shorter (IsExpr l depth e)
    expr-shorter l depth (literal p n) ts us took = at-shorter (number n) p ts us took
    expr-shorter l depth (truth p true) ts us took = at-shorter w.TRUE p ts us took
    expr-shorter l depth (truth p false) ts us took = at-shorter w.FALSE p ts us took
    expr-shorter l depth (variable p n) ts us took = at-shorter (named n) p ts us took
    expr-shorter l zero (element p n i) ts us (vs, took, more) = absurd more
    expr-shorter l (suc depth) (element p n i) ts us (vs, took, (v2, b, (v3, e, c))) =
        let e1 = at-shorter (named n) p ts vs took in
        let e2 = a-shorter w.LEFT_BRACKET vs v2 b in
        let e3 = expr-shorter 5 depth i v2 v3 e in
        let e4 = a-shorter w.RIGHT_BRACKET v3 us c in omega (arith, e1, e2, e3, e4)
    expr-shorter l zero (call p n es) ts us (vs, took, more) = absurd more
    expr-shorter l (suc depth) (call p n es) ts us (vs, took, (v2, b, (v3, e, c))) =
        let e1 = at-shorter (named n) p ts vs took in
        let e2 = a-shorter w.LEFT_PAREN vs v2 b in
        let e3 = args-short depth es v2 v3 e in
        let e4 = a-shorter w.RIGHT_PAREN v3 us c in omega (arith, e1, e2, e3, e4)
    expr-shorter l zero (minus p e) ts us took = absurd took
    expr-shorter l (suc depth) (minus p e) ts us (vs, took, more) =
        let e1 = at-shorter w.MINUS p ts vs took in let e2 = expr-shorter 0 depth e vs us more in omega (arith, e1, e2)
    expr-shorter l zero (negation p e) ts us took = absurd took
    expr-shorter l (suc depth) (negation p e) ts us (vs, took, more) =
        let e1 = at-shorter w.NOT p ts vs took in let e2 = expr-shorter 0 depth e vs us more in omega (arith, e1, e2)
    expr-shorter l zero (paren p e) ts us took = absurd took
    expr-shorter l (suc depth) (paren p e) ts us (vs, took, (v2, x, c)) =
        let e1 = at-shorter w.LEFT_PAREN p ts vs took in
        let e2 = expr-shorter 5 depth e vs v2 x in
        let e3 = a-shorter w.RIGHT_PAREN v2 us c in omega (arith, e1, e2, e3)
    expr-shorter l depth (row e rs) ts us (m, within, shape, (vs, took, more)) =
        let e1 = expr-shorter m depth e ts vs took in let e2 = operands-short m depth rs vs us more in omega (arith, e1, e2)

    pub operands-short : (l depth : ℕ) (rs : Operands P) → Short (AreOperands l depth rs)
    operands-short l depth no_operands ts us took = nothing-short ts us took
    operands-short l depth (operand op e rs) ts us (vs, (high, took), (v2, x, more)) =
        let e1 = a-shorter (op_word op) ts vs took in
        let e2 = expr-shorter l depth e vs v2 x in
        let e3 = operands-short l depth rs v2 us more in omega (arith, e1, e2, e3)

    pub args-short : (depth : ℕ) (es : Exprs P) → Short (AreArgs depth es)
    args-short depth no_exprs ts us took = nothing-short ts us took
    args-short depth (exprs e es) ts us (vs, took, more) =
        let e1 = expr-shorter 5 depth e ts vs took in let e2 = more-short depth es vs us more in omega (arith, e1, e2)

    pub more-short : (depth : ℕ) (es : Exprs P) → Short (AreMoreArgs depth es)
    more-short depth no_exprs ts us took = nothing-short ts us took
    more-short depth (exprs e es) ts us (vs, c, (v2, took, more)) =
        let e1 = a-shorter w.COMMA ts vs c in
        let e2 = expr-shorter 5 depth e vs v2 took in
        let e3 = more-short depth es v2 us more in omega (arith, e1, e2, e3)

  parens-shorter : (depth : ℕ) (es : Exprs P) → Shorter (InParens depth es)
  parens-shorter zero es ts us took = absurd took
  parens-shorter (suc depth) es ts us took =
      a-then w.LEFT_PAREN (AreArgs depth es ▷ a w.RIGHT_PAREN) (then-short (AreArgs depth es) (a w.RIGHT_PAREN) (args-short depth es) (weak (a w.RIGHT_PAREN) (a-shorter w.RIGHT_PAREN))) ts us took

  ref-shorter : (depth : ℕ) (r : Ref P) → Shorter (IsRef depth r)
  ref-shorter depth (whole p n) = at-shorter (named n) p
  ref-shorter depth (part p n i) = expr-shorter 0 depth (element p n i)

  -- a statement takes a token or more: its first, and what follows it
  mutual
    pub stmt-shorter : (depth : ℕ) (s : Stmt P) → Shorter (IsStmt depth s)
    stmt-shorter depth (assign r e) ts us (vs, t1, (v2, t2, t3)) =
        let e1 = ref-shorter depth r ts vs t1 in let e2 = a-shorter w.ASSIGN vs v2 t2 in let e3 = expr-shorter 5 depth e v2 us t3 in omega (arith, e1, e2, e3)
    stmt-shorter depth (assign_entry r mon p entry q es) ts us (vs, t1, (v2, t2, (v3, t3, (v4, t4, (v5, t5, t6))))) =
        let e1 = ref-shorter depth r ts vs t1 in let e2 = a-shorter w.ASSIGN vs v2 t2 in let e3 = at-shorter (named mon) p v2 v3 t3 in
        let e4 = a-shorter w.DOT v3 v4 t4 in let e5 = at-shorter (named entry) q v4 v5 t5 in let e6 = parens-shorter depth es v5 us t6 in
        omega (arith, e1, e2, e3, e4, e5, e6)
    stmt-shorter depth (assign_empty r cond p) ts us (vs, t1, (v2, t2, (v3, t3, t4))) =
        let e1 = ref-shorter depth r ts vs t1 in let e2 = a-shorter w.ASSIGN vs v2 t2 in let e3 = a-shorter w.EMPTY v2 v3 t3 in
        let e4 = at-shorter (named cond) p v3 us t4 in omega (arith, e1, e2, e3, e4)
    stmt-shorter depth (perform p n es) ts us took = at-then (named n) p (InParens depth es) (weak (InParens depth es) (parens-shorter depth es)) ts us took
    stmt-shorter depth (perform_entry p mon entry q es) ts us (vs, t1, (v2, t2, (v3, t3, t4))) =
        let e1 = at-shorter (named mon) p ts vs t1 in let e2 = a-shorter w.DOT vs v2 t2 in let e3 = at-shorter (named entry) q v2 v3 t3 in
        let e4 = parens-shorter depth es v3 us t4 in omega (arith, e1, e2, e3, e4)
    stmt-shorter zero (when p e ss) ts us took = absurd took
    stmt-shorter (suc depth) (when p e ss) ts us (vs, t1, (v2, t2, (v3, t3, (v4, t4, (v5, t5, t6))))) =
        let e1 = at-shorter w.IF p ts vs t1 in let e2 = expr-shorter 5 depth e vs v2 t2 in let e3 = a-shorter w.THEN v2 v3 t3 in
        let e4 = stmts-short depth ss v3 v4 t4 in let e5 = a-shorter w.END v4 v5 t5 in let e6 = a-shorter w.IF v5 us t6 in omega (arith, e1, e2, e3, e4, e5, e6)
    stmt-shorter zero (when_else p e ss others) ts us took = absurd took
    stmt-shorter (suc depth) (when_else p e ss others) ts us (vs, t1, (v2, t2, (v3, t3, (v4, t4, (v5, t5, (v6, t6, (v7, t7, t8))))))) =
        let e1 = at-shorter w.IF p ts vs t1 in let e2 = expr-shorter 5 depth e vs v2 t2 in let e3 = a-shorter w.THEN v2 v3 t3 in
        let e4 = stmts-short depth ss v3 v4 t4 in let e5 = a-shorter w.ELSE v4 v5 t5 in let e6 = stmts-short depth others v5 v6 t6 in
        let e7 = a-shorter w.END v6 v7 t7 in let e8 = a-shorter w.IF v7 us t8 in omega (arith, e1, e2, e3, e4, e5, e6, e7, e8)
    stmt-shorter zero (loop p n q low high ss) ts us took = absurd took
    stmt-shorter (suc depth) (loop p n q low high ss) ts us (vs, t1, (v2, t2, (v3, t3, (v4, t4, (v5, t5, (v6, t6, (v7, t7, (v8, t8, (v9, t9, t10))))))))) =
        let e1 = at-shorter w.FOR p ts vs t1 in let e2 = at-shorter (named n) q vs v2 t2 in let e3 = a-shorter w.COLON v2 v3 t3 in
        let e4 = constant-shorter low v3 v4 t4 in let e5 = a-shorter w.RANGE v4 v5 t5 in let e6 = constant-shorter high v5 v6 t6 in
        let e7 = a-shorter w.DO v6 v7 t7 in let e8 = stmts-short depth ss v7 v8 t8 in let e9 = a-shorter w.END v8 v9 t9 in
        let e10 = a-shorter w.FOR v9 us t10 in omega (arith, e1, e2, e3, e4, e5, e6, e7, e8, e9, e10)
    stmt-shorter depth (exit_when p e) ts us (vs, t1, (v2, t2, t3)) =
        let e1 = at-shorter w.EXIT p ts vs t1 in let e2 = a-shorter w.WHEN vs v2 t2 in let e3 = expr-shorter 5 depth e v2 us t3 in omega (arith, e1, e2, e3)
    stmt-shorter depth (get p dev q r) ts us (vs, t1, (v2, t2, t3)) =
        let e1 = at-shorter w.GET p ts vs t1 in let e2 = at-shorter (named dev) q vs v2 t2 in let e3 = ref-shorter depth r v2 us t3 in omega (arith, e1, e2, e3)
    stmt-shorter depth (put p dev q e) ts us (vs, t1, (v2, t2, t3)) =
        let e1 = at-shorter w.PUT p ts vs t1 in let e2 = at-shorter (named dev) q vs v2 t2 in let e3 = expr-shorter 5 depth e v2 us t3 in omega (arith, e1, e2, e3)
    stmt-shorter depth (wait p cond q limit c) ts us (vs, t1, (v2, t2, (v3, t3, (v4, t4, (v5, t5, t6))))) =
        let e1 = at-shorter w.WAIT p ts vs t1 in let e2 = at-shorter (named cond) q vs v2 t2 in let e3 = a-shorter w.NO_LONGER_THAN v2 v3 t3 in
        let e4 = constant-shorter limit v3 v4 t4 in let e5 = a-shorter w.COLON v4 v5 t5 in let e6 = constant-shorter c v5 us t6 in omega (arith, e1, e2, e3, e4, e5, e6)
    stmt-shorter depth (signal p cond q) ts us took = at-then w.SIGNAL p (at (named cond) q) (weak (at (named cond) q) (at-shorter (named cond) q)) ts us took
    stmt-shorter depth (broadcast p cond q) ts us took = at-then w.BROADCAST p (at (named cond) q) (weak (at (named cond) q) (at-shorter (named cond) q)) ts us took
    stmt-shorter depth (except p c) ts us took = at-then w.EXCEPT p (IsConstant c) (weak (IsConstant c) (constant-shorter c)) ts us took
    stmt-shorter depth (assert p e) ts us took = at-then w.ASSERT p (IsExpr 5 depth e) (weak (IsExpr 5 depth e) (expr-shorter 5 depth e)) ts us took

    pub stmts-short : (depth : ℕ) (ss : Stmts P) → Short (AreStmts depth ss)
    stmts-short depth no_stmts ts us took = nothing-short ts us took
    stmts-short depth (stmts s ss) ts us (vs, took, more) =
        let e1 = stmt-shorter depth s ts vs took in let e2 = stmts-short depth ss vs us more in omega (arith, e1, e2)
