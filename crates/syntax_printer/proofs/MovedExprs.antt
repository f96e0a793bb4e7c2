-- The tokens of expressions, in other places.
use Rattle.std.proofs.Common.{◌≡◌, ℕ, zero, suc, true, false, refl}
use Rattle.syntax_tree.specs.Plain.{Op}
use Rattle.syntax_tree.specs.Placed.{Constant, literal_constant, named_constant, Expr, literal, truth, variable, element, call, minus, negation, paren, row, Exprs, no_exprs, exprs, Operands, no_operands, operand, Ref, whole, part}
use Rattle.syntax_tree.specs.Bare.{bare_constant, bare_expr, bare_exprs, bare_operands, bare_ref}
use Rattle.syntax.specs.Words as w
use Rattle.syntax.specs.Words.{Word, named, number, Tok, words_of}
use Rattle.syntax.specs.ExprGrammar.{IsRow, OfLevel, IsConstant, op_word, IsExpr, AreOperands, AreArgs, AreMoreArgs, InParens}
use Rattle.syntax.specs.StmtGrammar.{IsRef}
use Rattle.syntax_printer.proofs.Moves.{Moves, at-moves, a-moves, nothing-moves, unsigned-moves, ◌⋆◌, never-moves, made}

-- a row of the same operators is a row
still-row : {P Q : Type 0} (level : ℕ) (rs : Operands P) (h : Operands Q) → bare_operands h ≡ bare_operands rs → IsRow level rs → IsRow level h
still-row level no_operands h same is = absurd is
still-row level (operand op e more) no_operands same is = cc
still-row level (operand op e no_operands) (operand o f no_operands) same is = tt
still-row level (operand op e no_operands) (operand o f (operand o_2 f_2 others)) same is = cc
still-row level (operand op e (operand op_2 e_2 more)) (operand o f no_operands) same is = cc
still-row level (operand op e (operand op_2 e_2 more)) (operand o f (operand o_2 f_2 others)) same is = is

module _ {P Q : Type 0} where
  pub constant-moves : (c : Constant P) → Moves {P = P} {Q = Q} {Y = Constant Q} (IsConstant c) IsConstant (λ d. bare_constant d ≡ bare_constant c)
  constant-moves (literal_constant p true n q) =
      made (at-moves w.MINUS p ⋆ at-moves (number n) q)
      (λ y. literal_constant y.one true n y.two) (λ y os vs t. t) (λ y l. refl)
  constant-moves (literal_constant p false n q) =
      made (unsigned-moves (number n) p q)
      (λ y. literal_constant y false n y) (λ y os vs t. t) (λ y l. refl)
  constant-moves (named_constant p true n q) =
      made (at-moves w.MINUS p ⋆ at-moves (named n) q)
      (λ y. named_constant y.one true n y.two) (λ y os vs t. t) (λ y l. refl)
  constant-moves (named_constant p false n q) =
      made (unsigned-moves (named n) p q)
      (λ y. named_constant y false n y) (λ y os vs t. t) (λ y l. refl)

  op-moves : (level : ℕ) (op : Op) → Moves {P = P} {Q = Q} {Y = Unit {0}} (OfLevel level op) (λ y. OfLevel level op) (λ y. Unit {0})
  op-moves level op = record {
    move = λ ts us took os same.
        let it = (a-moves (op_word op)).move ts us took.1 os same in
        record { y = tt; vs = it.vs; takes = (took.0, it.takes); words = it.words; like = tt };
  }

  mutual
    pub expr-moves : (l depth : ℕ) (e : Expr P) → Moves {P = P} {Q = Q} {Y = Expr Q} (IsExpr l depth e) (IsExpr l depth) (λ h. bare_expr h ≡ bare_expr e)
    expr-moves l depth (literal p n) =
        made (at-moves (number n) p)
        (λ y. literal y n) (λ y os vs t. t) (λ y l. refl)
    expr-moves l depth (truth p true) =
        made (at-moves w.TRUE p)
        (λ y. truth y true) (λ y os vs t. t) (λ y l. refl)
    expr-moves l depth (truth p false) =
        made (at-moves w.FALSE p)
        (λ y. truth y false) (λ y os vs t. t) (λ y l. refl)
    expr-moves l depth (variable p n) =
        made (at-moves (named n) p)
        (λ y. variable y n) (λ y os vs t. t) (λ y l. refl)
    expr-moves l zero (element p n e) = never-moves (λ ts us took. took.2)
    expr-moves l (suc depth) (element p n e) =
        made (at-moves (named n) p ⋆ a-moves w.LEFT_BRACKET ⋆ expr-moves 5 depth e ⋆ a-moves w.RIGHT_BRACKET)
        (λ y. element y.one n y.two.two.one) (λ y os vs t. t) (λ y l. let e_like = l.two.two.one in λ i. element tt n (e_like i))
    expr-moves l zero (call p n es) = never-moves (λ ts us took. took.2)
    expr-moves l (suc depth) (call p n es) =
        made (at-moves (named n) p ⋆ a-moves w.LEFT_PAREN ⋆ args-moves depth es ⋆ a-moves w.RIGHT_PAREN)
        (λ y. call y.one n y.two.two.one) (λ y os vs t. t) (λ y l. let es_like = l.two.two.one in λ i. call tt n (es_like i))
    expr-moves l zero (minus p e) = never-moves (λ ts us took. took)
    expr-moves l (suc depth) (minus p e) =
        made (at-moves w.MINUS p ⋆ expr-moves 0 depth e)
        (λ y. minus y.one y.two) (λ y os vs t. t) (λ y l. let e_like = l.two in λ i. minus tt (e_like i))
    expr-moves l zero (negation p e) = never-moves (λ ts us took. took)
    expr-moves l (suc depth) (negation p e) =
        made (at-moves w.NOT p ⋆ expr-moves 0 depth e)
        (λ y. negation y.one y.two) (λ y os vs t. t) (λ y l. let e_like = l.two in λ i. negation tt (e_like i))
    expr-moves l zero (paren p e) = never-moves (λ ts us took. took)
    expr-moves l (suc depth) (paren p e) =
        made (at-moves w.LEFT_PAREN p ⋆ expr-moves 5 depth e ⋆ a-moves w.RIGHT_PAREN)
        (λ y. paren y.one y.two.one) (λ y os vs t. t) (λ y l. let e_like = l.two.one in λ i. paren tt (e_like i))
    expr-moves l depth (row e rs) = record {
      move = λ ts us took os same.
          let m = took.0 in
          let it = (expr-moves m depth e ⋆ operands-moves m depth rs).move ts us took.3 os same in
          let first = it.like.one in
          let rest = it.like.two in
          record {
            y = row it.y.one it.y.two;
            vs = it.vs;
            takes = (m, took.1, still-row (suc m) rs it.y.two rest took.2, it.takes);
            words = it.words;
            like = λ i. row (first i) (rest i);
          };
    }

    operands-moves : (l depth : ℕ) (rs : Operands P) → Moves {P = P} {Q = Q} {Y = Operands Q} (AreOperands l depth rs) (AreOperands l depth) (λ h. bare_operands h ≡ bare_operands rs)
    operands-moves l depth no_operands = made nothing-moves (λ y. no_operands) (λ y os vs t. t) (λ y l. refl)
    operands-moves l depth (operand op e rs) =
        made (op-moves (suc l) op ⋆ expr-moves l depth e ⋆ operands-moves l depth rs)
        (λ y. operand op y.two.one y.two.two) (λ y os vs t. t) (λ y l. let e_like = l.two.one in let rs_like = l.two.two in λ i. operand op (e_like i) (rs_like i))

    args-moves : (depth : ℕ) (es : Exprs P) → Moves {P = P} {Q = Q} {Y = Exprs Q} (AreArgs depth es) (AreArgs depth) (λ h. bare_exprs h ≡ bare_exprs es)
    args-moves depth no_exprs = made nothing-moves (λ y. no_exprs) (λ y os vs t. t) (λ y l. refl)
    args-moves depth (exprs e es) =
        made (expr-moves 5 depth e ⋆ more-moves depth es)
        (λ y. exprs y.one y.two) (λ y os vs t. t) (λ y l. let e_like = l.one in let es_like = l.two in λ i. exprs (e_like i) (es_like i))

    more-moves : (depth : ℕ) (es : Exprs P) → Moves {P = P} {Q = Q} {Y = Exprs Q} (AreMoreArgs depth es) (AreMoreArgs depth) (λ h. bare_exprs h ≡ bare_exprs es)
    more-moves depth no_exprs = made nothing-moves (λ y. no_exprs) (λ y os vs t. t) (λ y l. refl)
    more-moves depth (exprs e es) =
        made (a-moves w.COMMA ⋆ expr-moves 5 depth e ⋆ more-moves depth es)
        (λ y. exprs y.two.one y.two.two) (λ y os vs t. t) (λ y l. let e_like = l.two.one in let es_like = l.two.two in λ i. exprs (e_like i) (es_like i))

  pub parens-moves : (depth : ℕ) (es : Exprs P) → Moves {P = P} {Q = Q} {Y = Exprs Q} (InParens depth es) (InParens depth) (λ h. bare_exprs h ≡ bare_exprs es)
  parens-moves zero es = never-moves (λ ts us took. took)
  parens-moves (suc depth) es =
      made (a-moves w.LEFT_PAREN ⋆ args-moves depth es ⋆ a-moves w.RIGHT_PAREN)
      (λ y. y.two.one) (λ y os vs t. t) (λ y l. let es_like = l.two.one in λ i. es_like i)

  pub ref-moves : (depth : ℕ) (r : Ref P) → Moves {P = P} {Q = Q} {Y = Ref Q} (IsRef depth r) (IsRef depth) (λ h. bare_ref h ≡ bare_ref r)
  ref-moves depth (whole p n) =
      made (at-moves (named n) p)
      (λ y. whole y n) (λ y os vs t. t) (λ y l. refl)
  ref-moves zero (part p n e) = never-moves (λ ts us took. took.2)
  ref-moves (suc depth) (part p n e) =
      made (at-moves (named n) p ⋆ a-moves w.LEFT_BRACKET ⋆ expr-moves 5 depth e ⋆ a-moves w.RIGHT_BRACKET)
      (λ y. part y.one n y.two.two.one) (λ y os vs t. t) (λ y l. let e_like = l.two.two.one in λ i. part tt n (e_like i))
