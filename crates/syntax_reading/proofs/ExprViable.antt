-- Before a fault in an expression stands what can be gone on with, with one level of nesting more.
use Rattle.std.proofs.Common.{◌≡◌, ℕ, zero, suc, ◌==◌, ◌≤◌, ◌<◌, ◌⊎◌, inl, inr, List, [], ◌∷◌, ◌++◌, length, Bool, true, false, cond, Result, Ok, Err, Option, Some, None, refl, ap, sym, ◌∙◌, subst, arith}
use Rattle.std.proofs.lemmas.Bool.{eq-eqb}
use Rattle.syntax_tree.specs.Plain.{Name, Op, or, and, equal, add, mul}
use Rattle.syntax_tree.specs.Placed.{Constant, literal_constant, named_constant, Expr, literal, truth, variable, element, call, minus, negation, paren, row, no_exprs, exprs_of}
use Rattle.syntax.specs.Words as w
use Rattle.syntax.specs.Words.{Word, named, number, Tok}
use Rattle.syntax.specs.ExprGrammar.{at, a, ◌▷◌, nothing, Each, Listed, SomeListed, IsConstant, op_word, height, IsRow, OfLevel, IsExpr, AreArgs, AreMoreArgs}
use Rattle.syntax.specs.Opening.{Part, Whole, ◌∪◌, a_name}
use Rattle.syntax_reading.specs.ExprReading.{Fault, syntax, ◌>>=◌, Parse, refuse, is_at, is_name, is_literal, expect, name, numeral, each, signless, unsigned, constant, op_at, is_some, next, operand_by, operand_at, turns, operands_at, operands_from, joined, row_at, level, index, args, named_factor, minus_factor, negation_factor, paren_factor, simple_factor, factor_in, factor, inner, expr, in_parens}
use Rattle.syntax_reading.proofs.Basics.{bind_ok, ok_parts}
use Rattle.syntax_reading.proofs.OpenBasics.{by_step}
use Rattle.syntax_reading.proofs.ExprSound.{op_sound, IsPair, operands-of, wider}
use Rattle.syntax_reading.proofs.Viable as v
use Rattle.syntax_reading.proofs.Viable.{Free, Partial, Via, Few, Implies, bind, imp, last, either, via-ok, via-deep, at-once, some-tok, via-word, via-name, via-numeral, a_number, via-each, via-lengths, via-parens}

module _ {P : Type 0} (o : P) where
  -- ---- constants

  minus-constant : Implies {P = P} (a w.MINUS ▷ a_number ∪ a w.MINUS ▷ a_name) (Whole IsConstant)
  minus-constant ts us (inl (vs, (p, m), (n, (q, t)))) = (literal_constant p true n q, (vs, m, t))
  minus-constant ts us (inr (vs, (p, m), (n, (q, t)))) = (named_constant p true n q, (vs, m, t))

  behind-minus : Implies {P = P} (a w.MINUS ▷ (a_number ∪ a_name)) (Whole IsConstant)
  behind-minus ts us (vs, m, inl n) = minus-constant ts us (inl (vs, m, n))
  behind-minus ts us (vs, m, inr n) = minus-constant ts us (inr (vs, m, n))

  via-signless : (p : P) → Via (signless p true) (a_number ∪ a_name)
  unfolding signless
  via-signless p =
      either is_literal _ _ (a_number ∪ a_name) (imp (a_number ∪ a_name) (λ ts us n. inl n) (last numeral a_number _ (via-numeral o) (λ n. via-ok _)))
      (imp (a_number ∪ a_name) (λ ts us n. inr n) (last name a_name _ (via-name o) (λ n. via-ok _)))

  via-unsigned : Via (unsigned {P = P}) (Whole IsConstant)
  unfolding unsigned
  via-unsigned =
      either is_literal _ _ (Whole IsConstant) (imp (Whole IsConstant) (λ ts us (n, (p, t)). (literal_constant p false n p, (refl, t))) (last numeral a_number _ (via-numeral o) (λ n. via-ok _)))
      (imp (Whole IsConstant) (λ ts us (n, (p, t)). (named_constant p false n p, (refl, t))) (last name a_name _ (via-name o) (λ n. via-ok _)))

  pub via-constant : Via (constant {P = P}) (Whole IsConstant)
  unfolding constant
  via-constant =
      either (is_at w.MINUS) _ _ (Whole IsConstant) (imp (Whole IsConstant) behind-minus (bind (expect w.MINUS) (a w.MINUS) (a_number ∪ a_name) _ (via-word o w.MINUS) (λ p. via-signless p))) via-unsigned

  -- ---- rows

  -- an operator of each level
  an-op : (l : ℕ) → l < 5 → (op : Op) × (height op ≡ suc l)
  an-op zero less = (mul, refl)
  an-op (suc zero) less = (add, refl)
  an-op (suc (suc zero)) less = (equal, refl)
  an-op (suc (suc (suc zero))) less = (and, refl)
  an-op (suc (suc (suc (suc zero)))) less = (or, refl)
  an-op (suc (suc (suc (suc (suc l))))) less = absurd (omega (arith, less))

  -- operators with operands; a comparison has one
  abbrev Pairs : ℕ → ℕ → Part P
  Pairs l d ts us = (rs : List (Op × Expr P)) × (suc l ≡ 3 → length rs ≤ 1) × Each (IsPair l d) rs ts us

  single : (l : ℕ) (r : Op × Expr P) (rs : List (Op × Expr P)) → (l ≡ 3 → length (r ∷ rs) ≤ 1) → IsRow l (operands_from (r ∷ rs))
  single l r [] few = tt
  single l r (s ∷ rs) few = λ three. let h = few three in absurd (omega (arith, h))

  row-whole : (l d : ℕ) → Implies {P = P} (Whole (IsExpr l d) ▷ Pairs l d) (Whole (IsExpr (suc l) d))
  row-whole l d ts us (vs, (e, took), ([], few, more)) = (e, wider l d e ts us (subst (λ u. IsExpr l d e ts u) more took))
  row-whole l d ts us (vs, (e, took), (r ∷ rs, few, more)) =
      (row e (operands_from (r ∷ rs)), (l, omega arith, single (suc l) r rs few, (vs, took, operands-of l d (r ∷ rs) vs us more)))

  module _ (l d : ℕ) (less : l < 5) (p : Parse P (Expr P)) (h : Via p (Whole (IsExpr l d))) where
    pair-some : v.Some (Whole (IsPair {P = P} l d))
    pair-some =
        let op = an-op l less in
        record { more = some-tok o (op_word op.0) ∷ h.some.more; fits = λ us. let e = h.some.fits us in ((op.0, e.0), (h.some.more ++ us, (op.1, (o, refl)), e.1)) }

    pair-free : (op : Op) (ts : List (Tok P)) (vs : List (Tok P)) → OfLevel (suc l) op ts (next ts) → Free (Whole (IsExpr l d)) (next ts) vs → Free (Whole (IsPair l d)) ts vs
    pair-free op ts vs (high, (q, took)) r = record {
      front = record { word = op_word op; place = q } ∷ r.front;
      is = took ∙ ap (λ x. record { word = op_word op; place = q } ∷ x) r.is;
      fits = λ us. let e = r.fits us in ((op, e.0), (r.front ++ us, (high, (q, refl)), e.1));
    }

    pair-partial : (op : Op) (ts : List (Tok P)) (n : ℕ) → OfLevel (suc l) op ts (next ts) → Partial (Whole (IsExpr l d)) (next ts) n → Partial (Whole (IsPair l d)) ts n
    pair-partial op ts n (high, (q, took)) r = record {
      front = record { word = op_word op; place = q } ∷ r.front;
      rest = r.rest;
      more = r.more;
      is = took ∙ ap (λ x. record { word = op_word op; place = q } ∷ x) r.is;
      left = r.left;
      fits = λ us. let e = r.fits us in ((op, e.0), (r.front ++ (r.more ++ us), (high, (q, refl)), e.1));
    }

    free-by : (x : Option Op) (ts vs : List (Tok P)) (r : Op × Expr P) → op_at (suc l) ts ≡ x → operand_by p x ts ≡ Ok (r, vs) → Free (Whole (IsPair l d)) ts vs
    free-by None ts vs r is e = cc
    free-by (Some op) ts vs r is e =
        let x = bind_ok (p (next ts)) _ _ e in
        let same = (ok_parts ((op, x.0.0), x.0.1) (r, vs) x.2).1 in
        pair-free op ts vs (op_sound (suc l) ts op is) (subst (λ u. Free (Whole (IsExpr l d)) (next ts) u) same (h.free (next ts) x.0.1 x.0.0 x.1))

    viable-by : (x : Option Op) (ts : List (Tok P)) (n : ℕ) → op_at (suc l) ts ≡ x → operand_by p x ts ≡ Err (syntax n) → Partial (Whole (IsPair l d)) ts n
    viable-by None ts n is e = at-once (Whole (IsPair l d)) pair-some ts n cc
    viable-by (Some op) ts n is e =
        by_step (p (next ts)) _ (syntax n) (λ bad. pair-partial op ts n (op_sound (suc l) ts op is) (h.viable (next ts) n bad)) (λ x good e. cc) e

    via-operand : Via (operand_at (suc l) p) (Whole (IsPair l d))
    unfolding operand_at
    via-operand = record {
      value = ((an-op l less).0, h.value);
      some = pair-some;
      free = λ ts vs r e. free-by (op_at (suc l) ts) ts vs r refl e;
      viable = λ ts n e. viable-by (op_at (suc l) ts) ts n refl e;
    }

    via-operands : Via (operands_at (suc l) p) (Pairs l d)
    unfolding operands_at
    via-operands = by (suc l == 3) refl
      where
        by : (c : Bool) → (suc l == 3) ≡ c → Via (operands_at (suc l) p) (Pairs l d)
        by true is =
            subst (λ c. Via (λ ts. each (λ us. is_some (op_at (suc l) us)) (operand_at (suc l) p) (cond c 1 (length ts)) ts) (Pairs l d)) (sym is)
            (imp (Pairs l d) (λ ts us (rs, few, took). (rs, (λ three. few), took)) (via-each (λ us. is_some (op_at (suc l) us)) (operand_at (suc l) p) (IsPair l d) via-operand 1))
        by false is =
            subst (λ c. Via (λ ts. each (λ us. is_some (op_at (suc l) us)) (operand_at (suc l) p) (cond c 1 (length ts)) ts) (Pairs l d)) (sym is)
            (imp (Pairs l d) (λ ts us (rs, took). (rs, (λ three. let yes = eq-eqb (suc l) 3 three in cc), took)) (via-lengths (λ us. is_some (op_at (suc l) us)) (operand_at (suc l) p) (IsPair l d) via-operand))

    via-row : Via (row_at (suc l) p) (Whole (IsExpr (suc l) d))
    unfolding row_at
    via-row =
        imp (Whole (IsExpr (suc l) d)) (row-whole l d)
        (bind p (Whole (IsExpr l d)) (Pairs l d) _ h (λ e. last (operands_at (suc l) p) (Pairs l d) _ via-operands (λ rs. via-ok (joined e rs))))

  pub via-level : (d : ℕ) (p : Parse P (Expr P)) → Via p (Whole (IsExpr 0 d)) → (l : ℕ) → l ≤ 5 → Via (level p l) (Whole (IsExpr l d))
  unfolding level
  via-level d p h zero less = h
  via-level d p h (suc l) less = via-row l d (omega (arith, less)) (level p l) (via-level d p h l (omega (arith, less)))

  -- ---- factors

  abbrev pub InnerVia : Option (Parse P (Expr P)) → ℕ → Type 0
  InnerVia None d = Unit {0}
  InnerVia (Some f) d = Via f (Whole (IsExpr 0 d))

  abbrev pub IndexPart : ℕ → Part P
  IndexPart d = a w.LEFT_BRACKET ▷ Whole (IsExpr 5 d) ▷ a w.RIGHT_BRACKET

  abbrev pub ArgsPart : ℕ → Part P
  ArgsPart d = Whole (λ es. a w.LEFT_PAREN ▷ AreArgs d es ▷ a w.RIGHT_PAREN)

  index-some : (d : ℕ) → v.Some (IndexPart d)
  index-some d = record {
    more = some-tok o w.LEFT_BRACKET ∷ some-tok o (number 0) ∷ some-tok o w.RIGHT_BRACKET ∷ [];
    fits = λ us. (_, (o, refl), (_, (literal o 0, refl), (o, refl)));
  }

  pub args-some : (d : ℕ) → v.Some (ArgsPart d)
  args-some d = record {
    more = some-tok o w.LEFT_PAREN ∷ some-tok o w.RIGHT_PAREN ∷ [];
    fits = λ us. (no_exprs, (_, (o, refl), (_, refl, (o, refl))));
  }

  pub via-index : (i : Option (Parse P (Expr P))) (d : ℕ) → InnerVia i d → Via (index i) (IndexPart d)
  unfolding index
  via-index None d h = via-deep (literal o 0) (IndexPart d) (index-some d)
  via-index (Some f) d h =
      bind (expect w.LEFT_BRACKET) (a w.LEFT_BRACKET) _ _ (via-word o w.LEFT_BRACKET) (λ l. bind (level f 5) (Whole (IsExpr 5 d)) _ _ (via-level d f h 5 (omega arith)) (λ e.
      last (expect w.RIGHT_BRACKET) (a w.RIGHT_BRACKET) _ (via-word o w.RIGHT_BRACKET) (λ r. via-ok e)))

  more-of : (d : ℕ) (xs : List (Expr P)) (ts us : List (Tok P)) → Each (λ e. a w.COMMA ▷ IsExpr 5 d e) xs ts us → AreMoreArgs d (exprs_of xs) ts us
  more-of d [] ts us took = took
  more-of d (x ∷ xs) ts us (vs, (v2, c, took), more) = (v2, c, (vs, took, more-of d xs vs us more))

  args-of : (d : ℕ) (xs : List (Expr P)) (ts us : List (Tok P)) → SomeListed (IsExpr 5 d) xs ts us → AreArgs d (exprs_of xs) ts us
  args-of d [] ts us took = took
  args-of d (x ∷ xs) ts us (vs, took, more) = (vs, took, more-of d xs vs us more)

  pub via-args : (i : Option (Parse P (Expr P))) (d : ℕ) → InnerVia i d → Via (args i) (ArgsPart d)
  unfolding args
  via-args None d h = via-deep [] (ArgsPart d) (args-some d)
  via-args (Some f) d h =
      imp (ArgsPart d) (λ ts us (v1, l, (v2, (xs, took), r)). (exprs_of xs, (v1, l, (v2, args-of d xs v1 v2 took, r))))
      (via-parens o (level f 5) (IsExpr 5 d) (via-level d f h 5 (omega arith)))

  abbrev NamedPart : ℕ → Part P
  NamedPart d = IndexPart d ∪ ArgsPart d ∪ nothing

  via-named : (i : Option (Parse P (Expr P))) (d : ℕ) → InnerVia i d → (n : Name × P) → Via (named_factor i n) (NamedPart d)
  unfolding named_factor
  via-named i d h n =
      either (is_at w.LEFT_BRACKET) _ _ (NamedPart d) (imp (NamedPart d) (λ ts us x. inl x) (last (index i) (IndexPart d) _ (via-index i d h) (λ e. via-ok _)))
      (either (is_at w.LEFT_PAREN) _ _ (NamedPart d) (imp (NamedPart d) (λ ts us x. inr (inl x)) (last (args i) (ArgsPart d) _ (via-args i d h) (λ es. via-ok _)))
      (imp (NamedPart d) (λ ts us x. inr (inr x)) (via-ok _)))

  named-whole : (d : ℕ) → Implies {P = P} (a_name ▷ NamedPart d) (Whole (IsExpr 0 (suc d)))
  named-whole d ts us (vs, (n, (p, t)), inl (v1, l, (v2, (e, x), r))) = (element p n e, (vs, t, (v1, l, (v2, x, r))))
  named-whole d ts us (vs, (n, (p, t)), inr (inl (es, x))) = (call p n es, (vs, t, x))
  named-whole d ts us (vs, (n, (p, t)), inr (inr same)) = (variable p n, subst (λ u. at (named n) p ts u) same t)

  via-minus : (i : Option (Parse P (Expr P))) (d : ℕ) → InnerVia i d → Via (minus_factor i) (Whole (IsExpr 0 (suc d)))
  unfolding minus_factor
  via-minus None d h =
      via-deep (literal o 0) (Whole (IsExpr 0 (suc d)))
      (record { more = some-tok o w.MINUS ∷ some-tok o (number 0) ∷ []; fits = λ us. (minus o (literal o 0), (_, refl, refl)) })
  via-minus (Some f) d h =
      imp (Whole (IsExpr 0 (suc d))) (λ ts us (vs, (p, t), (e, x)). (minus p e, (vs, t, x)))
      (bind (expect w.MINUS) (a w.MINUS) (Whole (IsExpr 0 d)) _ (via-word o w.MINUS) (λ m. last f (Whole (IsExpr 0 d)) _ h (λ e. via-ok _)))

  via-negation : (i : Option (Parse P (Expr P))) (d : ℕ) → InnerVia i d → Via (negation_factor i) (Whole (IsExpr 0 (suc d)))
  unfolding negation_factor
  via-negation None d h =
      via-deep (literal o 0) (Whole (IsExpr 0 (suc d)))
      (record { more = some-tok o w.NOT ∷ some-tok o (number 0) ∷ []; fits = λ us. (negation o (literal o 0), (_, refl, refl)) })
  via-negation (Some f) d h =
      imp (Whole (IsExpr 0 (suc d))) (λ ts us (vs, (p, t), (e, x)). (negation p e, (vs, t, x)))
      (bind (expect w.NOT) (a w.NOT) (Whole (IsExpr 0 d)) _ (via-word o w.NOT) (λ m. last f (Whole (IsExpr 0 d)) _ h (λ e. via-ok _)))

  via-paren : (i : Option (Parse P (Expr P))) (d : ℕ) → InnerVia i d → Via (paren_factor i) (Whole (IsExpr 0 (suc d)))
  unfolding paren_factor
  via-paren None d h =
      via-deep (literal o 0) (Whole (IsExpr 0 (suc d)))
      (record {
        more = some-tok o w.LEFT_PAREN ∷ some-tok o (number 0) ∷ some-tok o w.RIGHT_PAREN ∷ [];
        fits = λ us. (paren o (literal o 0), (_, refl, (_, refl, (o, refl))));
      })
  via-paren (Some f) d h =
      imp (Whole (IsExpr 0 (suc d))) (λ ts us (v1, (p, t), (v2, (e, x), r)). (paren p e, (v1, t, (v2, x, r))))
      (bind (expect w.LEFT_PAREN) (a w.LEFT_PAREN) (Whole (IsExpr 5 d) ▷ a w.RIGHT_PAREN) _ (via-word o w.LEFT_PAREN) (λ l.
      bind (level f 5) (Whole (IsExpr 5 d)) (a w.RIGHT_PAREN) _ (via-level d f h 5 (omega arith)) (λ e. last (expect w.RIGHT_PAREN) (a w.RIGHT_PAREN) _ (via-word o w.RIGHT_PAREN) (λ r. via-ok _))))

  via-simple : (d : ℕ) → Via (simple_factor {P = P}) (Whole (IsExpr 0 d))
  unfolding simple_factor
  via-simple d =
      either is_literal _ _ (Whole (IsExpr 0 d)) (imp (Whole (IsExpr 0 d)) (λ ts us (n, (p, t)). (literal p n, t)) (last numeral a_number _ (via-numeral o) (λ n. via-ok _)))
      (either (is_at w.TRUE) _ _ (Whole (IsExpr 0 d)) (imp (Whole (IsExpr 0 d)) (λ ts us (p, t). (truth p true, t)) (last (expect w.TRUE) (a w.TRUE) _ (via-word o w.TRUE) (λ p. via-ok _)))
      (imp (Whole (IsExpr 0 d)) (λ ts us (p, t). (truth p false, t)) (last (expect w.FALSE) (a w.FALSE) _ (via-word o w.FALSE) (λ p. via-ok _))))

  via-factor-in : (i : Option (Parse P (Expr P))) (d : ℕ) → InnerVia i d → Via (factor_in i) (Whole (IsExpr 0 (suc d)))
  unfolding factor_in
  via-factor-in i d h =
      either is_name _ _ (Whole (IsExpr 0 (suc d))) (imp (Whole (IsExpr 0 (suc d))) (named-whole d) (bind name a_name (NamedPart d) _ (via-name o) (λ n. via-named i d h n)))
      (either (is_at w.LEFT_PAREN) _ _ (Whole (IsExpr 0 (suc d))) (via-paren i d h) (either (is_at w.MINUS) _ _ (Whole (IsExpr 0 (suc d))) (via-minus i d h)
      (either (is_at w.NOT) _ _ (Whole (IsExpr 0 (suc d))) (via-negation i d h) (via-simple (suc d)))))

  pub via-factor : (d : ℕ) → Via (factor {P = P} d) (Whole (IsExpr 0 (suc d)))
  unfolding factor
  via-factor zero = via-factor-in None zero tt
  via-factor (suc d) = via-factor-in (Some (factor d)) (suc d) (via-factor d)

  pub via-expr : (d : ℕ) → Via (expr {P = P} d) (Whole (IsExpr 5 (suc d)))
  via-expr d = via-level (suc d) (factor d) (via-factor d) 5 (omega arith)

  pub via-inner : (d : ℕ) → InnerVia (inner d) d
  via-inner zero = tt
  via-inner (suc d) = via-factor d
