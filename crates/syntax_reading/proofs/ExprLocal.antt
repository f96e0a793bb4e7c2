-- What is read of an expression up to a token does not depend on what stands behind it, nor on levels of nesting that are not used.
use Rattle.std.proofs.Common.{◌≡◌, ℕ, zero, suc, ◌==◌, ◌≤◌, ◌<◌, inl, inr, List, [], ◌∷◌, ◌++◌, length, Bool, true, false, cond, Result, Ok, Err, Option, Some, None, refl, ap, sym, ◌∙◌, subst, arith}
use Rattle.syntax_tree.specs.Plain.{Name, Op}
use Rattle.syntax_tree.specs.Placed.{Expr, Constant, exprs_of}
use Rattle.syntax.specs.Words as w
use Rattle.syntax.specs.Words.{Word, named, number, keyword, sign, Tok}
use Rattle.syntax_reading.specs.ExprReading.{Fault, ◌>>=◌, Parse, refuse, too_deep, is_at, is_named, is_name, is_literal, expect, name_by, name, numeral, each, signless, unsigned, constant, op_of, of_level, op_at, is_some, next, operand_by, operand_at, turns, operands_at, joined, row_at, level, inside, index, args, named_factor, minus_factor, negation_factor, paren_factor, simple_factor, factor_in, factor, inner, expr, in_parens}
use Rattle.syntax_reading.proofs.Local.{Within, Stays, Moves, within-more, bind-within, Out, Local, Good, Heads, good-ok, bind, either, good-expect, good-name, good-numeral, good-lengths, good-turns, good-parens}

module _ {P : Type 0} (t : Tok P) (a b : List (Tok P)) where
  -- ---- constants

  good-signless : (p : P) (m : Bool) → Good t a b (signless p m) (signless p m)
  unfolding signless
  good-signless p m =
      either t a b is_literal _ _ _ _ (λ u xs ys. refl) (bind t a b numeral numeral _ _ (good-numeral t a b) (λ n. good-ok t a b _)) (bind t a b name name _ _ (good-name t a b) (λ n. good-ok t a b _))

  good-unsigned : Good t a b (unsigned {P = P}) unsigned
  unfolding unsigned
  good-unsigned =
      either t a b is_literal _ _ _ _ (λ u xs ys. refl) (bind t a b numeral numeral _ _ (good-numeral t a b) (λ n. good-ok t a b _)) (bind t a b name name _ _ (good-name t a b) (λ n. good-ok t a b _))

  pub good-constant : Good t a b (constant {P = P}) constant
  unfolding constant
  good-constant = either t a b (is_at w.MINUS) _ _ unsigned unsigned (λ u xs ys. refl) (bind t a b (expect w.MINUS) (expect w.MINUS) _ _ (good-expect t a b w.MINUS) (λ m. good-signless m true)) good-unsigned

  -- ---- rows

  module _ (l : ℕ) (p q : Parse P (Expr P)) (good : Good t a b p q) where
    operand-within : (o : Option Op) (v : List (Tok P)) → Within (operand_by p o v) (length v)
    operand-within None v = omega arith
    operand-within (Some op) v = within-more (operand_by p (Some op) v) (length (next v)) (length v) (next-less v) (bind-within (p (next v)) _ (length (next v)) (good.stays (next v)) (λ x u. omega arith))
      where
        next-less : (v : List (Tok P)) → length (next v) ≤ length v
        next-less [] = omega arith
        next-less (u ∷ v) = omega arith

    operand-out : (o : Option Op) (front : List (Tok P)) → Out t a b (operand_by p o (front ++ t ∷ a)) (operand_by q o (front ++ t ∷ b))
    operand-out None front = inr (inl (_, refl))
    operand-out (Some op) [] = inr (inr (bind-within (p a) _ (length a) (good.stays a) (λ x u. omega arith)))
    operand-out (Some op) (u ∷ front) = (bind t a b p q _ _ good (λ x. good-ok t a b (op, x))).local front

    good-operand : Good t a b (operand_at l p) (operand_at l q)
    unfolding operand_at
    good-operand = record {
      stays = λ v. operand-within (op_at l v) v;
      local = λ front. subst (λ o. Out t a b (operand_at l p (front ++ t ∷ a)) (operand_by q o (front ++ t ∷ b))) (same-op front) (operand-out (op_at l (front ++ t ∷ a)) front);
    }
      where
        same-op : (front : List (Tok P)) → op_at l (front ++ t ∷ a) ≡ op_at l (front ++ t ∷ b)
        same-op [] = refl
        same-op (u ∷ front) = refl

    operand-moves : Moves (operand_at l p)
    unfolding operand_at
    operand-moves [] us x e = cc
    operand-moves (u ∷ ts) us x e = by (of_level l (op_of u.word)) e
      where
        by : (o : Option Op) → operand_by p o (u ∷ ts) ≡ Ok (x, us) → length us < suc (length ts)
        by None e = cc
        by (Some op) e = let h = subst (λ r. Within r (length ts)) e (bind-within (p ts) _ (length ts) (good.stays ts) (λ y v. omega arith)) in omega (arith, h)

    heads-op : Heads t a b (λ us. is_some (op_at l us))
    heads-op u xs ys = refl

    pub good-operands : Good t a b (operands_at l p) (operands_at l q)
    unfolding operands_at
    good-operands = by (l == 3) refl
      where
        by : (c : Bool) → (l == 3) ≡ c → Good t a b (operands_at l p) (operands_at l q)
        by true is =
            subst (λ c. Good t a b (λ ts. each (λ us. is_some (op_at l us)) (operand_at l p) (cond c 1 (length ts)) ts) (λ ts. each (λ us. is_some (op_at l us)) (operand_at l q) (cond c 1 (length ts)) ts))
            (sym is) (good-turns t a b (λ us. is_some (op_at l us)) heads-op (operand_at l p) (operand_at l q) operand-moves good-operand 1)
        by false is =
            subst (λ c. Good t a b (λ ts. each (λ us. is_some (op_at l us)) (operand_at l p) (cond c 1 (length ts)) ts) (λ ts. each (λ us. is_some (op_at l us)) (operand_at l q) (cond c 1 (length ts)) ts))
            (sym is) (good-lengths t a b (λ us. is_some (op_at l us)) heads-op (operand_at l p) (operand_at l q) operand-moves good-operand)

    pub good-row : Good t a b (row_at l p) (row_at l q)
    unfolding row_at
    good-row = bind t a b p q _ _ good (λ e. bind t a b (operands_at l p) (operands_at l q) _ _ good-operands (λ rs. good-ok t a b (joined e rs)))

  pub good-level : (p q : Parse P (Expr P)) → Good t a b p q → (l : ℕ) → Good t a b (level p l) (level q l)
  unfolding level
  good-level p q good zero = good
  good-level p q good (suc l) = good-row (suc l) (level p l) (level q l) (good-level p q good l)

  -- ---- factors

  -- the second may have more levels left
  abbrev pub GoodInner : (o r : Option (Parse P (Expr P))) → Type 0
  GoodInner None r = Unit {0}
  GoodInner (Some f) None = ⊥
  GoodInner (Some f) (Some g) = Good t a b f g

  pub deep : {A : Type 0} (q : Parse P A) → Good t a b too_deep q
  deep q = record { stays = λ v. tt; local = λ front. inr (inr tt) }

  pub good-index : (o r : Option (Parse P (Expr P))) → GoodInner o r → Good t a b (index o) (index r)
  unfolding index
  good-index None r h = deep (index r)
  good-index (Some f) None h = absurd h
  good-index (Some f) (Some g) h =
      bind t a b (expect w.LEFT_BRACKET) (expect w.LEFT_BRACKET) _ _ (good-expect t a b w.LEFT_BRACKET) (λ l. bind t a b (level f 5) (level g 5) _ _ (good-level f g h 5) (λ i.
      bind t a b (expect w.RIGHT_BRACKET) (expect w.RIGHT_BRACKET) _ _ (good-expect t a b w.RIGHT_BRACKET) (λ r. good-ok t a b i)))

  pub good-args : (o r : Option (Parse P (Expr P))) → GoodInner o r → Good t a b (args o) (args r)
  unfolding args
  good-args None r h = deep (args r)
  good-args (Some f) None h = absurd h
  good-args (Some f) (Some g) h = good-parens t a b (level f 5) (level g 5) (good-level f g h 5)

  good-named : (o r : Option (Parse P (Expr P))) → GoodInner o r → (n : Name × P) → Good t a b (named_factor o n) (named_factor r n)
  unfolding named_factor
  good-named o r h n =
      either t a b (is_at w.LEFT_BRACKET) _ _ _ _ (λ u xs ys. refl) (bind t a b (index o) (index r) _ _ (good-index o r h) (λ i. good-ok t a b _))
      (either t a b (is_at w.LEFT_PAREN) _ _ _ _ (λ u xs ys. refl) (bind t a b (args o) (args r) _ _ (good-args o r h) (λ es. good-ok t a b _)) (good-ok t a b _))

  good-minus : (o r : Option (Parse P (Expr P))) → GoodInner o r → Good t a b (minus_factor o) (minus_factor r)
  unfolding minus_factor
  good-minus None r h = deep (minus_factor r)
  good-minus (Some f) None h = absurd h
  good-minus (Some f) (Some g) h = bind t a b (expect w.MINUS) (expect w.MINUS) _ _ (good-expect t a b w.MINUS) (λ m. bind t a b f g _ _ h (λ e. good-ok t a b _))

  good-negation : (o r : Option (Parse P (Expr P))) → GoodInner o r → Good t a b (negation_factor o) (negation_factor r)
  unfolding negation_factor
  good-negation None r h = deep (negation_factor r)
  good-negation (Some f) None h = absurd h
  good-negation (Some f) (Some g) h = bind t a b (expect w.NOT) (expect w.NOT) _ _ (good-expect t a b w.NOT) (λ m. bind t a b f g _ _ h (λ e. good-ok t a b _))

  good-paren : (o r : Option (Parse P (Expr P))) → GoodInner o r → Good t a b (paren_factor o) (paren_factor r)
  unfolding paren_factor
  good-paren None r h = deep (paren_factor r)
  good-paren (Some f) None h = absurd h
  good-paren (Some f) (Some g) h =
      bind t a b (expect w.LEFT_PAREN) (expect w.LEFT_PAREN) _ _ (good-expect t a b w.LEFT_PAREN) (λ l. bind t a b (level f 5) (level g 5) _ _ (good-level f g h 5) (λ e.
      bind t a b (expect w.RIGHT_PAREN) (expect w.RIGHT_PAREN) _ _ (good-expect t a b w.RIGHT_PAREN) (λ r. good-ok t a b _)))

  good-simple : Good t a b (simple_factor {P = P}) simple_factor
  unfolding simple_factor
  good-simple =
      either t a b is_literal _ _ _ _ (λ u xs ys. refl) (bind t a b numeral numeral _ _ (good-numeral t a b) (λ n. good-ok t a b _))
      (either t a b (is_at w.TRUE) _ _ _ _ (λ u xs ys. refl) (bind t a b (expect w.TRUE) (expect w.TRUE) _ _ (good-expect t a b w.TRUE) (λ p. good-ok t a b _))
      (bind t a b (expect w.FALSE) (expect w.FALSE) _ _ (good-expect t a b w.FALSE) (λ p. good-ok t a b _)))

  good-factor-in : (o r : Option (Parse P (Expr P))) → GoodInner o r → Good t a b (factor_in o) (factor_in r)
  unfolding factor_in
  good-factor-in o r h =
      either t a b is_name _ _ _ _ (λ u xs ys. refl) (bind t a b name name _ _ (good-name t a b) (λ n. good-named o r h n))
      (either t a b (is_at w.LEFT_PAREN) _ _ _ _ (λ u xs ys. refl) (good-paren o r h)
      (either t a b (is_at w.MINUS) _ _ _ _ (λ u xs ys. refl) (good-minus o r h)
      (either t a b (is_at w.NOT) _ _ _ _ (λ u xs ys. refl) (good-negation o r h) good-simple)))

  pub good-factor : (d e : ℕ) → d ≤ e → Good t a b (factor {P = P} d) (factor e)
  unfolding factor
  good-factor zero zero less = good-factor-in None None tt
  good-factor zero (suc e) less = good-factor-in None (Some (factor e)) tt
  good-factor (suc d) zero less = absurd (omega (arith, less))
  good-factor (suc d) (suc e) less = good-factor-in (Some (factor d)) (Some (factor e)) (good-factor d e (omega (arith, less)))

  pub good-expr : (d e : ℕ) → d ≤ e → Good t a b (expr {P = P} d) (expr e)
  good-expr d e less = good-level (factor d) (factor e) (good-factor d e less) 5

  pub good-inner : (d e : ℕ) → d ≤ e → GoodInner (inner d) (inner e)
  good-inner zero e less = tt
  good-inner (suc d) zero less = absurd (omega (arith, less))
  good-inner (suc d) (suc e) less = good-factor d e (omega (arith, less))

  -- ---- where the token is a name, an expression that begins with it goes past it

  pub name-past : {B : Type 0} (k : (Name × P) × List (Tok P) → Result (B × List (Tok P)) Fault) → ((x : Name × P) → Stays (λ v. k (x, v))) → is_named t.word ≡ true
      → Within (name (t ∷ a) >>= k) (length a)
  unfolding name
  name-past k s is = by t.word is
    where
      by : (v : Word) → is_named v ≡ true → Within (name_by v t a >>= k) (length a)
      by (named n) is = s (n, t.place) a
      by (number n) is = cc
      by (keyword n) is = cc
      by (sign n) is = cc

  cond-true : {A : Type 0} (c : Bool) (r s : Result (A × List (Tok P)) Fault) (n : ℕ) → c ≡ true → Within r n → Within (cond c r s) n
  cond-true c r s n is h = subst (λ c. Within (cond c r s) n) (sym is) h

  factor-past : (d : ℕ) → is_named t.word ≡ true → Within (factor d (t ∷ a)) (length a)
  unfolding factor factor_in
  factor-past zero is = cond-true (is_named t.word) _ _ (length a) is (name-past (λ n. named_factor None n.0 n.1) (λ n. (good-named None None tt n).stays) is)
  factor-past (suc d) is =
      cond-true (is_named t.word) _ _ (length a) is
      (name-past (λ n. named_factor (Some (factor d)) n.0 n.1) (λ n. (good-named (Some (factor d)) (Some (factor d)) (good-factor d d (omega arith)) n).stays) is)

  level-past : (p : Parse P (Expr P)) → Good t a b p p → Within (p (t ∷ a)) (length a) → (l : ℕ) → Within (level p l (t ∷ a)) (length a)
  unfolding level row_at
  level-past p good past zero = past
  level-past p good past (suc l) =
      bind-within (level p l (t ∷ a)) _ (length a) (level-past p good past l)
      (λ x v. bind-within (operands_at (suc l) (level p l) v) _ (length v) ((good-operands (suc l) (level p l) (level p l) (good-level p p good l)).stays v) (λ y u. omega arith))

  pub expr-past : (d : ℕ) → is_named t.word ≡ true → Within (expr d (t ∷ a)) (length a)
  expr-past d is = level-past (factor d) (good-factor d d (omega arith)) (factor-past d is) 5
