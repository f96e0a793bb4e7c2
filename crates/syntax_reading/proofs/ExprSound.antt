-- What is read as an expression has the tokens of its tree.
use Rattle.std.proofs.Common.{◌≡◌, ℕ, zero, suc, ◌≤◌, List, [], ◌∷◌, length, true, false, nat_eq, Result, Ok, Option, Some, None, refl, ap, sym, subst, arith}
use Rattle.std.proofs.lemmas.Bool.{eqb-true}
use Rattle.syntax_tree.specs.Plain.{Name, Op, or, and, equal, unequal, less, less_equal, greater, greater_equal, add, sub, mul, div, remainder}
use Rattle.syntax_tree.specs.Placed.{literal_constant, named_constant, Expr, literal, truth, variable, element, call, minus, negation, paren, row, exprs_of}
use Rattle.syntax.specs.Words as w
use Rattle.syntax.specs.Words.{Word, named, number, keyword, sign, Tok}
use Rattle.syntax.specs.ExprGrammar.{a, ◌▷◌, Each, SomeListed, Deeper, IsConstant, op_word, height, IsRow, OfLevel, IsExpr, AreOperands, AreArgs, AreMoreArgs, InParens}
use Rattle.syntax_reading.specs.ExprReading.{Fault, Parse, same_word, is_at, is_name, is_literal, expect, name, numeral, signless, unsigned, constant, op_of, of_level, op_at, is_some, next, operand_by, operand_at, turns, operands_at, operands_from, joined, row_at, level, index, args, named_factor, minus_factor, negation_factor, paren_factor, simple_factor, factor_in, factor, inner, expr}
use Rattle.syntax_reading.proofs.Basics.{bind_ok, by_if, same-word, Sound, done, expect_sound, a_sound, name_sound, numeral_sound, each_sound, each_few, in_parens_sound}

-- ---- operators

found : (v : Word) (o op : Op) → v ≡ op_word o → Some o ≡ Some op → v ≡ op_word op
found v o op is e = let same : o ≡ op = cc in subst (λ x. v ≡ op_word x) same is

op_word-of : (v : Word) (op : Op) → op_of v ≡ Some op → v ≡ op_word op
op_word-of (named n) op e = cc
op_word-of (number n) op e = cc
op_word-of (keyword k) op e =
    by_if (same_word (keyword k) w.OR) _ _ _ (λ is e. found (keyword k) or op (same-word (keyword k) w.OR is) e) (λ not e.
    by_if (same_word (keyword k) w.AND) _ _ _ (λ is e. found (keyword k) and op (same-word (keyword k) w.AND is) e) (λ not e.
    by_if (same_word (keyword k) w.DIV) _ _ _ (λ is e. found (keyword k) div op (same-word (keyword k) w.DIV is) e) (λ not e.
    by_if (same_word (keyword k) w.MOD) _ _ _ (λ is e. found (keyword k) remainder op (same-word (keyword k) w.MOD is) e) (λ not e. cc) e) e) e) e
op_word-of (sign s) op e =
    by_if (same_word (sign s) w.EQUAL) _ _ _ (λ is e. found (sign s) equal op (same-word (sign s) w.EQUAL is) e) (λ not e.
    by_if (same_word (sign s) w.UNEQUAL) _ _ _ (λ is e. found (sign s) unequal op (same-word (sign s) w.UNEQUAL is) e) (λ not e.
    by_if (same_word (sign s) w.LESS) _ _ _ (λ is e. found (sign s) less op (same-word (sign s) w.LESS is) e) (λ not e.
    by_if (same_word (sign s) w.LESS_EQUAL) _ _ _ (λ is e. found (sign s) less_equal op (same-word (sign s) w.LESS_EQUAL is) e) (λ not e.
    by_if (same_word (sign s) w.GREATER) _ _ _ (λ is e. found (sign s) greater op (same-word (sign s) w.GREATER is) e) (λ not e.
    by_if (same_word (sign s) w.GREATER_EQUAL) _ _ _ (λ is e. found (sign s) greater_equal op (same-word (sign s) w.GREATER_EQUAL is) e) (λ not e.
    by_if (same_word (sign s) w.PLUS) _ _ _ (λ is e. found (sign s) add op (same-word (sign s) w.PLUS is) e) (λ not e.
    by_if (same_word (sign s) w.MINUS) _ _ _ (λ is e. found (sign s) sub op (same-word (sign s) w.MINUS is) e) (λ not e.
    by_if (same_word (sign s) w.TIMES) _ _ _ (λ is e. found (sign s) mul op (same-word (sign s) w.TIMES is) e) (λ not e. cc) e) e) e) e) e) e) e) e) e

of_level-some : (h : ℕ) (o : Option Op) (op : Op) → of_level h o ≡ Some op → (o ≡ Some op) × (height op ≡ h)
of_level-some h None op e = cc
of_level-some h (Some o) op e =
    by_if (nat_eq (height o) h) _ _ _
    (λ is e. let same : o ≡ op = cc in (ap (λ x. Some x) same, subst (λ x. height x ≡ h) same (eqb-true (height o) h is))) (λ is e. cc) e

module _ {P : Type 0} where
  pub op_sound : (h : ℕ) (ts : List (Tok P)) (op : Op) → op_at h ts ≡ Some op → OfLevel h op ts (next ts)
  op_sound h [] op e = cc
  op_sound h (t ∷ ts) op e =
      let is = of_level-some h (op_of t.word) op e in
      (is.1, (t.place, ap (λ v. record { word = v; place = t.place } ∷ ts) (op_word-of t.word op is.0)))

  -- ---- constants

  signless_sound : (p : P) → Sound (signless p true) (λ c ts us. IsConstant c (record { word = w.MINUS; place = p } ∷ ts) us)
  unfolding signless
  signless_sound p ts us c e =
      by_if (is_literal ts) _ _ _
      (λ is e.
      let n = bind_ok (numeral ts) _ _ e in
      done (λ c ts us. IsConstant c (record { word = w.MINUS; place = p } ∷ ts) us) ts (literal_constant p true n.0.0.0 n.0.0.1) c n.0.1 us
      (ts, refl, numeral_sound ts n.0.1 n.0.0 n.1) n.2)
      (λ is e.
      let n = bind_ok (name ts) _ _ e in
      done (λ c ts us. IsConstant c (record { word = w.MINUS; place = p } ∷ ts) us) ts (named_constant p true n.0.0.0 n.0.0.1) c n.0.1 us
      (ts, refl, name_sound ts n.0.1 n.0.0 n.1) n.2) e

  unsigned_sound : Sound (unsigned {P = P}) IsConstant
  unfolding unsigned
  unsigned_sound ts us c e =
      by_if (is_literal ts) _ _ _
      (λ is e.
      let n = bind_ok (numeral ts) _ _ e in
      done IsConstant ts (literal_constant n.0.0.1 false n.0.0.0 n.0.0.1) c n.0.1 us (refl, numeral_sound ts n.0.1 n.0.0 n.1) n.2)
      (λ is e.
      let n = bind_ok (name ts) _ _ e in
      done IsConstant ts (named_constant n.0.0.1 false n.0.0.0 n.0.0.1) c n.0.1 us (refl, name_sound ts n.0.1 n.0.0 n.1) n.2) e

  pub constant_sound : Sound (constant {P = P}) IsConstant
  unfolding constant
  constant_sound ts us c e =
      by_if (is_at w.MINUS ts) _ _ _
      (λ is e.
      let m = bind_ok (expect w.MINUS ts) _ _ e in
      subst (λ x. IsConstant c x us) (sym (expect_sound w.MINUS ts m.0.1 m.0.0 m.1)) (signless_sound m.0.0 m.0.1 us c m.2))
      (λ is e. unsigned_sound ts us c e) e

  -- ---- rows

  -- one more level up holds what the level below holds
  pub wider : (l depth : ℕ) (e : Expr P) (ts us : List (Tok P)) → IsExpr l depth e ts us → IsExpr (suc l) depth e ts us
  wider l depth (literal p n) ts us took = took
  wider l depth (truth p true) ts us took = took
  wider l depth (truth p false) ts us took = took
  wider l depth (variable p n) ts us took = took
  wider l depth (element p n i) ts us took = took
  wider l depth (call p n es) ts us took = took
  wider l depth (minus p e) ts us took = took
  wider l depth (negation p e) ts us took = took
  wider l depth (paren p e) ts us took = took
  wider l depth (row e rs) ts us (m, within, shape, took) = (m, omega (arith, within), shape, took)

  -- an operator with its operand
  abbrev pub IsPair : ℕ → ℕ → Op × Expr P → List (Tok P) → List (Tok P) → Type 0
  IsPair l depth r = OfLevel (suc l) r.0 ▷ IsExpr l depth r.1

  operand_by_sound : (l depth : ℕ) (p : Parse P (Expr P)) → Sound p (IsExpr l depth) → (o : Option Op) (ts us : List (Tok P)) (r : Op × Expr P)
      → op_at (suc l) ts ≡ o → operand_by p o ts ≡ Ok (r, us) → IsPair l depth r ts us
  operand_by_sound l depth p sound None ts us r is e = cc
  operand_by_sound l depth p sound (Some op) ts us r is e =
      let x = bind_ok (p (next ts)) _ _ e in
      done (IsPair l depth) ts (op, x.0.0) r x.0.1 us (next ts, op_sound (suc l) ts op is, sound (next ts) x.0.1 x.0.0 x.1) x.2

  pub operand_sound : (l depth : ℕ) (p : Parse P (Expr P)) → Sound p (IsExpr l depth) → Sound (operand_at (suc l) p) (IsPair l depth)
  unfolding operand_at
  operand_sound l depth p sound ts us r e = operand_by_sound l depth p sound (op_at (suc l) ts) ts us r refl e

  pub operands-of : (l depth : ℕ) (rs : List (Op × Expr P)) (ts us : List (Tok P)) → Each (IsPair l depth) rs ts us → AreOperands l depth (operands_from rs) ts us
  operands-of l depth [] ts us took = took
  operands-of l depth (r ∷ rs) ts us (ws, (vs, op, e), more) = (vs, op, (ws, e, operands-of l depth rs ws us more))

  single : (l : ℕ) (rs : List (Op × Expr P)) (ts : List (Tok P)) → length rs ≤ turns l ts → (rs ≡ [] → ⊥) → IsRow l (operands_from rs)
  single l [] ts few some = absurd (some refl)
  single l (r ∷ []) ts few some = tt
  single l (r ∷ (s ∷ rs)) ts few some =
      λ three. let one = subst (λ n. length (r ∷ (s ∷ rs)) ≤ n) (ap (λ x. turns x ts) three) few in absurd (omega (arith, one))

  joined_sound : (l depth : ℕ) (e g : Expr P) (rs : List (Op × Expr P)) (ts vs ws us : List (Tok P)) → IsExpr l depth e ts vs → length rs ≤ turns (suc l) vs
      → Each (IsPair l depth) rs vs ws → ◌≡◌ {A = Result (Expr P × List (Tok P)) Fault} (Ok (joined e rs, ws)) (Ok (g, us)) → IsExpr (suc l) depth g ts us
  joined_sound l depth e g [] ts vs ws us took few more is =
      done (IsExpr (suc l) depth) ts e g ws us (wider l depth e ts ws (subst (λ v. IsExpr l depth e ts v) more took)) is
  joined_sound l depth e g (r ∷ rs) ts vs ws us took few more is =
      done (IsExpr (suc l) depth) ts (row e (operands_from (r ∷ rs))) g ws us
      (l, omega arith, single (suc l) (r ∷ rs) vs few (λ none. cc), (vs, took, operands-of l depth (r ∷ rs) vs ws more)) is

  row_sound : (l depth : ℕ) (p : Parse P (Expr P)) → Sound p (IsExpr l depth) → Sound (row_at (suc l) p) (IsExpr (suc l) depth)
  unfolding row_at operands_at
  row_sound l depth p sound ts us g e =
      let x = bind_ok (p ts) _ _ e in
      let y = bind_ok (operands_at (suc l) p x.0.1) _ _ x.2 in
      joined_sound l depth x.0.0 g y.0.0 ts x.0.1 y.0.1 us (sound ts x.0.1 x.0.0 x.1)
      (each_few (λ us. is_some (op_at (suc l) us)) (operand_at (suc l) p) (turns (suc l) x.0.1) x.0.1 y.0.1 y.0.0 y.1)
      (each_sound (operand_at (suc l) p) (IsPair l depth) (operand_sound l depth p sound) (λ us. is_some (op_at (suc l) us)) (turns (suc l) x.0.1) x.0.1 y.0.1 y.0.0 y.1) y.2

  pub level_sound : (depth : ℕ) (p : Parse P (Expr P)) → Sound p (IsExpr 0 depth) → (l : ℕ) → Sound (level p l) (IsExpr l depth)
  unfolding level
  level_sound depth p sound zero ts us g e = sound ts us g e
  level_sound depth p sound (suc l) ts us g e = row_sound l depth (level p l) (level_sound depth p sound l) ts us g e

  -- ---- factors

  -- what reads factors one level deeper is sound
  abbrev pub InnerSound : Option (Parse P (Expr P)) → ℕ → Type 0
  InnerSound None depth = Unit {0}
  InnerSound (Some f) zero = ⊥
  InnerSound (Some f) (suc depth) = Sound f (IsExpr 0 depth)

  abbrev pub IsIndex : ℕ → Expr P → List (Tok P) → List (Tok P) → Type 0
  IsIndex depth e = Deeper depth (λ d. a w.LEFT_BRACKET ▷ IsExpr 5 d e ▷ a w.RIGHT_BRACKET)

  pub index_sound : (o : Option (Parse P (Expr P))) (depth : ℕ) → InnerSound o depth → Sound (index o) (IsIndex depth)
  unfolding index
  index_sound None depth sound ts us g e = cc
  index_sound (Some f) zero sound ts us g e = absurd sound
  index_sound (Some f) (suc depth) sound ts us g e =
      let l = bind_ok (expect w.LEFT_BRACKET ts) _ _ e in
      let i = bind_ok (level f 5 l.0.1) _ _ l.2 in
      let r = bind_ok (expect w.RIGHT_BRACKET i.0.1) _ _ i.2 in
      done (IsIndex (suc depth)) ts i.0.0 g r.0.1 us
      (l.0.1, a_sound w.LEFT_BRACKET ts l.0.1 l.0.0 l.1, (i.0.1, level_sound depth f sound 5 l.0.1 i.0.1 i.0.0 i.1, a_sound w.RIGHT_BRACKET i.0.1 r.0.1 r.0.0 r.1)) r.2

  more-args : (depth : ℕ) (es : List (Expr P)) (ts us : List (Tok P)) → Each (λ e. a w.COMMA ▷ IsExpr 5 depth e) es ts us → AreMoreArgs depth (exprs_of es) ts us
  more-args depth [] ts us took = took
  more-args depth (e ∷ es) ts us (ws, (vs, c, took), more) = (vs, c, (ws, took, more-args depth es ws us more))

  some-args : (depth : ℕ) (es : List (Expr P)) (ts us : List (Tok P)) → SomeListed (IsExpr 5 depth) es ts us → AreArgs depth (exprs_of es) ts us
  some-args depth [] ts us took = took
  some-args depth (e ∷ es) ts us (vs, took, more) = (vs, took, more-args depth es vs us more)

  abbrev pub AreInParens : ℕ → List (Expr P) → List (Tok P) → List (Tok P) → Type 0
  AreInParens depth es = InParens depth (exprs_of es)

  pub args_sound : (o : Option (Parse P (Expr P))) (depth : ℕ) → InnerSound o depth → Sound (args o) (AreInParens depth)
  unfolding args
  args_sound None depth sound ts us es e = cc
  args_sound (Some f) zero sound ts us es e = absurd sound
  args_sound (Some f) (suc depth) sound ts us es e =
      let took = in_parens_sound (level f 5) (IsExpr 5 depth) (level_sound depth f sound 5) ts us es e in
      (took.0, took.1, (took.2.0, some-args depth es took.0 took.2.0 took.2.1, took.2.2))

  named_factor_sound : (o : Option (Parse P (Expr P))) (depth : ℕ) → InnerSound o depth → (n : Name × P)
      → Sound (named_factor o n) (λ e ts us. IsExpr 0 depth e (record { word = named n.0; place = n.1 } ∷ ts) us)
  unfolding named_factor
  named_factor_sound o depth sound n ts us g e =
      by_if (is_at w.LEFT_BRACKET ts) _ _ _
      (λ is e.
      let i = bind_ok (index o ts) _ _ e in
      done (λ e ts us. IsExpr 0 depth e (record { word = named n.0; place = n.1 } ∷ ts) us) ts (element n.1 n.0 i.0.0) g i.0.1 us
      (ts, refl, index_sound o depth sound ts i.0.1 i.0.0 i.1) i.2)
      (λ is e.
      by_if (is_at w.LEFT_PAREN ts) _ _ _
      (λ is e.
      let x = bind_ok (args o ts) _ _ e in
      done (λ e ts us. IsExpr 0 depth e (record { word = named n.0; place = n.1 } ∷ ts) us) ts (call n.1 n.0 (exprs_of x.0.0)) g x.0.1 us
      (ts, refl, args_sound o depth sound ts x.0.1 x.0.0 x.1) x.2)
      (λ is e. done (λ e ts us. IsExpr 0 depth e (record { word = named n.0; place = n.1 } ∷ ts) us) ts (variable n.1 n.0) g ts us refl e) e) e

  -- a sign before a factor
  minus_sound : (o : Option (Parse P (Expr P))) (depth : ℕ) → InnerSound o depth → Sound (minus_factor o) (IsExpr 0 depth)
  unfolding minus_factor
  minus_sound None depth sound ts us g e = cc
  minus_sound (Some f) zero sound ts us g e = absurd sound
  minus_sound (Some f) (suc depth) sound ts us g e =
      let m = bind_ok (expect w.MINUS ts) _ _ e in
      let x = bind_ok (f m.0.1) _ _ m.2 in
      done (IsExpr 0 (suc depth)) ts (minus m.0.0 x.0.0) g x.0.1 us (m.0.1, expect_sound w.MINUS ts m.0.1 m.0.0 m.1, sound m.0.1 x.0.1 x.0.0 x.1) x.2

  negation_sound : (o : Option (Parse P (Expr P))) (depth : ℕ) → InnerSound o depth → Sound (negation_factor o) (IsExpr 0 depth)
  unfolding negation_factor
  negation_sound None depth sound ts us g e = cc
  negation_sound (Some f) zero sound ts us g e = absurd sound
  negation_sound (Some f) (suc depth) sound ts us g e =
      let m = bind_ok (expect w.NOT ts) _ _ e in
      let x = bind_ok (f m.0.1) _ _ m.2 in
      done (IsExpr 0 (suc depth)) ts (negation m.0.0 x.0.0) g x.0.1 us (m.0.1, expect_sound w.NOT ts m.0.1 m.0.0 m.1, sound m.0.1 x.0.1 x.0.0 x.1) x.2

  paren_sound : (o : Option (Parse P (Expr P))) (depth : ℕ) → InnerSound o depth → Sound (paren_factor o) (IsExpr 0 depth)
  unfolding paren_factor
  paren_sound None depth sound ts us g e = cc
  paren_sound (Some f) zero sound ts us g e = absurd sound
  paren_sound (Some f) (suc depth) sound ts us g e =
      let l = bind_ok (expect w.LEFT_PAREN ts) _ _ e in
      let x = bind_ok (level f 5 l.0.1) _ _ l.2 in
      let r = bind_ok (expect w.RIGHT_PAREN x.0.1) _ _ x.2 in
      done (IsExpr 0 (suc depth)) ts (paren l.0.0 x.0.0) g r.0.1 us
      (l.0.1, expect_sound w.LEFT_PAREN ts l.0.1 l.0.0 l.1, (x.0.1, level_sound depth f sound 5 l.0.1 x.0.1 x.0.0 x.1, a_sound w.RIGHT_PAREN x.0.1 r.0.1 r.0.0 r.1)) r.2

  simple_sound : (depth : ℕ) → Sound {P = P} simple_factor (IsExpr 0 depth)
  unfolding simple_factor
  simple_sound depth ts us g e =
      by_if (is_literal ts) _ _ _
      (λ is e. let n = bind_ok (numeral ts) _ _ e in done (IsExpr 0 depth) ts (literal n.0.0.1 n.0.0.0) g n.0.1 us (numeral_sound ts n.0.1 n.0.0 n.1) n.2)
      (λ is e.
      by_if (is_at w.TRUE ts) _ _ _
      (λ is e. let t = bind_ok (expect w.TRUE ts) _ _ e in done (IsExpr 0 depth) ts (truth t.0.0 true) g t.0.1 us (expect_sound w.TRUE ts t.0.1 t.0.0 t.1) t.2)
      (λ is e. let t = bind_ok (expect w.FALSE ts) _ _ e in done (IsExpr 0 depth) ts (truth t.0.0 false) g t.0.1 us (expect_sound w.FALSE ts t.0.1 t.0.0 t.1) t.2) e) e

  factor_in_sound : (o : Option (Parse P (Expr P))) (depth : ℕ) → InnerSound o depth → Sound (factor_in o) (IsExpr 0 depth)
  unfolding factor_in
  factor_in_sound o depth sound ts us g e =
      by_if (is_name ts) _ _ _
      (λ is e.
      let n = bind_ok (name ts) _ _ e in
      subst (λ x. IsExpr 0 depth g x us) (sym (name_sound ts n.0.1 n.0.0 n.1)) (named_factor_sound o depth sound n.0.0 n.0.1 us g n.2)) (λ is e.
      by_if (is_at w.LEFT_PAREN ts) _ _ _ (λ is e. paren_sound o depth sound ts us g e) (λ is e.
      by_if (is_at w.MINUS ts) _ _ _ (λ is e. minus_sound o depth sound ts us g e) (λ is e.
      by_if (is_at w.NOT ts) _ _ _ (λ is e. negation_sound o depth sound ts us g e) (λ is e. simple_sound depth ts us g e) e) e) e) e

  pub factor_sound : (depth : ℕ) → Sound {P = P} (factor depth) (IsExpr 0 depth)
  unfolding factor
  factor_sound zero ts us g e = factor_in_sound None zero tt ts us g e
  factor_sound (suc depth) ts us g e = factor_in_sound (Some (factor depth)) (suc depth) (factor_sound depth) ts us g e

  pub expr_sound : (depth : ℕ) → Sound {P = P} (expr depth) (IsExpr 5 depth)
  expr_sound depth = level_sound depth (factor depth) (factor_sound depth) 5

pub inner_sound : (P : Type 0) (depth : ℕ) → InnerSound (inner {P = P} depth) depth
inner_sound P zero = tt
inner_sound P (suc depth) = factor_sound depth
