-- Where a fault of nesting comes from in an expression.
use Rattle.std.proofs.Common.{◌≡◌, ℕ, zero, suc, ◌≤◌, ◌<◌, List, [], ◌∷◌, length, true, inl, inr, Err, Option, Some, None, refl, ap, sym, subst, arith}
use Rattle.syntax_tree.specs.Plain.{Name, Op}
use Rattle.syntax_tree.specs.Placed.{Expr}
use Rattle.syntax.specs.Words as w
use Rattle.syntax.specs.Words.{Word, named, Tok}
use Rattle.syntax.specs.ExprGrammar.{◌▷◌, Each, OfLevel, IsExpr}
use Rattle.syntax.specs.Opening.{Part, Whole, UpToFactor, OpensFactor, OpensExpr, OpensIndex, OpensArgs}
use Rattle.syntax_reading.specs.ExprReading.{nesting, Parse, is_at, is_name, is_literal, numeral, signless, unsigned, constant, op_at, is_some, next, operand_by, operand_at, turns, operands_at, row_at, level, index, args, named_factor, minus_factor, negation_factor, paren_factor, simple_factor, factor_in, factor, inner, expr}
use Rattle.syntax_reading.proofs.Basics.{by_if, Sound, a_sound, name_sound}
use Rattle.syntax_reading.proofs.ExprSound.{op_sound, IsPair, operand_sound, level_sound, InnerSound, factor_sound}
use Rattle.syntax_reading.proofs.OpenBasics.{by_step, past, Reaches, Opens, Never, numeral_never, past_word, past_name, here_opens, each_opens, in_parens_opens}

module _ {P : Type 0} where
  -- ---- constants

  signless_never : (p : P) → Never (signless p true)
  unfolding signless
  signless_never p ts n e =
      by_if (is_literal ts) _ _ _ (λ is e. let x = past (numeral ts) _ (nesting n) (numeral_never ts n) e in let done = x.2 in cc)
      (λ is e. let x = past_name ts _ n e in let done = x.2 in cc) e

  unsigned_never : Never (unsigned {P = P})
  unfolding unsigned
  unsigned_never ts n e =
      by_if (is_literal ts) _ _ _ (λ is e. let x = past (numeral ts) _ (nesting n) (numeral_never ts n) e in let done = x.2 in cc)
      (λ is e. let x = past_name ts _ n e in let done = x.2 in cc) e

  pub constant_never : Never (constant {P = P})
  unfolding constant
  constant_never ts n e =
      by_if (is_at w.MINUS ts) _ _ _ (λ is e. let m = past_word w.MINUS ts _ n e in signless_never m.0.0 m.0.1 n m.2) (λ is e. unsigned_never ts n e) e

  -- ---- rows

  -- operators before the operands as operators behind them
  abbrev behind : Expr P → List (Op × Expr P) → Op → List (Expr P × Op)
  behind e [] op = (e, op) ∷ []
  behind e (r ∷ rs) op = (e, r.0) ∷ behind r.1 rs op

  length-behind : (e : Expr P) (rs : List (Op × Expr P)) (op : Op) → length (behind e rs op) ≡ suc (length rs)
  length-behind e [] op = omega arith
  length-behind e (r ∷ rs) op = let h = length-behind r.1 rs op in omega (arith, h)

  are-behind : (l depth : ℕ) (e : Expr P) (rs : List (Op × Expr P)) (op : Op) (ts us vs ws : List (Tok P)) → IsExpr l depth e ts us → Each (IsPair l depth) rs us vs
      → OfLevel (suc l) op vs ws → Each (λ r. IsExpr l depth r.0 ▷ OfLevel (suc l) r.1) (behind e rs op) ts ws
  are-behind l depth e [] op ts us vs ws took more last = (ws, (us, took, subst (λ v. OfLevel (suc l) op v ws) (sym more) last), refl)
  are-behind l depth e (r ∷ rs) op ts us vs ws took (v2, (v1, first, next), more) last =
      (v1, (us, took, first), are-behind l depth r.1 rs op v1 v2 vs ws next more last)

  -- a comparison at fault is the only one of its row
  only-one : (l : ℕ) (ts : List (Tok P)) (k : ℕ) → k < turns l ts → l ≡ 3 → suc k ≤ 1
  only-one l ts k few three = let one = subst (λ n. k < n) (ap (λ x. turns x ts) three) few in omega (arith, one)

  module _ (l depth : ℕ) (p : Parse P (Expr P)) (sound : Sound p (IsExpr l depth)) (O : Part P) (opens : Opens p (UpToFactor l depth ▷ O)) where
    operand_by_opens : (o : Option Op) (ts : List (Tok P)) (n : ℕ) → op_at (suc l) ts ≡ o → operand_by p o ts ≡ Err (nesting n)
        → Reaches (Whole (OfLevel (suc l)) ▷ UpToFactor l depth ▷ O) ts n
    operand_by_opens None ts n is e = cc
    operand_by_opens (Some op) ts n is e =
        by_step (p (next ts)) _ (nesting n) (λ bad. let r = opens (next ts) n bad in (r.0, (next ts, (op, op_sound (suc l) ts op is), r.1), r.2)) (λ x good e. cc) e

    operand_opens : Opens (operand_at (suc l) p) (Whole (OfLevel (suc l)) ▷ UpToFactor l depth ▷ O)
    unfolding operand_at
    operand_opens ts n e = operand_by_opens (op_at (suc l) ts) ts n refl e

    row_opens : Opens (row_at (suc l) p) (UpToFactor (suc l) depth ▷ O)
    unfolding row_at operands_at UpToFactor
    row_opens ts n e =
        by_step (p ts) _ (nesting n)
        (λ bad. let (us, (vs, up, o), is) = opens ts n bad in (us, (vs, (ts, ([], ((λ three. omega arith), refl)), up), o), is))
        (λ x good e.
        by_step (operands_at (suc l) p x.1) _ (nesting n)
        (λ bad.
        let (rs, vs, took, few, (us, (v1, (op, is), (v2, up, o)), left)) =
        each_opens (operand_at (suc l) p) (IsPair l depth) (operand_sound l depth p sound) (Whole (OfLevel (suc l)) ▷ UpToFactor l depth ▷ O) operand_opens
        (λ us. is_some (op_at (suc l) us)) (turns (suc l) x.1) x.1 n bad in
        let all = are-behind l depth x.0 rs op ts x.1 vs v1 (sound ts x.1 x.0 good) took is in
        let one = λ (three : suc l ≡ 3). subst (λ k. k ≤ 1) (sym (length-behind x.0 rs op)) (only-one (suc l) x.1 (length rs) few three) in
        (us, (v2, (v1, (behind x.0 rs op, (one, all)), up), o), left))
        (λ rs good e. cc) e) e

  level_opens : (depth : ℕ) (p : Parse P (Expr P)) → Sound p (IsExpr 0 depth) → (O : Part P) → Opens p O → (l : ℕ) → Opens (level p l) (UpToFactor l depth ▷ O)
  unfolding level UpToFactor
  level_opens depth p sound O opens zero ts n e = let r = opens ts n e in (r.0, (ts, refl, r.1), r.2)
  level_opens depth p sound O opens (suc l) ts n e =
      row_opens l depth (level p l) (level_sound depth p sound l) O (level_opens depth p sound O opens l) ts n e

  -- ---- factors

  -- what reads factors one level deeper is at fault there
  abbrev pub InnerOpens : Option (Parse P (Expr P)) → ℕ → Type 0
  InnerOpens None zero = Unit {0}
  InnerOpens None (suc depth) = ⊥
  InnerOpens (Some f) zero = ⊥
  InnerOpens (Some f) (suc depth) = Opens f (OpensFactor depth)

  pub index_opens : (o : Option (Parse P (Expr P))) (depth : ℕ) → InnerSound o depth → InnerOpens o depth → (ts : List (Tok P)) (n : ℕ) → is_at w.LEFT_BRACKET ts ≡ true
      → index o ts ≡ Err (nesting n) → Reaches (OpensIndex depth) ts n
  unfolding index
  index_opens None zero sound opens ts n is e = here_opens w.LEFT_BRACKET ts n is e
  index_opens None (suc depth) sound opens ts n is e = absurd opens
  index_opens (Some f) zero sound opens ts n is e = absurd opens
  index_opens (Some f) (suc depth) sound opens ts n is e =
      let l = past_word w.LEFT_BRACKET ts _ n e in
      by_step (level f 5 l.0.1) _ (nesting n)
      (λ bad.
      let r = level_opens depth f sound (OpensFactor depth) opens 5 l.0.1 n bad in
      (r.0, (l.0.1, a_sound w.LEFT_BRACKET ts l.0.1 l.0.0 l.1, r.1), r.2))
      (λ x good e. let r = past_word w.RIGHT_BRACKET x.1 _ n e in let done = r.2 in cc) l.2

  pub args_opens : (o : Option (Parse P (Expr P))) (depth : ℕ) → InnerSound o depth → InnerOpens o depth → (ts : List (Tok P)) (n : ℕ) → is_at w.LEFT_PAREN ts ≡ true
      → args o ts ≡ Err (nesting n) → Reaches (OpensArgs depth) ts n
  unfolding args
  args_opens None zero sound opens ts n is e = here_opens w.LEFT_PAREN ts n is e
  args_opens None (suc depth) sound opens ts n is e = absurd opens
  args_opens (Some f) zero sound opens ts n is e = absurd opens
  args_opens (Some f) (suc depth) sound opens ts n is e =
      in_parens_opens (level f 5) (IsExpr 5 depth) (level_sound depth f sound 5) (OpensExpr depth) (level_opens depth f sound (OpensFactor depth) opens 5) ts n e

  abbrev front : Name × P → List (Tok P) → List (Tok P)
  front n ts = record { word = named n.0; place = n.1 } ∷ ts

  index-factor : (depth : ℕ) (n : Name × P) (ts us : List (Tok P)) → OpensIndex depth ts us → OpensFactor depth (front n ts) us
  unfolding OpensFactor
  index-factor zero n ts us o = inr (inr (inr (inl (ts, (n.0, (n.1, refl)), o))))
  index-factor (suc depth) n ts us (v1, l, (v2, up, o)) = (v2, inr (inr (inr (inl (ts, (n.0, (n.1, refl)), (v1, l, up))))), o)

  args-factor : (depth : ℕ) (n : Name × P) (ts us : List (Tok P)) → OpensArgs depth ts us → OpensFactor depth (front n ts) us
  unfolding OpensFactor
  args-factor zero n ts us o = inr (inr (inr (inr (ts, (n.0, (n.1, refl)), o))))
  args-factor (suc depth) n ts us (v1, l, (v2, others, (v3, up, o))) = (v3, inr (inr (inr (inr (ts, (n.0, (n.1, refl)), (v1, l, (v2, others, up)))))), o)

  named_factor_opens : (o : Option (Parse P (Expr P))) (depth : ℕ) → InnerSound o depth → InnerOpens o depth → (m : Name × P) (ts : List (Tok P)) (n : ℕ)
      → named_factor o m ts ≡ Err (nesting n) → Reaches (OpensFactor depth) (front m ts) n
  unfolding named_factor
  named_factor_opens o depth sound opens m ts n e =
      by_if (is_at w.LEFT_BRACKET ts) _ _ _
      (λ is e.
      by_step (index o ts) _ (nesting n)
      (λ bad. let r = index_opens o depth sound opens ts n is bad in (r.0, index-factor depth m ts r.0 r.1, r.2)) (λ x good e. cc) e)
      (λ not e.
      by_if (is_at w.LEFT_PAREN ts) _ _ _
      (λ is e.
      by_step (args o ts) _ (nesting n)
      (λ bad. let r = args_opens o depth sound opens ts n is bad in (r.0, args-factor depth m ts r.0 r.1, r.2)) (λ x good e. cc) e)
      (λ not e. cc) e) e

  module _ (o : Option (Parse P (Expr P))) (depth : ℕ) where
    abbrev OpensAt : Word → Parse P (Expr P) → Type 0
    OpensAt word p = InnerSound o depth → InnerOpens o depth → (ts : List (Tok P)) (n : ℕ) → is_at word ts ≡ true → p ts ≡ Err (nesting n) → Reaches (OpensFactor depth) ts n

  paren_opens : (o : Option (Parse P (Expr P))) (depth : ℕ) → OpensAt o depth w.LEFT_PAREN (paren_factor o)
  unfolding paren_factor OpensFactor
  paren_opens None zero sound opens ts n is e = let r = here_opens w.LEFT_PAREN ts n is e in (r.0, inr (inr (inl r.1)), r.2)
  paren_opens None (suc depth) sound opens ts n is e = absurd opens
  paren_opens (Some f) zero sound opens ts n is e = absurd opens
  paren_opens (Some f) (suc depth) sound opens ts n is e =
      let l = past_word w.LEFT_PAREN ts _ n e in
      by_step (level f 5 l.0.1) _ (nesting n)
      (λ bad.
      let (us, (vs, up, o), left) = level_opens depth f sound (OpensFactor depth) opens 5 l.0.1 n bad in
      (us, (vs, inr (inr (inl (l.0.1, a_sound w.LEFT_PAREN ts l.0.1 l.0.0 l.1, up))), o), left))
      (λ x good e. let r = past_word w.RIGHT_PAREN x.1 _ n e in let done = r.2 in cc) l.2

  minus_opens : (o : Option (Parse P (Expr P))) (depth : ℕ) → OpensAt o depth w.MINUS (minus_factor o)
  unfolding minus_factor OpensFactor
  minus_opens None zero sound opens ts n is e = let r = here_opens w.MINUS ts n is e in (r.0, inl r.1, r.2)
  minus_opens None (suc depth) sound opens ts n is e = absurd opens
  minus_opens (Some f) zero sound opens ts n is e = absurd opens
  minus_opens (Some f) (suc depth) sound opens ts n is e =
      let m = past_word w.MINUS ts _ n e in
      by_step (f m.0.1) _ (nesting n)
      (λ bad. let r = opens m.0.1 n bad in (r.0, (m.0.1, inl (a_sound w.MINUS ts m.0.1 m.0.0 m.1), r.1), r.2)) (λ x good e. cc) m.2

  negation_opens : (o : Option (Parse P (Expr P))) (depth : ℕ) → OpensAt o depth w.NOT (negation_factor o)
  unfolding negation_factor OpensFactor
  negation_opens None zero sound opens ts n is e = let r = here_opens w.NOT ts n is e in (r.0, inr (inl r.1), r.2)
  negation_opens None (suc depth) sound opens ts n is e = absurd opens
  negation_opens (Some f) zero sound opens ts n is e = absurd opens
  negation_opens (Some f) (suc depth) sound opens ts n is e =
      let m = past_word w.NOT ts _ n e in
      by_step (f m.0.1) _ (nesting n)
      (λ bad. let r = opens m.0.1 n bad in (r.0, (m.0.1, inr (inl (a_sound w.NOT ts m.0.1 m.0.0 m.1)), r.1), r.2)) (λ x good e. cc) m.2

  simple_never : Never (simple_factor {P = P})
  unfolding simple_factor
  simple_never ts n e =
      by_if (is_literal ts) _ _ _ (λ is e. let x = past (numeral ts) _ (nesting n) (numeral_never ts n) e in let done = x.2 in cc)
      (λ not e.
      by_if (is_at w.TRUE ts) _ _ _ (λ is e. let t = past_word w.TRUE ts _ n e in let done = t.2 in cc)
      (λ not e. let t = past_word w.FALSE ts _ n e in let done = t.2 in cc) e) e

  factor_in_opens : (o : Option (Parse P (Expr P))) (depth : ℕ) → InnerSound o depth → InnerOpens o depth → Opens (factor_in o) (OpensFactor depth)
  unfolding factor_in
  factor_in_opens o depth sound opens ts n e =
      by_if (is_name ts) _ _ _
      (λ is e.
      let m = past_name ts _ n e in
      subst (λ t. Reaches (OpensFactor depth) t n) (sym (name_sound ts m.0.1 m.0.0 m.1)) (named_factor_opens o depth sound opens m.0.0 m.0.1 n m.2)) (λ not e.
      by_if (is_at w.LEFT_PAREN ts) _ _ _ (λ is e. paren_opens o depth sound opens ts n is e) (λ not e.
      by_if (is_at w.MINUS ts) _ _ _ (λ is e. minus_opens o depth sound opens ts n is e) (λ not e.
      by_if (is_at w.NOT ts) _ _ _ (λ is e. negation_opens o depth sound opens ts n is e) (λ not e. absurd (simple_never ts n e)) e) e) e) e

  pub factor_opens : (depth : ℕ) → Opens {P = P} (factor depth) (OpensFactor depth)
  unfolding factor
  factor_opens zero ts n e = factor_in_opens None zero tt tt ts n e
  factor_opens (suc depth) ts n e = factor_in_opens (Some (factor depth)) (suc depth) (factor_sound depth) (factor_opens depth) ts n e

  pub expr_opens : (depth : ℕ) → Opens {P = P} (expr depth) (OpensExpr depth)
  expr_opens depth = level_opens depth (factor depth) (factor_sound depth) (OpensFactor depth) (factor_opens depth) 5

pub inner_opens : (P : Type 0) (depth : ℕ) → InnerOpens (inner {P = P} depth) depth
inner_opens P zero = tt
inner_opens P (suc depth) = factor_opens depth
