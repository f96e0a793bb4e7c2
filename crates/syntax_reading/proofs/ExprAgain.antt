-- What an expression's tokens are is read as that expression.
use Rattle.std.proofs.Common.{◌≡◌, ℕ, zero, suc, ◌+◌, ◌≤◌, ◌⊎◌, inl, inr, List, [], ◌∷◌, length, Bool, true, false, cond, nat_eq, Ok, Option, Some, None, refl, ap, sym, ◌∙◌, subst, arith}
use Rattle.std.proofs.Math.Nat.{le-suc_iff}
use Rattle.std.proofs.lemmas.Bool.{eqb-true}
use Rattle.syntax_tree.specs.Plain.{Name, Op}
use Rattle.syntax_tree.specs.Placed.{Constant, literal_constant, named_constant, Expr, literal, truth, variable, element, call, minus, negation, paren, row, Exprs, no_exprs, exprs, Operands, no_operands, operand, exprs_of}
use Rattle.syntax.specs.Words as w
use Rattle.syntax.specs.Words.{Word, named, number, keyword, sign, Tok}
use Rattle.syntax.specs.ExprGrammar.{at, a, ◌▷◌, Each, SomeListed, Deeper, IsConstant, IsRow, OfLevel, IsExpr, AreOperands, AreArgs, AreMoreArgs, InParens}
use Rattle.syntax_reading.specs.ExprReading.{Parse, same_word, is_at, is_entry, expect, name, numeral, signless, unsigned, constant, op_at, is_some, next, operand_by, operand_at, turns, operands_at, operands_from, joined, row_at, level, inside, index, args, named_factor, minus_factor, negation_factor, paren_factor, simple_factor, factor_in, factor, inner, expr}
use Rattle.syntax_reading.proofs.Shorter.{Shorter, expr-shorter, a-shorter}
use Rattle.syntax_reading.proofs.AgainBasics.{step, if-true, if-false, Again, expect_again, Stop, stop-at, stop-a, stop-less, op_again, stop-op, each_again, each-starts, in_parens_again}

-- none begins with this word
abbrev pub BeginsNone : Word → Type 0
BeginsNone v = (same_word w.TRUE v ≡ false) × (same_word w.FALSE v ≡ false) × (same_word w.MINUS v ≡ false) × (same_word w.NOT v ≡ false) × (same_word w.LEFT_PAREN v ≡ false) × ((n : Name) → same_word (named n) v ≡ false)

module _ {P : Type 0} where
  -- ---- constants

  pub constant_again : (c : Constant P) (ts us : List (Tok P)) → IsConstant c ts us → constant ts ≡ Ok (c, us)
  unfolding constant signless unsigned expect numeral name
  constant_again (literal_constant p true n q) ts us (vs, m, took) = ap constant (m ∙ ap (λ x. record { word = w.MINUS; place = p } ∷ x) took)
  constant_again (named_constant p true n q) ts us (vs, m, took) = ap constant (m ∙ ap (λ x. record { word = w.MINUS; place = p } ∷ x) took)
  constant_again (literal_constant p false n q) ts us (same, took) = ap constant took ∙ ap (λ x. Ok (literal_constant p false n x, us)) (sym same)
  constant_again (named_constant p false n q) ts us (same, took) = ap constant took ∙ ap (λ x. Ok (named_constant p false n x, us)) (sym same)

  -- ---- rows

  -- the operators of a row as a list
  abbrev pub pairs : Operands P → List (Op × Expr P)
  pairs no_operands = []
  pairs (operand op e rs) = (op, e) ∷ pairs rs

  from-pairs : (rs : Operands P) → operands_from (pairs rs) ≡ rs
  from-pairs no_operands = refl
  from-pairs (operand op e rs) = ap (operand op e) (from-pairs rs)

  abbrev pub IsPair : ℕ → ℕ → Op × Expr P → List (Tok P) → List (Tok P) → Type 0
  IsPair l depth r = OfLevel (suc l) r.0 ▷ IsExpr l depth r.1

  to-pairs : (l depth : ℕ) (rs : Operands P) (ts us : List (Tok P)) → AreOperands l depth rs ts us → Each (IsPair l depth) (pairs rs) ts us
  to-pairs l depth no_operands ts us took = took
  to-pairs l depth (operand op e rs) ts us (vs, o, (ws, took, more)) = (ws, (vs, o, took), to-pairs l depth rs ws us more)

  pub operand_again : (l depth : ℕ) (p : Parse P (Expr P)) → Again p (IsExpr l depth) (Stop l) → Again (operand_at (suc l) p) (IsPair l depth) (Stop l)
  unfolding operand_at
  operand_again l depth p again ts us r (vs, o, took) stop =
      ap (λ x. operand_by p x ts) (op_again (suc l) r.0 ts vs o)
      ∙ step (p (next ts)) _ (r.1, us) _ (ap (λ x. p (next x)) o.1.1 ∙ again vs us r.1 took stop) refl

  pair-shorter : (l depth : ℕ) (r : Op × Expr P) → Shorter (IsPair l depth r)
  pair-shorter l depth r ts us (vs, (high, took), more) =
      let e1 = a-shorter _ ts vs took in let e2 = expr-shorter l depth r.1 vs us more in omega (arith, e1, e2)

  pub count-pairs : (l depth : ℕ) (rs : List (Op × Expr P)) (ts us : List (Tok P)) → Each (IsPair l depth) rs ts us → length rs + length us ≤ length ts
  count-pairs l depth [] ts us took = let e = ap length took in omega (arith, e)
  count-pairs l depth (r ∷ rs) ts us (vs, took, more) = let e = pair-shorter l depth r ts vs took in let f = count-pairs l depth rs vs us more in omega (arith, e, f)

  few-three : (l : ℕ) (rs : Operands P) → l ≡ 3 → IsRow l rs → length (pairs rs) ≤ 1
  few-three l no_operands three shape = absurd shape
  few-three l (operand op e no_operands) three shape = omega arith
  few-three l (operand op e (operand op_2 e_2 rs)) three shape = absurd (shape three)

  few-by : (l : ℕ) (rs : Operands P) (ts : List (Tok P)) → IsRow l rs → length (pairs rs) ≤ length ts → (b : Bool) → nat_eq l 3 ≡ b
      → length (pairs rs) ≤ cond b 1 (length ts)
  few-by l rs ts shape h true is = few-three l rs (eqb-true l 3 is) shape
  few-by l rs ts shape h false is = h

  -- a row of this shape has no more operators than turns
  few : (l : ℕ) (rs : Operands P) (ts : List (Tok P)) → IsRow l rs → length (pairs rs) ≤ length ts → length (pairs rs) ≤ turns l ts
  few l rs ts shape h = few-by l rs ts shape h (nat_eq l 3) refl

  -- a row of one level up
  abbrev RowAt : ℕ → ℕ → Expr P → List (Tok P) → List (Tok P) → Type 0
  RowAt l depth e ts us =
      (f : Expr P) × (rs : Operands P) × (e ≡ row f rs) × (IsRow (suc l) rs × (IsExpr l depth f ▷ AreOperands l depth rs) ts us)

  lower : (l depth : ℕ) (e : Expr P) (ts us : List (Tok P)) → IsExpr (suc l) depth e ts us → IsExpr l depth e ts us ⊎ RowAt l depth e ts us
  lower l depth (literal p n) ts us took = inl took
  lower l depth (truth p true) ts us took = inl took
  lower l depth (truth p false) ts us took = inl took
  lower l depth (variable p n) ts us took = inl took
  lower l depth (element p n i) ts us took = inl took
  lower l depth (call p n es) ts us took = inl took
  lower l depth (minus p e) ts us took = inl took
  lower l depth (negation p e) ts us took = inl took
  lower l depth (paren p e) ts us took = inl took
  lower l depth (row e rs) ts us (m, within, shape, took) =
      elim (le-suc_iff.0 within) [
        | inl low ↦ inl (m, low, shape, took)
        | inr same ↦
            let is : m ≡ l = omega (arith, same) in
            inr (e, rs, refl, subst (λ x. IsRow (suc x) rs × (IsExpr x depth e ▷ AreOperands x depth rs) ts us) is (shape, took))
      ]

  joined-pairs : (l : ℕ) (f : Expr P) (rs : Operands P) → IsRow l rs → joined f (pairs rs) ≡ row f rs
  joined-pairs l f no_operands shape = absurd shape
  joined-pairs l f (operand op e rs) shape = ap (λ x. row f (operand op e x)) (from-pairs rs)

  module _ (l depth : ℕ) (p : Parse P (Expr P)) (again : Again p (IsExpr l depth) (Stop l)) where
    pub pair-goes : (r : Op × Expr P) (ts us : List (Tok P)) → IsPair l depth r ts us → is_some (op_at (suc l) ts) ≡ true
    pair-goes r ts us (vs, o, took) = ap is_some (op_again (suc l) r.0 ts vs o)

    pub pair-starts : (r : Op × Expr P) (ts us : List (Tok P)) → IsPair l depth r ts us → Stop l ts
    pair-starts r ts us (vs, o, took) = stop-op l r.0 ts vs o

    operands_again : (rs : List (Op × Expr P)) (ts us : List (Tok P)) → Each (IsPair l depth) rs ts us → length rs ≤ turns (suc l) ts → Stop (suc l) us
        → operands_at (suc l) p ts ≡ Ok (rs, us)
    unfolding operands_at
    operands_again rs ts us took few stop =
        each_again (λ us. is_some (op_at (suc l) us)) (operand_at (suc l) p) (IsPair l depth) (Stop l) (operand_again l depth p again) pair-goes pair-starts
        (turns (suc l) ts) rs ts us took few (stop-less l (suc l) us (omega arith) stop) (ap is_some (stop.ops (suc l) (omega arith)))

    row_again : Again (row_at (suc l) p) (IsExpr (suc l) depth) (Stop (suc l))
    unfolding row_at
    row_again ts us e took stop =
        elim (lower l depth e ts us took) [
          | inl low ↦
              step (p ts) _ (e, us) _ (again ts us e low (stop-less l (suc l) us (omega arith) stop))
              (step (operands_at (suc l) p us) _ ([], us) _ (operands_again [] us us refl (omega arith) stop) refl)
          | inr (f, rs, is, (shape, (vs, first, more))) ↦
              let list = to-pairs l depth rs vs us more in
              let long = count-pairs l depth (pairs rs) vs us list in
              let follow = each-starts (λ us. is_some (op_at (suc l) us)) (operand_at (suc l) p) (IsPair l depth) (Stop l) (operand_again l depth p again) pair-goes pair-starts
              (pairs rs) vs us list (stop-less l (suc l) us (omega arith) stop) in
              step (p ts) _ (f, vs) _ (again ts vs f first follow)
              (step (operands_at (suc l) p vs) _ (pairs rs, us) _ (operands_again (pairs rs) vs us list (few (suc l) rs vs shape (omega (arith, long))) stop)
              (ap (λ x. Ok (x, us)) (joined-pairs (suc l) f rs shape ∙ sym is)))
        ]

  pub level_again : (depth : ℕ) (p : Parse P (Expr P)) → Again p (IsExpr 0 depth) (Stop 0) → (l : ℕ) → Again (level p l) (IsExpr l depth) (Stop l)
  unfolding level
  level_again depth p again zero ts us e took stop = again ts us e took stop
  level_again depth p again (suc l) ts us e took stop = row_again l depth (level p l) (level_again depth p again l) ts us e took stop

  -- ---- how an expression begins

  pub expr-begins : (v : Word) → BeginsNone v → (l depth : ℕ) (e : Expr P) (ts us : List (Tok P)) → IsExpr l depth e ts us → is_at v ts ≡ false
  expr-begins v none l depth (literal p n) ts us took = ap (is_at v) took
  expr-begins v none l depth (truth p true) ts us took = ap (is_at v) took ∙ none.0
  expr-begins v none l depth (truth p false) ts us took = ap (is_at v) took ∙ none.1
  expr-begins v none l depth (variable p n) ts us took = ap (is_at v) took ∙ none.5 n
  expr-begins v none l depth (element p n i) ts us (vs, took, more) = ap (is_at v) took ∙ none.5 n
  expr-begins v none l depth (call p n es) ts us (vs, took, more) = ap (is_at v) took ∙ none.5 n
  expr-begins v none l zero (minus p e) ts us took = absurd took
  expr-begins v none l (suc depth) (minus p e) ts us (vs, took, more) = ap (is_at v) took ∙ none.2
  expr-begins v none l zero (negation p e) ts us took = absurd took
  expr-begins v none l (suc depth) (negation p e) ts us (vs, took, more) = ap (is_at v) took ∙ none.3
  expr-begins v none l zero (paren p e) ts us took = absurd took
  expr-begins v none l (suc depth) (paren p e) ts us (vs, took, more) = ap (is_at v) took ∙ none.4
  expr-begins v none l depth (row e rs) ts us (m, within, shape, (vs, took, more)) = expr-begins v none m depth e ts vs took

  -- no expression begins as the call of an entry
  pub expr-entry : (l depth : ℕ) (e : Expr P) (ts us : List (Tok P)) → IsExpr l depth e ts us → is_at w.DOT us ≡ false → is_entry ts ≡ false
  expr-entry l depth (literal p n) ts us took dot = ap is_entry took
  expr-entry l depth (truth p true) ts us took dot = ap is_entry took
  expr-entry l depth (truth p false) ts us took dot = ap is_entry took
  expr-entry l depth (variable p n) ts us took dot = ap is_entry took ∙ dot
  expr-entry l zero (element p n i) ts us (vs, took, more) dot = absurd more
  expr-entry l (suc depth) (element p n i) ts us (vs, took, (v2, (q, b), more)) dot = ap is_entry took ∙ ap (is_at w.DOT) b
  expr-entry l zero (call p n es) ts us (vs, took, more) dot = absurd more
  expr-entry l (suc depth) (call p n es) ts us (vs, took, (v2, (q, b), more)) dot = ap is_entry took ∙ ap (is_at w.DOT) b
  expr-entry l zero (minus p e) ts us took dot = absurd took
  expr-entry l (suc depth) (minus p e) ts us (vs, took, more) dot = ap is_entry took
  expr-entry l zero (negation p e) ts us took dot = absurd took
  expr-entry l (suc depth) (negation p e) ts us (vs, took, more) dot = ap is_entry took
  expr-entry l zero (paren p e) ts us took dot = absurd took
  expr-entry l (suc depth) (paren p e) ts us (vs, took, more) dot = ap is_entry took
  expr-entry l depth (row e no_operands) ts us (m, within, shape, took) dot = absurd shape
  expr-entry l depth (row e (operand op f rs)) ts us (m, within, shape, (vs, took, (v2, o, more))) dot =
      expr-entry m depth e ts vs took (stop-op m op vs v2 o).dot

  -- ---- factors

  stop-right_paren : (l : ℕ) (ts us : List (Tok P)) → a w.RIGHT_PAREN ts us → Stop l ts
  stop-right_paren l ts us took = stop-a l w.RIGHT_PAREN ts us (refl, refl, refl, refl) took

  -- what reads factors one level deeper reads what is there
  abbrev pub InnerAgain : Option (Parse P (Expr P)) → ℕ → Type 0
  InnerAgain None zero = Unit {0}
  InnerAgain None (suc depth) = ⊥
  InnerAgain (Some f) zero = ⊥
  InnerAgain (Some f) (suc depth) = Again f (IsExpr 0 depth) (Stop 0)

  abbrev pub IsIndex : ℕ → Expr P → List (Tok P) → List (Tok P) → Type 0
  IsIndex depth e = Deeper depth (λ d. a w.LEFT_BRACKET ▷ IsExpr 5 d e ▷ a w.RIGHT_BRACKET)

  pub index_again : (o : Option (Parse P (Expr P))) (depth : ℕ) → InnerAgain o depth → (e : Expr P) (ts us : List (Tok P)) → IsIndex depth e ts us → index o ts ≡ Ok (e, us)
  unfolding index
  index_again o zero again e ts us took = absurd took
  index_again None (suc depth) again e ts us took = absurd again
  index_again (Some f) (suc depth) again e ts us (v1, (q, l), (v2, took, (r, c))) =
      step (expect w.LEFT_BRACKET ts) _ (q, v1) _ (expect_again w.LEFT_BRACKET q ts v1 refl l)
      (step (level f 5 v1) _ (e, v2) _ (level_again depth f again 5 v1 v2 e took (stop-at 5 w.RIGHT_BRACKET r v2 us (refl, refl, refl, refl) c))
      (step (expect w.RIGHT_BRACKET v2) _ (r, us) _ (expect_again w.RIGHT_BRACKET r v2 us refl c) refl))

  -- arguments as a list
  abbrev pub arg_list : Exprs P → List (Expr P)
  arg_list no_exprs = []
  arg_list (exprs e es) = e ∷ arg_list es

  pub from-args : (es : Exprs P) → exprs_of (arg_list es) ≡ es
  from-args no_exprs = refl
  from-args (exprs e es) = ap (exprs e) (from-args es)

  to-more : (depth : ℕ) (es : Exprs P) (ts us : List (Tok P)) → AreMoreArgs depth es ts us → Each (λ e. a w.COMMA ▷ IsExpr 5 depth e) (arg_list es) ts us
  to-more depth no_exprs ts us took = took
  to-more depth (exprs e es) ts us (vs, c, (ws, took, more)) = (ws, (vs, c, took), to-more depth es ws us more)

  to-list : (depth : ℕ) (es : Exprs P) (ts us : List (Tok P)) → AreArgs depth es ts us → SomeListed (IsExpr 5 depth) (arg_list es) ts us
  to-list depth no_exprs ts us took = took
  to-list depth (exprs e es) ts us (vs, took, more) = (vs, took, to-more depth es vs us more)

  pub args_again : (o : Option (Parse P (Expr P))) (depth : ℕ) → InnerAgain o depth → (es : Exprs P) (ts us : List (Tok P)) → InParens depth es ts us
      → args o ts ≡ Ok (arg_list es, us)
  unfolding args
  args_again o zero again es ts us took = absurd took
  args_again None (suc depth) again es ts us took = absurd again
  args_again (Some f) (suc depth) again es ts us (v1, l, (v2, took, r)) =
      in_parens_again (level f 5) (IsExpr 5 depth) (Stop 5) (level_again depth f again 5) (expr-shorter 5 depth) (λ ts us c. stop-a 5 w.COMMA ts us (refl, refl, refl, refl) c)
      (expr-begins w.RIGHT_PAREN (refl, refl, refl, refl, refl, λ n. refl) 5 depth) (stop-right_paren 5) (arg_list es) ts us (v1, l, (v2, to-list depth es v1 v2 took, r))

  factor-in : (depth : ℕ) (ts : List (Tok P)) → factor depth ts ≡ factor_in (inner depth) ts
  unfolding factor
  factor-in zero ts = refl
  factor-in (suc depth) ts = refl

  -- a factor whose first word is this name
  pub name-factor : (depth : ℕ) (n : Name) (p : P) (ts vs : List (Tok P)) → at (named n) p ts vs → factor depth ts ≡ named_factor (inner depth) (n, p) vs
  unfolding factor_in name
  name-factor depth n p ts vs took = factor-in depth ts ∙ ap (factor_in (inner depth)) took

  pub factor_again : (depth : ℕ) → Again {P = P} (factor depth) (IsExpr 0 depth) (Stop 0)
  unfolding factor factor_in simple_factor numeral expect named_factor minus_factor negation_factor paren_factor
  factor_again zero ts us (literal p n) took stop = ap (factor zero) took
  factor_again (suc depth) ts us (literal p n) took stop = ap (factor (suc depth)) took
  factor_again zero ts us (truth p true) took stop = ap (factor zero) took
  factor_again (suc depth) ts us (truth p true) took stop = ap (factor (suc depth)) took
  factor_again zero ts us (truth p false) took stop = ap (factor zero) took
  factor_again (suc depth) ts us (truth p false) took stop = ap (factor (suc depth)) took
  factor_again depth ts us (variable p n) took stop =
      name-factor depth n p ts us took
      ∙ if-false (is_at w.LEFT_BRACKET us) _ _ _ stop.bracket (if-false (is_at w.LEFT_PAREN us) _ _ _ stop.paren refl)
  factor_again zero ts us (element p n i) (vs, took, more) stop = absurd more
  factor_again (suc depth) ts us (element p n i) (vs, took, more) stop =
      name-factor (suc depth) n p ts vs took
      ∙ if-true (is_at w.LEFT_BRACKET vs) _ _ _ (ap (is_at w.LEFT_BRACKET) more.1.1)
      (step (index (Some (factor depth)) vs) _ (i, us) _ (index_again (Some (factor depth)) (suc depth) (factor_again depth) i vs us more) refl)
  factor_again zero ts us (call p n es) (vs, took, more) stop = absurd more
  factor_again (suc depth) ts us (call p n es) (vs, took, more) stop =
      name-factor (suc depth) n p ts vs took
      ∙ if-false (is_at w.LEFT_BRACKET vs) _ _ _ (ap (is_at w.LEFT_BRACKET) more.1.1)
      (if-true (is_at w.LEFT_PAREN vs) _ _ _ (ap (is_at w.LEFT_PAREN) more.1.1)
      (step (args (Some (factor depth)) vs) _ (arg_list es, us) _ (args_again (Some (factor depth)) (suc depth) (factor_again depth) es vs us more)
      (ap (λ x. Ok (call p n x, us)) (from-args es))))
  factor_again zero ts us (minus p e) took stop = absurd took
  factor_again (suc depth) ts us (minus p e) (vs, took, more) stop =
      ap (factor (suc depth)) took ∙ step (factor depth vs) _ (e, us) _ (factor_again depth vs us e more stop) refl
  factor_again zero ts us (negation p e) took stop = absurd took
  factor_again (suc depth) ts us (negation p e) (vs, took, more) stop =
      ap (factor (suc depth)) took ∙ step (factor depth vs) _ (e, us) _ (factor_again depth vs us e more stop) refl
  factor_again zero ts us (paren p e) took stop = absurd took
  factor_again (suc depth) ts us (paren p e) (vs, took, (v2, inside, (r, c))) stop =
      ap (factor (suc depth)) took
      ∙ step (level (factor depth) 5 vs) _ (e, v2) _ (level_again depth (factor depth) (factor_again depth) 5 vs v2 e inside (stop-right_paren 5 v2 us (r, c)))
      (step (expect w.RIGHT_PAREN v2) _ (r, us) _ (expect_again w.RIGHT_PAREN r v2 us refl c) refl)
  factor_again depth ts us (row e rs) (m, within, shape, took) stop = absurd (omega (arith, within))

  pub expr_again : (depth : ℕ) → Again {P = P} (expr depth) (IsExpr 5 depth) (Stop 5)
  expr_again depth = level_again depth (factor depth) (factor_again depth) 5

pub inner_again : (P : Type 0) (depth : ℕ) → InnerAgain (inner {P = P} depth) depth
inner_again P zero = tt
inner_again P (suc depth) = factor_again depth
