-- In an expression, a token that opens a level beyond the last is found as a fault of nesting.
use Rattle.std.proofs.Common.{◌≡◌, ℕ, zero, suc, ◌≤◌, ◌<◌, List, [], ◌∷◌, length, Bool, true, false, cond, nat_eq, inl, inr, Option, Some, None, refl, ap, sym, ◌∙◌, subst, arith}
use Rattle.std.proofs.lemmas.Bool.{eqb-true}
use Rattle.syntax_tree.specs.Plain.{Name, Op}
use Rattle.syntax_tree.specs.Placed.{Expr}
use Rattle.syntax.specs.Words as w
use Rattle.syntax.specs.Words.{Word, named, Tok}
use Rattle.syntax.specs.ExprGrammar.{◌▷◌, Each, OfLevel, IsExpr}
use Rattle.syntax.specs.Opening.{Part, Whole, UpToFactor, OpensFactor, OpensExpr, OpensIndex, OpensArgs}
use Rattle.syntax_reading.specs.ExprReading.{Parse, same_word, is_at, is_entry, expect, op_at, is_some, next, operand_by, operand_at, turns, operands_at, row_at, level, index, args, named_factor, minus_factor, negation_factor, paren_factor, factor_in, factor, inner, expr}
use Rattle.syntax_reading.proofs.Shorter.{a-shorter, expr-shorter}
use Rattle.syntax_reading.proofs.AgainBasics.{step, if-true, if-false, Again, expect_again, Stop, stop-a, op_again, stop-op}
use Rattle.syntax_reading.proofs.ExprAgain.{BeginsNone, IsPair, count-pairs, operand_again, pair-goes, pair-starts, level_again, expr-begins, expr-entry, InnerAgain, name-factor, factor_again}
use Rattle.syntax_reading.proofs.DeepBasics.{at-fault, Finds, same-fault, finds-here, each_finds, in_parens_finds}

module _ {P : Type 0} where
  -- ---- rows

  -- operators behind the operands as operators before them
  record Turned (l depth : ℕ) (r : Expr P × Op) (rs : List (Expr P × Op)) (ts ws : List (Tok P)) : Type 0 where
    pub pairs : List (Op × Expr P)
    pub last : Op
    pub us : List (Tok P)
    pub vs : List (Tok P)
    pub first : IsExpr l depth r.0 ts us
    pub more : Each (IsPair l depth) pairs us vs
    pub final : OfLevel (suc l) last vs ws
    pub count : length pairs ≡ length rs
    pub stop : Stop l us

  turned : (l depth : ℕ) (r : Expr P × Op) (rs : List (Expr P × Op)) (ts ws : List (Tok P)) → Each (λ r. IsExpr l depth r.0 ▷ OfLevel (suc l) r.1) (r ∷ rs) ts ws
      → Turned l depth r rs ts ws
  turned l depth r [] ts ws (v1, (v2, took, o), same) =
      record {
        pairs = [];
        last = r.1;
        us = v2;
        vs = v2;
        first = took;
        more = refl;
        final = subst (λ v. OfLevel (suc l) r.1 v2 v) same o;
        count = refl;
        stop = stop-op l r.1 v2 v1 o;
      }
  turned l depth r (s ∷ rs) ts ws (v1, (v2, took, o), more) =
      let next = turned l depth s rs v1 ws more in
      record {
        pairs = (r.1, s.0) ∷ next.pairs;
        last = next.last;
        us = v2;
        vs = next.vs;
        first = took;
        more = (next.us, (v1, o, next.first), next.more);
        final = next.final;
        count = ap (λ n. suc n) next.count;
        stop = stop-op l r.1 v2 v1 o;
      }

  few-by : (l k : ℕ) (ts : List (Tok P)) → k < length ts → (l ≡ 3 → suc k ≤ 1) → (b : Bool) → nat_eq l 3 ≡ b → k < cond b 1 (length ts)
  few-by l k ts h one true is = let few = one (eqb-true l 3 is) in omega (arith, few)
  few-by l k ts h one false is = h

  module _ (l depth : ℕ) (p : Parse P (Expr P)) (again : Again p (IsExpr l depth) (Stop l)) (O : Part P) (finds : Finds p (UpToFactor l depth ▷ O)) where
    operand_finds : Finds (operand_at (suc l) p) (Whole (OfLevel (suc l)) ▷ UpToFactor l depth ▷ O)
    unfolding operand_at
    operand_finds ts us (vs, (op, o), rest) =
        ap (λ x. operand_by p x ts) (op_again (suc l) op ts vs o) ∙ at-fault (p (next ts)) _ _ (ap (λ x. p (next x)) o.1.1 ∙ finds vs us rest)

    row_finds : Finds (row_at (suc l) p) (UpToFactor (suc l) depth ▷ O)
    unfolding row_at operands_at UpToFactor
    row_finds ts us (v2, (v1, ([], (one, same)), up), o) =
        at-fault (p ts) _ _ (finds ts us (subst (λ t. (UpToFactor l depth ▷ O) t us) (sym same) (v2, up, o)))
    row_finds ts us (v2, (v1, (r ∷ rs, (one, took)), up), o) =
        let x = turned l depth r rs ts v1 took in
        let long = count-pairs l depth x.pairs x.us x.vs x.more in
        let some = a-shorter _ x.vs v1 x.final.1 in
        let few = few-by (suc l) (length x.pairs) x.us (omega (arith, long, some)) (λ (three : suc l ≡ 3). let h = one three in let c = x.count in omega (arith, h, c)) (nat_eq (suc l) 3) refl in
        step (p ts) _ (r.0, x.us) _ (again ts x.us r.0 x.first x.stop)
        (at-fault (operands_at (suc l) p x.us) _ _
        (each_finds (λ us. is_some (op_at (suc l) us)) (operand_at (suc l) p) (IsPair l depth) (Stop l) (operand_again l depth p again)
        (pair-goes l depth p again) (pair-starts l depth p again) (Whole (OfLevel (suc l)) ▷ UpToFactor l depth ▷ O) operand_finds
        (λ ts us (vs, (op, o), rest). ap is_some (op_again (suc l) op ts vs o)) (λ ts us (vs, (op, o), rest). stop-op l op ts vs o)
        (turns (suc l) x.us) x.pairs x.us x.vs us x.more (v1, (x.last, x.final), (v2, up, o)) few))

  level_finds : (depth : ℕ) (p : Parse P (Expr P)) → Again p (IsExpr 0 depth) (Stop 0) → (O : Part P) → Finds p O → (l : ℕ) → Finds (level p l) (UpToFactor l depth ▷ O)
  unfolding level UpToFactor
  level_finds depth p again O finds zero ts us (vs, same, o) = finds ts us (subst (λ t. O t us) (sym same) o)
  level_finds depth p again O finds (suc l) ts us o =
      row_finds l depth (level p l) (level_again depth p again l) O (level_finds depth p again O finds l) ts us o

  -- ---- how they begin

  pub index-begins : (v : Word) (b : Bool) → same_word w.LEFT_BRACKET v ≡ b → (depth : ℕ) (ts us : List (Tok P)) → OpensIndex depth ts us → is_at v ts ≡ b
  index-begins v b is zero ts us (same, (vs, (q, took))) = ap (is_at v) took ∙ is
  index-begins v b is (suc depth) ts us (vs, (q, took), o) = ap (is_at v) took ∙ is

  pub args-begin : (v : Word) (b : Bool) → same_word w.LEFT_PAREN v ≡ b → (depth : ℕ) (ts us : List (Tok P)) → OpensArgs depth ts us → is_at v ts ≡ b
  args-begin v b is zero ts us (same, (vs, (q, took))) = ap (is_at v) took ∙ is
  args-begin v b is (suc depth) ts us (vs, (q, took), o) = ap (is_at v) took ∙ is

  factor-begins : (v : Word) → BeginsNone v → (depth : ℕ) (ts us : List (Tok P)) → OpensFactor depth ts us → is_at v ts ≡ false
  unfolding OpensFactor
  factor-begins v none zero ts us (inl (same, (vs, (q, took)))) = ap (is_at v) took ∙ none.2
  factor-begins v none zero ts us (inr (inl (same, (vs, (q, took))))) = ap (is_at v) took ∙ none.3
  factor-begins v none zero ts us (inr (inr (inl (same, (vs, (q, took)))))) = ap (is_at v) took ∙ none.4
  factor-begins v none zero ts us (inr (inr (inr (inl (vs, (n, (q, took)), o))))) = ap (is_at v) took ∙ none.5 n
  factor-begins v none zero ts us (inr (inr (inr (inr (vs, (n, (q, took)), o))))) = ap (is_at v) took ∙ none.5 n
  factor-begins v none (suc depth) ts us (vs, inl (q, took), o) = ap (is_at v) took ∙ none.2
  factor-begins v none (suc depth) ts us (vs, inr (inl (q, took)), o) = ap (is_at v) took ∙ none.3
  factor-begins v none (suc depth) ts us (vs, inr (inr (inl (v2, (q, took), up))), o) = ap (is_at v) took ∙ none.4
  factor-begins v none (suc depth) ts us (vs, inr (inr (inr (inl (v2, (n, (q, took)), up)))), o) = ap (is_at v) took ∙ none.5 n
  factor-begins v none (suc depth) ts us (vs, inr (inr (inr (inr (v2, (n, (q, took)), up)))), o) = ap (is_at v) took ∙ none.5 n

  pub opens-begins : (v : Word) → BeginsNone v → (l depth : ℕ) (ts us : List (Tok P)) → (UpToFactor l depth ▷ OpensFactor depth) ts us → is_at v ts ≡ false
  unfolding UpToFactor
  opens-begins v none zero depth ts us (vs, same, o) = ap (is_at v) same ∙ factor-begins v none depth vs us o
  opens-begins v none (suc l) depth ts us (vs, (v2, ([], (one, same)), up), o) = ap (is_at v) same ∙ opens-begins v none l depth v2 us (vs, up, o)
  opens-begins v none (suc l) depth ts us (vs, (v2, (r ∷ rs, (one, (v3, (v4, took, op), more))), up), o) = expr-begins v none l depth r.0 ts v4 took

  factor-entry : (depth : ℕ) (ts us : List (Tok P)) → OpensFactor depth ts us → is_entry ts ≡ false
  unfolding OpensFactor
  factor-entry zero ts us (inl (same, (vs, (q, took)))) = ap is_entry took
  factor-entry zero ts us (inr (inl (same, (vs, (q, took))))) = ap is_entry took
  factor-entry zero ts us (inr (inr (inl (same, (vs, (q, took)))))) = ap is_entry took
  factor-entry zero ts us (inr (inr (inr (inl (vs, (n, (q, took)), (same, (v2, (r, c)))))))) = ap is_entry took ∙ ap (is_at w.DOT) c
  factor-entry zero ts us (inr (inr (inr (inr (vs, (n, (q, took)), (same, (v2, (r, c)))))))) = ap is_entry took ∙ ap (is_at w.DOT) c
  factor-entry (suc depth) ts us (vs, inl (q, took), o) = ap is_entry took
  factor-entry (suc depth) ts us (vs, inr (inl (q, took)), o) = ap is_entry took
  factor-entry (suc depth) ts us (vs, inr (inr (inl (v2, (q, took), up))), o) = ap is_entry took
  factor-entry (suc depth) ts us (vs, inr (inr (inr (inl (v2, (n, (q, took)), (v3, (r, c), up))))), o) = ap is_entry took ∙ ap (is_at w.DOT) c
  factor-entry (suc depth) ts us (vs, inr (inr (inr (inr (v2, (n, (q, took)), (v3, (r, c), up))))), o) = ap is_entry took ∙ ap (is_at w.DOT) c

  pub opens-entry : (l depth : ℕ) (ts us : List (Tok P)) → (UpToFactor l depth ▷ OpensFactor depth) ts us → is_entry ts ≡ false
  unfolding UpToFactor
  opens-entry zero depth ts us (vs, same, o) = ap is_entry same ∙ factor-entry depth vs us o
  opens-entry (suc l) depth ts us (vs, (v2, ([], (one, same)), up), o) = ap is_entry same ∙ opens-entry l depth v2 us (vs, up, o)
  opens-entry (suc l) depth ts us (vs, (v2, (r ∷ rs, (one, (v3, (v4, took, op), more))), up), o) =
      expr-entry l depth r.0 ts v4 took (stop-op l r.1 v4 v3 op).dot

  -- ---- factors

  -- what reads factors one level deeper finds it there
  abbrev pub InnerFinds : Option (Parse P (Expr P)) → ℕ → Type 0
  InnerFinds None zero = Unit {0}
  InnerFinds None (suc depth) = ⊥
  InnerFinds (Some f) zero = ⊥
  InnerFinds (Some f) (suc depth) = Finds f (OpensFactor depth)

  pub index_finds : (o : Option (Parse P (Expr P))) (depth : ℕ) → InnerAgain o depth → InnerFinds o depth → Finds (index o) (OpensIndex depth)
  unfolding index
  index_finds None zero again finds ts us (same, there) = same-fault ts us same (Expr P)
  index_finds None (suc depth) again finds ts us o = absurd finds
  index_finds (Some f) zero again finds ts us o = absurd finds
  index_finds (Some f) (suc depth) again finds ts us (v1, (q, l), o) =
      step (expect w.LEFT_BRACKET ts) _ (q, v1) _ (expect_again w.LEFT_BRACKET q ts v1 refl l)
      (at-fault (level f 5 v1) _ _ (level_finds depth f again (OpensFactor depth) finds 5 v1 us o))

  pub args_finds : (o : Option (Parse P (Expr P))) (depth : ℕ) → InnerAgain o depth → InnerFinds o depth → Finds (args o) (OpensArgs depth)
  unfolding args
  args_finds None zero again finds ts us (same, there) = same-fault ts us same (List (Expr P))
  args_finds None (suc depth) again finds ts us o = absurd finds
  args_finds (Some f) zero again finds ts us o = absurd finds
  args_finds (Some f) (suc depth) again finds ts us o =
      in_parens_finds (level f 5) (IsExpr 5 depth) (Stop 5) (level_again depth f again 5) (expr-shorter 5 depth) (λ ts us c. stop-a 5 w.COMMA ts us (refl, refl, refl, refl) c)
      (OpensExpr depth) (level_finds depth f again (OpensFactor depth) finds 5) (expr-begins w.RIGHT_PAREN (refl, refl, refl, refl, refl, λ n. refl) 5 depth)
      (opens-begins w.RIGHT_PAREN (refl, refl, refl, refl, refl, λ n. refl) 5 depth) ts us o

  -- behind a name
  named_index_finds : (o : Option (Parse P (Expr P))) (depth : ℕ) (m : Name × P) → InnerAgain o depth → InnerFinds o depth → Finds (named_factor o m) (OpensIndex depth)
  unfolding named_factor
  named_index_finds o depth m again finds ts us opens =
      if-true (is_at w.LEFT_BRACKET ts) _ _ _ (index-begins w.LEFT_BRACKET true refl depth ts us opens) (at-fault (index o ts) _ _ (index_finds o depth again finds ts us opens))

  named_args_finds : (o : Option (Parse P (Expr P))) (depth : ℕ) (m : Name × P) → InnerAgain o depth → InnerFinds o depth → Finds (named_factor o m) (OpensArgs depth)
  unfolding named_factor
  named_args_finds o depth m again finds ts us opens =
      if-false (is_at w.LEFT_BRACKET ts) _ _ _ (args-begin w.LEFT_BRACKET false refl depth ts us opens)
      (if-true (is_at w.LEFT_PAREN ts) _ _ _ (args-begin w.LEFT_PAREN true refl depth ts us opens) (at-fault (args o ts) _ _ (args_finds o depth again finds ts us opens)))

  factor_finds : (depth : ℕ) → Finds {P = P} (factor depth) (OpensFactor depth)
  unfolding factor factor_in minus_factor negation_factor paren_factor expect OpensFactor
  factor_finds zero ts us (inl o) = finds-here (factor zero) w.MINUS (λ q vs. refl) ts us o
  factor_finds zero ts us (inr (inl o)) = finds-here (factor zero) w.NOT (λ q vs. refl) ts us o
  factor_finds zero ts us (inr (inr (inl o))) = finds-here (factor zero) w.LEFT_PAREN (λ q vs. refl) ts us o
  factor_finds zero ts us (inr (inr (inr (inl (vs, (n, (q, took)), o))))) = name-factor zero n q ts vs took ∙ named_index_finds None zero (n, q) tt tt vs us o
  factor_finds zero ts us (inr (inr (inr (inr (vs, (n, (q, took)), o))))) = name-factor zero n q ts vs took ∙ named_args_finds None zero (n, q) tt tt vs us o
  factor_finds (suc depth) ts us (vs, inl (q, took), o) = ap (factor (suc depth)) took ∙ at-fault (factor depth vs) _ _ (factor_finds depth vs us o)
  factor_finds (suc depth) ts us (vs, inr (inl (q, took)), o) = ap (factor (suc depth)) took ∙ at-fault (factor depth vs) _ _ (factor_finds depth vs us o)
  factor_finds (suc depth) ts us (vs, inr (inr (inl (v1, (q, took), up))), o) =
      ap (factor (suc depth)) took
      ∙ at-fault (level (factor depth) 5 v1) _ _ (level_finds depth (factor depth) (factor_again depth) (OpensFactor depth) (factor_finds depth) 5 v1 us (vs, up, o))
  factor_finds (suc depth) ts us (vs, inr (inr (inr (inl (v1, (n, (q, took)), (v2, l, up))))), o) =
      name-factor (suc depth) n q ts v1 took
      ∙ named_index_finds (Some (factor depth)) (suc depth) (n, q) (factor_again depth) (factor_finds depth) v1 us (v2, l, (vs, up, o))
  factor_finds (suc depth) ts us (vs, inr (inr (inr (inr (v1, (n, (q, took)), (v2, l, (v3, others, up)))))), o) =
      name-factor (suc depth) n q ts v1 took
      ∙ named_args_finds (Some (factor depth)) (suc depth) (n, q) (factor_again depth) (factor_finds depth) v1 us (v2, l, (v3, others, (vs, up, o)))

  pub expr_finds : (depth : ℕ) → Finds {P = P} (expr depth) (OpensExpr depth)
  expr_finds depth = level_finds depth (factor depth) (factor_again depth) (OpensFactor depth) (factor_finds depth) 5

pub inner_finds : (P : Type 0) (depth : ℕ) → InnerFinds (inner {P = P} depth) depth
inner_finds P zero = tt
inner_finds P (suc depth) = factor_finds depth
