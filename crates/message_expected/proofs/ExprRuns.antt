-- The automaton reads constants, factors and expressions.
use Rattle.std.proofs.Common.{◌≡◌, ℕ, zero, suc, ◌≤◌, ◌||◌, not, ◌==◌, List, [], ◌∷◌, ◌++◌, length, Bool, true, false, cond, Option, None, Some, Result, Ok, Err, refl, ap, sym, ◌∙◌, subst, append_assoc, arith}
use Rattle.std.proofs.lemmas.Bool.{eqb-true}
use Rattle.std.specs.Prelude.{bytes_eq, codes}
use Rattle.syntax.specs.declared.token.keyword.TheConstants as k
use Rattle.syntax.specs.declared.token.sign.TheConstants as m
use Rattle.syntax.specs.Words as w
use Rattle.syntax.specs.Words.{Word, named, number, keyword, sign, Tok}
use Rattle.syntax_tree.specs.Plain.{Name, Op, or, and, equal, unequal, less, less_equal, greater, greater_equal, add, sub, mul, div, remainder}
use Rattle.syntax_tree.specs.Placed.{Expr, call, element, exprs_of, truth, variable}
use Rattle.syntax_reading.specs.ExprReading.{Fault, syntax, ◌>>=◌, Parse, refuse, same_word, is_at, is_named, is_numeral, is_literal, expect, name, numeral, each, many, behind_comma, listed, some_listed, in_parens, signless, unsigned, constant, op_of, of_level, op_at, is_some, operand_by, operand_at, operands_at, row_at, level, inside, index, args, named_factor, minus_factor, negation_factor, paren_factor, simple_factor, factor_in, factor, inner, expr}
use Rattle.message_expected.specs.Automaton as a
use Rattle.message_expected.specs.Automaton.{Head, Turn, along, is_key, is_optional, is_refused, is_sign, kind_of_word, level_of, operators, operators_behind, refused, turn, where_so}
use Rattle.message_expected.specs.declared.kinds.Kind.TheVariants as of
use Rattle.message_expected.specs.declared.symbols.Symbol.{Symbol}
use Rattle.message_expected.specs.declared.symbols.Symbol.TheVariants as s
use Rattle.message_expected.proofs.Runs.{Answer, Does, Many, Reads, Same, Short, along-name, along-number, along-word, begun, bind, branch, deep-same, done, done-last, each-runs, empty, go, inner-same, key_same, last, many-where, mark, maybe-reads, missing, must, must-all, name_same, no-name, none, none-begun, number_same, of-head, of-result, onto, passed, past-word, run, sign_same, turn_at, via}

-- ---- operators

abbrev Leveled : ℕ → Word → Type 0
Leveled l v = is_some (of_level l (op_of v)) ≡ (level_of (kind_of_word v) == l)

some-if : (b : Bool) (op : Op) → is_some (cond b (Some op) None) ≡ b
some-if true op = refl
some-if false op = refl

one-of : (Claim : ℕ → Type 0) (n x : ℕ) → Claim n → (x == n ≡ false → Claim x) → Claim x
one-of Claim n x here other = by (x == n) refl
  where
    by : (b : Bool) → x == n ≡ b → Claim x
    by true is = subst Claim (sym (eqb-true x n is)) here
    by false is = other is

key_op : (b1 b2 b3 b4 : Bool) → Option Op
key_op b1 b2 b3 b4 = cond b1 (Some or) (cond b2 (Some and) (cond b3 (Some div) (cond b4 (Some remainder) None)))

key_level : (b1 b2 b3 b4 : Bool) → ℕ
key_level b1 b2 b3 b4 = cond ((false || b3) || b4) 1 (cond b2 4 (cond b1 5 0))

sign_op : (b1 b2 b3 b4 b5 b6 b7 b8 b9 : Bool) → Option Op
sign_op b1 b2 b3 b4 b5 b6 b7 b8 b9 =
    cond b1 (Some equal) (cond b2 (Some unequal) (cond b3 (Some less) (cond b4 (Some less_equal) (cond b5 (Some greater) (cond b6 (Some greater_equal) (cond b7 (Some add) (cond b8 (Some sub) (cond b9 (Some mul) None))))))))

sign_level : (b1 b2 b3 b4 b5 b6 b7 b8 b9 : Bool) → ℕ
sign_level b1 b2 b3 b4 b5 b6 b7 b8 b9 =
    cond ((b9 || false) || false) 1 (cond (b7 || b8) 2 (cond (((((b1 || b2) || b3) || b4) || b5) || b6) 3 0))

pub level_same : (l : ℕ) → false ≡ (0 == l) → (v : Word) → Leveled l v
unfolding level_of key_op key_level sign_op sign_level
level_same l zero_not (named n) = by (bytes_eq n (codes "deadline"))
  where
    by : (b : Bool) → false ≡ (level_of (cond b of.Deadline of.Name) == l)
    by true = zero_not
    by false = zero_not
level_same l zero_not (number n) = zero_not
level_same l zero_not (keyword x) =
    one-of (λ x. Leveled l (keyword x)) k.OR x (some-if (5 == l) or) (λ e1.
    one-of (λ x. Leveled l (keyword x)) k.AND x (some-if (4 == l) and) (λ e2.
    one-of (λ x. Leveled l (keyword x)) k.DIV x (some-if (1 == l) div) (λ e3.
    one-of (λ x. Leveled l (keyword x)) k.MOD x (some-if (1 == l) remainder) (λ e4.
    (λ i. is_some (of_level l (key_op (e1 i) (e2 i) (e3 i) (e4 i)))) ∙ zero_not ∙ sym (λ i. key_level (e1 i) (e2 i) (e3 i) (e4 i) == l)))))
level_same l zero_not (sign x) =
    one-of (λ x. Leveled l (sign x)) m.EQUAL x (some-if (3 == l) equal) (λ e1.
    one-of (λ x. Leveled l (sign x)) m.UNEQUAL x (some-if (3 == l) unequal) (λ e2.
    one-of (λ x. Leveled l (sign x)) m.LESS x (some-if (3 == l) less) (λ e3.
    one-of (λ x. Leveled l (sign x)) m.LESS_EQUAL x (some-if (3 == l) less_equal) (λ e4.
    one-of (λ x. Leveled l (sign x)) m.GREATER x (some-if (3 == l) greater) (λ e5.
    one-of (λ x. Leveled l (sign x)) m.GREATER_EQUAL x (some-if (3 == l) greater_equal) (λ e6.
    one-of (λ x. Leveled l (sign x)) m.PLUS x (some-if (2 == l) add) (λ e7.
    one-of (λ x. Leveled l (sign x)) m.MINUS x (some-if (2 == l) sub) (λ e8.
    one-of (λ x. Leveled l (sign x)) m.TIMES x (some-if (1 == l) mul) (λ e9.
    (λ i. is_some (of_level l (sign_op (e1 i) (e2 i) (e3 i) (e4 i) (e5 i) (e6 i) (e7 i) (e8 i) (e9 i)))) ∙ zero_not
    ∙ sym (λ i. sign_level (e1 i) (e2 i) (e3 i) (e4 i) (e5 i) (e6 i) (e7 i) (e8 i) (e9 i) == l))))))))))

abbrev pub operator_turn : ℕ → Bool → Turn
operator_turn l b = cond b (record { head = along (s.Factor ∷ []); behind = operators_behind l }) (record { head = refused; behind = [] })

pub operator-head : (l : ℕ) (b : Bool) → is_refused (operator_turn l b).head ≡ not b
operator-head l true = refl
operator-head l false = refl

module _ {P : Type 0} (d : ℕ) where
  -- ---- constants

  -- a name or a number, and then these
  pub either-word : {A : Type 0} (symbols : List Symbol) (f : (ℕ × P) × List (Tok P) → Result (A × List (Tok P)) Fault) (g : (Name × P) × List (Tok P) → Result (A × List (Tok P)) Fault)
      (t : Tok P) (ts : List (Tok P)) → ((n : ℕ × P) → Reads d (λ v. f (n, v)) symbols) → ((n : Name × P) → Reads d (λ v. g (n, v)) symbols)
      → Does d (where_so (a.is_name (kind_of_word t.word) || a.is_number (kind_of_word t.word)) symbols) (λ ts. cond (is_literal ts) (numeral ts >>= f) (name ts >>= g)) t ts
  either-word {A} symbols f g t ts hf hg = by (is_numeral t.word) (is_named t.word) refl refl
    where
      tests : (a.is_name (kind_of_word t.word) || a.is_number (kind_of_word t.word)) ≡ (is_named t.word || is_numeral t.word)
      tests = λ i. name_same t.word i || number_same t.word i

      or-true : (b : Bool) → b || true ≡ true
      or-true true = refl
      or-true false = refl

      at : (b : Bool) → (is_named t.word || is_numeral t.word) ≡ b → Same d (λ stack. go d stack (where_so b symbols) t ts) (cond (is_numeral t.word) (numeral (t ∷ ts) >>= f) (name (t ∷ ts) >>= g)) (length ts)
          → Same d (λ stack. go d stack (where_so (a.is_name (kind_of_word t.word) || a.is_number (kind_of_word t.word)) symbols) t ts) (cond (is_numeral t.word) (numeral (t ∷ ts) >>= f) (name (t ∷ ts) >>= g)) (length ts)
      at b is h = of-head d (λ x stack. go d stack x t ts) (where_so (a.is_name (kind_of_word t.word) || a.is_number (kind_of_word t.word)) symbols) (where_so b symbols) (cond (is_numeral t.word) (numeral (t ∷ ts) >>= f) (name (t ∷ ts) >>= g)) (length ts) (ap (λ b. where_so b symbols) (tests ∙ is)) h

      by : (x y : Bool) → is_numeral t.word ≡ x → is_named t.word ≡ y
          → Same d (λ stack. go d stack (where_so (a.is_name (kind_of_word t.word) || a.is_number (kind_of_word t.word)) symbols) t ts) (cond (is_numeral t.word) (numeral (t ∷ ts) >>= f) (name (t ∷ ts) >>= g)) (length ts)
      by true y is also =
          at true (ap (λ b. is_named t.word || b) is ∙ or-true (is_named t.word)) (of-result d _ _ (numeral (t ∷ ts) >>= f) (length ts) (ap (λ b. cond b (numeral (t ∷ ts) >>= f) (name (t ∷ ts) >>= g)) is) (along-number d f symbols t ts is hf))
      by false true is also =
          at true (ap (λ b. b || is_numeral t.word) also) (of-result d _ _ (name (t ∷ ts) >>= g) (length ts) (ap (λ b. cond b (numeral (t ∷ ts) >>= f) (name (t ∷ ts) >>= g)) is) (along-name d g symbols t ts also hg))
      by false false is also =
          at false (λ i. also i || is i) (of-result d _ _ (refuse (t ∷ ts)) (length ts) (ap (λ b. cond b (numeral (t ∷ ts) >>= f) (name (t ∷ ts) >>= g)) is ∙ no-name g t ts also) (none-begun d t ts (length ts)))

  signless_reads : (p : P) (b : Bool) → Reads d (signless p b) (s.Unsigned ∷ [])
  unfolding signless turn a.unsigned name
  signless_reads p b = must d s.Unsigned (signless p b) refl refl (λ t ts. either-word [] _ _ t ts (λ n. done d _) (λ n. done d _))

  pub constant_does : (t : Tok P) (ts : List (Tok P)) → Does d (a.constant (kind_of_word t.word)) constant t ts
  unfolding constant unsigned a.constant a.unsigned
  constant_does t ts =
      branch d (λ h stack. go d stack h t ts) (is_sign m.MINUS (kind_of_word t.word)) (same_word t.word w.MINUS) (along (s.Unsigned ∷ [])) (a.unsigned (kind_of_word t.word)) _ _ (length ts) (sign_same m.MINUS t.word)
      (λ is. along-word d w.MINUS _ (s.Unsigned ∷ []) t ts is (λ q. signless_reads q true)) (λ is. either-word [] _ _ t ts (λ n. done d _) (λ n. done d _))

  pub constant_reads : Reads d (constant {P = P}) (s.Constant ∷ [])
  unfolding turn constant unsigned name
  constant_reads = must d s.Constant constant refl refl constant_does

  -- ---- rows of operators, by what reads factors

  module _ (f : Parse P (Expr P)) (h : Reads d f (s.Factor ∷ [])) where
    abbrev pairing : Op → Expr P × List (Tok P) → Result ((Op × Expr P) × List (Tok P)) Fault
    pairing op x = Ok ((op, x.0), x.1)

    abbrev LevelReads : ℕ → Type 0
    LevelReads l = Reads d (level f l) (s.Factor ∷ operators l)

    abbrev pub begins-at : ℕ → List (Tok P) → Bool
    begins-at l us = is_some (op_at l us)

    module _ (l : ℕ) (below : ℕ) (p : Parse P (Expr P)) (symbols : List Symbol) (reads : Reads d p (s.Factor ∷ symbols)) (zero_not : false ≡ (0 == l)) where
      -- the operator with its operand
      operand_is : (t : Tok P) (ts : List (Tok P)) → is_some (op_at l (t ∷ ts)) ≡ true → (op : Op) × (operand_at l p (t ∷ ts) ≡ (p ts >>= pairing op))
      unfolding operand_at
      operand_is t ts is = by (op_at l (t ∷ ts)) is
        where
          by : (o : Option Op) → is_some o ≡ true → (op : Op) × (operand_by p o (t ∷ ts) ≡ (p ts >>= pairing op))
          by (Some op) is = (op, refl)
          by None is = cc

      operator-refused : (t : Tok P) (ts : List (Tok P)) → is_refused (turn_at (s.Operators l) t).head ≡ not (is_some (op_at l (t ∷ ts)))
      unfolding turn
      operator-refused t ts = operator-head l (level_of (kind_of_word t.word) == l) ∙ ap not (sym (level_same l zero_not t.word))

      -- the operand, and then these
      operand_runs : (behind : List Symbol) → operators_behind l ≡ symbols ++ behind → (t : Tok P) (ts : List (Tok P)) → is_some (op_at l (t ∷ ts)) ≡ true → (stack : List Symbol)
          → go d ((turn_at (s.Operators l) t).behind ++ stack) (turn_at (s.Operators l) t).head t ts ≡ (operand_at l p (t ∷ ts) >>= onto d (behind ++ stack))
      unfolding turn
      operand_runs behind all t ts is stack =
          let (op, same) = operand_is t ts is in
          ap (λ b. turned b) (sym (level_same l zero_not t.word) ∙ is) ∙ ap (λ g. run d (s.Factor ∷ (g ++ stack)) ts) all ∙ ap (λ g. run d (s.Factor ∷ g) ts) (append_assoc symbols behind stack)
          ∙ (reads ts).runs (behind ++ stack) ∙ with-op op (p ts) ∙ sym (ap (λ r. r >>= onto d (behind ++ stack)) same)
        where
          turned : Bool → Answer
          turned b = go d ((operator_turn l b).behind ++ stack) (operator_turn l b).head t ts

          with-op : (op : Op) (r : Result (Expr P × List (Tok P)) Fault) → (r >>= onto d (behind ++ stack)) ≡ ((r >>= pairing op) >>= onto d (behind ++ stack))
          with-op op (Ok x) = refl
          with-op op (Err e) = refl

      operand_short : (t : Tok P) (ts : List (Tok P)) → is_some (op_at l (t ∷ ts)) ≡ true → Short (operand_at l p (t ∷ ts)) (length ts)
      operand_short t ts is = let (op, same) = operand_is t ts is in subst (λ r. Short r (length ts)) (sym same) (by op (p ts) (reads ts).short)
        where
          by : (op : Op) (r : Result (Expr P × List (Tok P)) Fault) → Short r (length ts) → Short (r >>= pairing op) (length ts)
          by op (Ok x) short = short
          by op (Err e) short = tt

      many-operators : Many d (s.Operators l) (begins-at l) (operand_at l p) → (n : ℕ) (ts : List (Tok P)) → length ts ≤ n → Same d (λ stack. run d (s.Operators l ∷ stack) ts) (each (begins-at l) (operand_at l p) n ts) (length ts)
      many-operators all n ts few = each-runs d (s.Operators l) (begins-at l) (operand_at l p) all n ts few

      pub operators_many : operators_behind l ≡ symbols ++ s.Operators l ∷ [] → (n : ℕ) (ts : List (Tok P)) → length ts ≤ n → Same d (λ stack. run d (s.Operators l ∷ stack) ts) (each (begins-at l) (operand_at l p) n ts) (length ts)
      operators_many all =
          many-operators (record { may = refl; keeps = refl; ends = refl; refuses = operator-refused; runs = λ t ts is stack. operand_runs (s.Operators l ∷ []) all t ts is stack; short = operand_short })

      -- a comparison and no other
      one-more : (t : Tok P) (ts : List (Tok P)) → Result (List (Op × Expr P) × List (Tok P)) Fault
      one-more t ts = operand_at l p (t ∷ ts) >>= λ x. Ok (x.0 ∷ [], x.1)

      pub operators_one : operators_behind l ≡ symbols ++ [] → (ts : List (Tok P)) → Same d (λ stack. run d (s.Operators l ∷ stack) ts) (each (begins-at l) (operand_at l p) 1 ts) (length ts)
      unfolding each
      operators_one all =
          maybe-reads d (s.Operators l) (begins-at l) (λ ts. operand_at l p ts >>= λ x. Ok (x.0 ∷ [], x.1)) [] (record {
            may = refl;
            keeps = refl;
            ends = refl;
            refuses = operator-refused;
            does = λ t ts is. record {
              runs = λ stack. operand_runs [] all t ts is stack ∙ list-of (operand_at l p (t ∷ ts)) stack;
              short = short-of (operand_at l p (t ∷ ts)) (length ts) (operand_short t ts is);
            };
          })
        where
          listing : (Op × Expr P) × List (Tok P) → Result (List (Op × Expr P) × List (Tok P)) Fault
          listing x = Ok (x.0 ∷ [], x.1)

          list-of : (r : Result ((Op × Expr P) × List (Tok P)) Fault) (stack : List Symbol) → (r >>= onto d stack) ≡ ((r >>= listing) >>= onto d stack)
          list-of (Ok x) stack = refl
          list-of (Err e) stack = refl

          short-of : (r : Result ((Op × Expr P) × List (Tok P)) Fault) (n : ℕ) → Short r n → Short (r >>= listing) n
          short-of (Ok x) n short = short
          short-of (Err e) n short = tt

    joins : (l : ℕ) → LevelReads l → Reads d (operands_at (suc l) (level f l)) (s.Operators (suc l) ∷ []) → LevelReads (suc l)
    unfolding level row_at
    joins l reads more = bind d (level f l) _ (s.Factor ∷ operators l) (s.Operators (suc l) ∷ []) reads (λ x. last d (operands_at (suc l) (level f l)) _ (s.Operators (suc l) ∷ []) more (λ rs. done d _))

    level_0 : LevelReads 0
    unfolding level
    level_0 = h

    level_1 : LevelReads 1
    unfolding operands_at
    level_1 = joins 0 level_0 (λ ts. operators_many 1 0 (level f 0) [] level_0 refl refl (length ts) ts (omega arith))

    level_2 : LevelReads 2
    unfolding operands_at
    level_2 = joins 1 level_1 (λ ts. operators_many 2 1 (level f 1) (operators 1) level_1 refl refl (length ts) ts (omega arith))

    level_3 : LevelReads 3
    unfolding operands_at
    level_3 = joins 2 level_2 (λ ts. operators_one 3 2 (level f 2) (operators 2) level_2 refl refl ts)

    level_4 : LevelReads 4
    unfolding operands_at
    level_4 = joins 3 level_3 (λ ts. operators_many 4 3 (level f 3) (operators 3) level_3 refl refl (length ts) ts (omega arith))

    level_5 : LevelReads 5
    unfolding operands_at
    level_5 = joins 4 level_4 (λ ts. operators_many 5 4 (level f 4) (operators 4) level_4 refl refl (length ts) ts (omega arith))

    -- an expression is a factor, and then operators
    pub expression_runs : (stack : List Symbol) (ts : List (Tok P)) → run d (s.Expression ∷ stack) ts ≡ run d (s.Factor ∷ (operators 5 ++ stack)) ts
    unfolding turn
    expression_runs stack [] = missing P d s.Expression stack refl ∙ sym (missing P d s.Factor (operators 5 ++ stack) refl)
    expression_runs stack (t ∷ ts) = begun d s.Expression stack t ts refl ∙ sym (begun d s.Factor (operators 5 ++ stack) t ts refl)

    pub level_reads : Reads d (level f 5) (s.Expression ∷ [])
    level_reads ts = via d _ _ (level f 5 ts) (length ts) (length ts) (omega arith) (λ stack. expression_runs stack ts) (level_5 ts)

    level_empty : level f 5 [] ≡ Err (syntax 0)
    level_empty = empty d s.Expression [] (level f 5) refl level_reads

    more_arguments : Reads d (many (is_at w.COMMA) (behind_comma (level f 5))) (s.MoreArguments ∷ [])
    unfolding turn behind_comma
    more_arguments =
        many-where d s.MoreArguments (is_at w.COMMA) (behind_comma (level f 5)) (s.Expression ∷ []) (λ t. is_sign m.COMMA (kind_of_word t.word)) refl refl refl (λ t. refl) (λ t ts. sign_same m.COMMA t.word)
        (λ t ts is. of-result d _ _ (level f 5 ts) (length ts) (past-word w.COMMA _ t ts is) (level_reads ts))

    abbrev pub to-paren : {A : Type 0} → A × List (Tok P) → Result (A × List (Tok P)) Fault
    to-paren xs = expect w.RIGHT_PAREN xs.1 >>= λ r. Ok (xs.0, r.1)

    close_reads : {A : Type 0} (x : A) → Reads d (λ v. to-paren (x, v)) (s.Sign m.RIGHT_PAREN ∷ [])
    close_reads x = last d (expect w.RIGHT_PAREN) _ (s.Sign m.RIGHT_PAREN ∷ []) (mark d m.RIGHT_PAREN) (λ r. done d x)

    listed_reads : Reads d (λ v. listed (level f 5) v >>= to-paren) (s.Expression ∷ s.MoreArguments ∷ s.Sign m.RIGHT_PAREN ∷ [])
    unfolding listed
    listed_reads =
        bind d (listed (level f 5)) to-paren (s.Expression ∷ s.MoreArguments ∷ []) (s.Sign m.RIGHT_PAREN ∷ [])
        (bind d (level f 5) _ (s.Expression ∷ []) (s.MoreArguments ∷ []) level_reads (λ x. last d (many (is_at w.COMMA) (behind_comma (level f 5))) _ (s.MoreArguments ∷ []) more_arguments (λ xs. done d _)))
        (λ xs. close_reads xs)

    abbrev first-turn : Bool → Tok P → Turn
    first-turn b t =
        cond b (record { head = along []; behind = [] }) (record { head = a.factor (kind_of_word t.word); behind = operators 5 ++ s.MoreArguments ∷ s.Sign m.RIGHT_PAREN ∷ [] })

    abbrev first-comes : Bool → Tok P → List (Tok P) → List Symbol → Answer
    first-comes b t ts stack = go d ((first-turn b t).behind ++ stack) (first-turn b t).head t ts

    -- arguments and their closing parenthesis
    pub arguments_read : Reads d (λ v. some_listed (level f 5) v >>= to-paren) (s.FirstArgument ∷ [])
    unfolding some_listed turn a.first_argument
    arguments_read = must-all d s.FirstArgument (λ v. some_listed (level f 5) v >>= to-paren) refl (empty d s.Expression (s.MoreArguments ∷ s.Sign m.RIGHT_PAREN ∷ []) (λ v. listed (level f 5) v >>= to-paren) refl listed_reads) (λ t ts. by t ts (same_word t.word w.RIGHT_PAREN) refl)
      where
        by : (t : Tok P) (ts : List (Tok P)) (b : Bool) → same_word t.word w.RIGHT_PAREN ≡ b
            → Same d (first-comes (is_sign m.RIGHT_PAREN (kind_of_word t.word)) t ts) (cond (same_word t.word w.RIGHT_PAREN) (Ok ([], t ∷ ts)) (listed (level f 5) (t ∷ ts)) >>= to-paren) (length (t ∷ ts))
        by t ts true is =
            let read : (cond (same_word t.word w.RIGHT_PAREN) (Ok ([], t ∷ ts)) (listed (level f 5) (t ∷ ts)) >>= to-paren) ≡ Ok ([], ts) =
            ap (λ b. cond b (Ok ([], t ∷ ts)) (listed (level f 5) (t ∷ ts)) >>= to-paren) is ∙ past-word w.RIGHT_PAREN _ t ts is in
            of-result d _ _ (Ok ([], ts)) (length (t ∷ ts)) read
            (record { runs = λ stack. ap (λ b. first-comes b t ts stack) (sign_same m.RIGHT_PAREN t.word ∙ is); short = omega arith })
        by t ts false is =
            of-result d _ _ (listed (level f 5) (t ∷ ts) >>= to-paren) (length (t ∷ ts)) (ap (λ b. cond b (Ok ([], t ∷ ts)) (listed (level f 5) (t ∷ ts)) >>= to-paren) is)
            (via d _ _ (listed (level f 5) (t ∷ ts) >>= to-paren) (length (t ∷ ts)) (length (t ∷ ts)) (omega arith)
            (λ stack. ap (λ b. first-comes b t ts stack) (sign_same m.RIGHT_PAREN t.word ∙ is) ∙ sym (begun d s.Expression (s.MoreArguments ∷ s.Sign m.RIGHT_PAREN ∷ stack) t ts refl)) (listed_reads (t ∷ ts)))

-- ---- factors, by what reads factors one level deeper

module _ {P : Type 0} where
  -- what reads factors with one level less, if there is one
  abbrev pub Inner : ℕ → Option (Parse P (Expr P)) → Type 0
  Inner zero None = Unit {0}
  Inner zero (Some f) = ⊥
  Inner (suc e) None = ⊥
  Inner (suc e) (Some f) = Reads e f (s.Factor ∷ [])

  pub inside_does : {A : Type 0} (d : ℕ) (o : Option (Parse P (Expr P))) → Inner d o → (q : Parse P (Expr P) → Parse P A) (symbols : List Symbol) (t : Tok P) (ts : List (Tok P))
      → ((e : ℕ) (f : Parse P (Expr P)) → Reads e f (s.Factor ∷ []) → Same e (λ stack. run e (symbols ++ stack) ts) (q f (t ∷ ts)) (length ts)) → Does d (a.inside symbols) (inside o q) t ts
  inside_does zero None is q symbols t ts h = deep-same symbols t ts (length ts)
  inside_does zero (Some f) is q symbols t ts h = absurd is
  inside_does (suc e) None is q symbols t ts h = absurd is
  inside_does (suc e) (Some f) is q symbols t ts h = inner-same e symbols t ts (q f (t ∷ ts)) (length ts) (h e f is)

  module _ (d : ℕ) (o : Option (Parse P (Expr P))) (is : Inner d o) where
    pub index_does : (t : Tok P) (ts : List (Tok P)) → same_word t.word w.LEFT_BRACKET ≡ true → Does d (a.inside (s.Expression ∷ s.Sign m.RIGHT_BRACKET ∷ [])) (index o) t ts
    unfolding index
    index_does t ts at =
        inside_does d o is _ (s.Expression ∷ s.Sign m.RIGHT_BRACKET ∷ []) t ts
        (λ e f h. of-result e _ _ _ (length ts) (past-word w.LEFT_BRACKET _ t ts at)
        (bind e (level f 5) _ (s.Expression ∷ []) (s.Sign m.RIGHT_BRACKET ∷ []) (level_reads e f h) (λ i. last e (expect w.RIGHT_BRACKET) _ (s.Sign m.RIGHT_BRACKET ∷ []) (mark e m.RIGHT_BRACKET) (λ r. done e i)) ts))

    pub args_do : (t : Tok P) (ts : List (Tok P)) → same_word t.word w.LEFT_PAREN ≡ true → Does d (a.inside (s.FirstArgument ∷ [])) (args o) t ts
    unfolding args in_parens
    args_do t ts at =
        inside_does d o is _ (s.FirstArgument ∷ []) t ts
        (λ e f h. of-result e _ _ (some_listed (level f 5) ts >>= to-paren e f h) (length ts) (past-word w.LEFT_PAREN _ t ts at) (arguments_read e f h ts))

    -- behind the name of a factor
    pub named_factor_reads : (n : Name × P) → Reads d (named_factor o n) (s.NamedFactor ∷ [])
    unfolding named_factor turn a.named_factor
    named_factor_reads n [] = record { runs = λ stack. none P d d s.NamedFactor stack refl; short = omega arith }
    named_factor_reads n (t ∷ ts) = by (same_word t.word w.LEFT_BRACKET) (same_word t.word w.LEFT_PAREN) refl refl
      where
        heads : (b c : Bool) → Head
        heads b c = cond b (a.inside (s.Expression ∷ s.Sign m.RIGHT_BRACKET ∷ [])) (cond c (a.inside (s.FirstArgument ∷ [])) refused)

        is-head : (b c : Bool) → same_word t.word w.LEFT_BRACKET ≡ b → same_word t.word w.LEFT_PAREN ≡ c → (turn_at s.NamedFactor t).head ≡ heads b c
        is-head b c e g = let e2 = sign_same m.LEFT_BRACKET t.word ∙ e in let g2 = sign_same m.LEFT_PAREN t.word ∙ g in λ i. heads (e2 i) (g2 i)

        indexed : Expr P × List (Tok P) → Result (Expr P × List (Tok P)) Fault
        indexed i = Ok (element n.1 n.0 i.0, i.1)

        called : List (Expr P) × List (Tok P) → Result (Expr P × List (Tok P)) Fault
        called es = Ok (call n.1 n.0 (exprs_of es.0), es.1)

        results : (b c : Bool) → Result (Expr P × List (Tok P)) Fault
        results b c = cond b (index o (t ∷ ts) >>= indexed) (cond c (args o (t ∷ ts) >>= called) (Ok (variable n.1 n.0, t ∷ ts)))

        is-result : (b c : Bool) → same_word t.word w.LEFT_BRACKET ≡ b → same_word t.word w.LEFT_PAREN ≡ c → named_factor o n (t ∷ ts) ≡ results b c
        is-result b c e g = λ i. results (e i) (g i)

        goes : (b c : Bool) → same_word t.word w.LEFT_BRACKET ≡ b → same_word t.word w.LEFT_PAREN ≡ c → is_refused (heads b c) ≡ false → Same d (λ stack. go d stack (heads b c) t ts) (results b c) (length ts)
            → Same d (λ stack. run d (s.NamedFactor ∷ stack) (t ∷ ts)) (named_factor o n (t ∷ ts)) (length (t ∷ ts))
        goes b c e g some h =
            of-result d (λ stack. run d (s.NamedFactor ∷ stack) (t ∷ ts)) (named_factor o n (t ∷ ts)) (results b c) (length (t ∷ ts)) (is-result b c e g)
            (via d (λ stack. run d (s.NamedFactor ∷ stack) (t ∷ ts)) (λ stack. go d stack (heads b c) t ts) (results b c) (length ts) (length (t ∷ ts)) (omega arith)
            (λ stack. begun d s.NamedFactor stack t ts (ap is_refused (is-head b c e g) ∙ some) ∙ ap (λ h. go d stack h t ts) (is-head b c e g)) h)

        by : (b c : Bool) → same_word t.word w.LEFT_BRACKET ≡ b → same_word t.word w.LEFT_PAREN ≡ c → Same d (λ stack. run d (s.NamedFactor ∷ stack) (t ∷ ts)) (named_factor o n (t ∷ ts)) (length (t ∷ ts))
        by true c e g = goes true c e g refl (done-last d (a.inside (s.Expression ∷ s.Sign m.RIGHT_BRACKET ∷ [])) (index o) indexed t ts (index_does t ts e) (λ i. done d (element n.1 n.0 i)))
        by false true e g = goes false true e g refl (done-last d (a.inside (s.FirstArgument ∷ [])) (args o) called t ts (args_do t ts g) (λ es. done d (call n.1 n.0 (exprs_of es))))
        by false false e g =
            of-result d (λ stack. run d (s.NamedFactor ∷ stack) (t ∷ ts)) (named_factor o n (t ∷ ts)) (Ok (variable n.1 n.0, t ∷ ts)) (length (t ∷ ts)) (is-result false false e g)
            (record { runs = λ stack. passed d s.NamedFactor stack t ts (ap is_refused (is-head false false e g)) refl; short = omega arith })

    paren_does : (t : Tok P) (ts : List (Tok P)) → same_word t.word w.LEFT_PAREN ≡ true → Does d (a.inside (s.Expression ∷ s.Sign m.RIGHT_PAREN ∷ [])) (paren_factor o) t ts
    unfolding paren_factor
    paren_does t ts at =
        inside_does d o is _ (s.Expression ∷ s.Sign m.RIGHT_PAREN ∷ []) t ts
        (λ e f h. of-result e _ _ _ (length ts) (past-word w.LEFT_PAREN _ t ts at)
        (bind e (level f 5) _ (s.Expression ∷ []) (s.Sign m.RIGHT_PAREN ∷ []) (level_reads e f h) (λ i. last e (expect w.RIGHT_PAREN) _ (s.Sign m.RIGHT_PAREN ∷ []) (mark e m.RIGHT_PAREN) (λ r. done e _)) ts))

    minus_does : (t : Tok P) (ts : List (Tok P)) → same_word t.word w.MINUS ≡ true → Does d (a.inside (s.Factor ∷ [])) (minus_factor o) t ts
    unfolding minus_factor
    minus_does t ts at =
        inside_does d o is _ (s.Factor ∷ []) t ts (λ e f h. of-result e _ _ _ (length ts) (past-word w.MINUS _ t ts at) (last e f _ (s.Factor ∷ []) h (λ x. done e _) ts))

    negation_does : (t : Tok P) (ts : List (Tok P)) → same_word t.word w.NOT ≡ true → Does d (a.inside (s.Factor ∷ [])) (negation_factor o) t ts
    unfolding negation_factor
    negation_does t ts at =
        inside_does d o is _ (s.Factor ∷ []) t ts (λ e f h. of-result e _ _ _ (length ts) (past-word w.NOT _ t ts at) (last e f _ (s.Factor ∷ []) h (λ x. done e _) ts))

    -- of three tests the first that holds
    three : {A : Type 0} (t : Tok P) (ts : List (Tok P)) (b1 b2 b3 c1 c2 c3 : Bool) (x y : Result (A × List (Tok P)) Fault) (z : Result (A × List (Tok P)) Fault) → b1 ≡ c1 → b2 ≡ c2 → b3 ≡ c3
        → (c1 ≡ true → Same d (λ stack. run d stack ts) x (length ts)) → (c2 ≡ true → Same d (λ stack. run d stack ts) y (length ts)) → (c3 ≡ true → Same d (λ stack. run d stack ts) z (length ts))
        → (c3 ≡ false → z ≡ refuse (t ∷ ts)) → Same d (λ stack. go d stack (where_so ((b1 || b2) || b3) []) t ts) (cond c1 x (cond c2 y z)) (length ts)
    three t ts b1 b2 b3 true c2 c3 x y z e1 e2 e3 h1 h2 h3 n = of-head d (λ h stack. go d stack h t ts) _ (along []) _ (length ts) (ap (λ b. where_so ((b || b2) || b3) []) e1 ∙ any b2 b3) (h1 refl)
      where
        any : (b2 b3 : Bool) → where_so ((true || b2) || b3) [] ≡ along []
        any b2 b3 = refl
    three t ts b1 b2 b3 false true c3 x y z e1 e2 e3 h1 h2 h3 n = of-head d (λ h stack. go d stack h t ts) _ (along []) _ (length ts) (λ i. where_so ((e1 i || e2 i) || b3) []) (h2 refl)
    three t ts b1 b2 b3 false false true x y z e1 e2 e3 h1 h2 h3 n = of-head d (λ h stack. go d stack h t ts) _ (along []) _ (length ts) (λ i. where_so ((e1 i || e2 i) || e3 i) []) (h3 refl)
    three t ts b1 b2 b3 false false false x y z e1 e2 e3 h1 h2 h3 n =
        of-head d (λ h stack. go d stack h t ts) _ refused _ (length ts) (λ i. where_so ((e1 i || e2 i) || e3 i) []) (of-result d _ z (refuse (t ∷ ts)) (length ts) (n refl) (none-begun d t ts (length ts)))

    simple_does : (t : Tok P) (ts : List (Tok P))
        → Does d (where_so ((a.is_number (kind_of_word t.word) || is_key k.TRUE (kind_of_word t.word)) || is_key k.FALSE (kind_of_word t.word)) []) simple_factor t ts
    unfolding simple_factor expect
    simple_does t ts =
        three t ts _ _ _ (is_numeral t.word) (same_word t.word w.TRUE) (same_word t.word w.FALSE) _ _ _ (number_same t.word) (key_same k.TRUE t.word) (key_same k.FALSE t.word)
        (λ e. along-number d _ [] t ts e (λ n. done d _)) (λ e. along-word d w.TRUE _ [] t ts e (λ q. done d _)) (λ e. along-word d w.FALSE _ [] t ts e (λ q. done d _))
        (λ e. ap (λ b. cond b (Ok (t.place, ts)) (refuse (t ∷ ts)) >>= λ q. Ok (truth q.0 false, q.1)) e)

    pub factor_does : (t : Tok P) (ts : List (Tok P)) → Does d (a.factor (kind_of_word t.word)) (factor_in o) t ts
    unfolding factor_in a.factor
    factor_does t ts =
        branch d (λ h stack. go d stack h t ts) _ (is_named t.word) _ _ _ _ (length ts) (name_same t.word) (λ e. along-name d _ (s.NamedFactor ∷ []) t ts e (λ n. named_factor_reads n)) (λ e.
        branch d (λ h stack. go d stack h t ts) _ (same_word t.word w.LEFT_PAREN) _ _ _ _ (length ts) (sign_same m.LEFT_PAREN t.word) (λ e. paren_does t ts e) (λ e.
        branch d (λ h stack. go d stack h t ts) _ (same_word t.word w.MINUS) _ _ _ _ (length ts) (sign_same m.MINUS t.word) (λ e. minus_does t ts e) (λ e.
        branch d (λ h stack. go d stack h t ts) _ (same_word t.word w.NOT) _ _ _ _ (length ts) (key_same k.NOT t.word) (λ e. negation_does t ts e) (λ e. simple_does t ts))))

    pub factor_in_reads : Reads d (factor_in o) (s.Factor ∷ [])
    unfolding turn factor_in simple_factor expect
    factor_in_reads = must d s.Factor (factor_in o) refl refl factor_does

  pub factor_reads : (d : ℕ) → Reads d (factor {P = P} d) (s.Factor ∷ [])
  unfolding factor
  factor_reads zero ts = factor_in_reads 0 None tt ts
  factor_reads (suc d) ts = factor_in_reads (suc d) (Some (factor d)) (factor_reads d) ts

  pub expr_reads : (d : ℕ) → Reads d (expr {P = P} d) (s.Expression ∷ [])
  expr_reads d = level_reads d (factor d) (factor_reads d)

pub inner_is : (P : Type 0) (d : ℕ) → Inner d (inner {P = P} d)
inner_is P zero = tt
inner_is P (suc d) = factor_reads d
