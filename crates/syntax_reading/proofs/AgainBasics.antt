-- What a tree's tokens are is read as that tree: steps, single tokens and lists.
use Rattle.std.proofs.Common.{◌≡◌, ℕ, zero, suc, ◌≤◌, List, [], ◌∷◌, length, Bool, true, false, cond, Result, Ok, Some, None, refl, ap, sym, ◌∙◌, subst, arith}
use Rattle.std.proofs.lemmas.Bool.{ne_eqb, eq-eqb}
use Rattle.syntax_tree.specs.Plain.{Name, Op, or, and, equal, unequal, less, less_equal, greater, greater_equal, add, sub, mul, div, remainder}
use Rattle.syntax.specs.Words as w
use Rattle.syntax.specs.Words.{Word, named, number, keyword, sign, Tok}
use Rattle.syntax.specs.ExprGrammar.{at, a, ◌▷◌, Each, Listed, SomeListed, OfLevel, op_word, height}
use Rattle.syntax_reading.specs.ExprReading.{Fault, ◌>>=◌, Parse, refuse, same_word, is_at, expect, name, each, many, behind_comma, listed, some_listed, in_parens, op_of, of_level, op_at}
use Rattle.syntax_reading.proofs.Basics.{IsName}
use Rattle.syntax_reading.proofs.Shorter.{Shorter, each-long, a-then, weak}

pub step : {A B : Type 0} (r : Result A Fault) (f : A → Result B Fault) (x : A) (y : Result B Fault) → r ≡ Ok x → f x ≡ y → (r >>= f) ≡ y
step r f x y e rest = ap (λ r. r >>= f) e ∙ rest

pub if-true : {R : Type 0} (b : Bool) (x y z : R) → b ≡ true → x ≡ z → cond b x y ≡ z
if-true b x y z is e = ap (λ c. cond c x y) is ∙ e

pub if-false : {R : Type 0} (b : Bool) (x y z : R) → b ≡ false → y ≡ z → cond b x y ≡ z
if-false b x y z is e = ap (λ c. cond c x y) is ∙ e

-- a word that goes on with no expression
abbrev pub Ends : Word → Type 0
Ends v = (op_of v ≡ None) × (same_word v w.LEFT_PAREN ≡ false) × (same_word v w.LEFT_BRACKET ≡ false) × (same_word v w.DOT ≡ false)

op_of-word : (op : Op) → op_of (op_word op) ≡ Some op
op_of-word or = refl
op_of-word and = refl
op_of-word equal = refl
op_of-word unequal = refl
op_of-word less = refl
op_of-word less_equal = refl
op_of-word greater = refl
op_of-word greater_equal = refl
op_of-word add = refl
op_of-word sub = refl
op_of-word mul = refl
op_of-word div = refl
op_of-word remainder = refl

-- no operator opens or is a dot
plain-op : (op : Op) → (same_word (op_word op) w.LEFT_PAREN ≡ false) × (same_word (op_word op) w.LEFT_BRACKET ≡ false) × (same_word (op_word op) w.DOT ≡ false)
plain-op or = (refl, refl, refl)
plain-op and = (refl, refl, refl)
plain-op equal = (refl, refl, refl)
plain-op unequal = (refl, refl, refl)
plain-op less = (refl, refl, refl)
plain-op less_equal = (refl, refl, refl)
plain-op greater = (refl, refl, refl)
plain-op greater_equal = (refl, refl, refl)
plain-op add = (refl, refl, refl)
plain-op sub = (refl, refl, refl)
plain-op mul = (refl, refl, refl)
plain-op div = (refl, refl, refl)
plain-op remainder = (refl, refl, refl)

of_level-other : (g : ℕ) (op : Op) → (height op ≡ g → ⊥) → of_level g (Some op) ≡ None
of_level-other g op other = ap (λ c. cond c (Some op) None) (ne_eqb (height op) g other)

of_level-same : (g : ℕ) (op : Op) → height op ≡ g → of_level g (Some op) ≡ Some op
of_level-same g op same = ap (λ c. cond c (Some op) None) (eq-eqb (height op) g same)

module _ {P : Type 0} where
  -- what has these tokens is read as it is, before what follows so
  abbrev pub Again : {A : Type 0} → Parse P A → (A → List (Tok P) → List (Tok P) → Type 0) → (List (Tok P) → Type 0) → Type 0
  Again {A} p R F = (ts us : List (Tok P)) (x : A) → R x ts us → F us → p ts ≡ Ok (x, us)

  pub expect_again : (word : Word) (p : P) (ts us : List (Tok P)) → same_word word word ≡ true → at word p ts us → expect word ts ≡ Ok (p, us)
  unfolding expect
  expect_again word p ts us same took =
      ap (expect word) took ∙ ap (λ c. cond c (Ok (p, us)) (refuse (record { word = word; place = p } ∷ us))) same

  pub name_again : (n : Name × P) (ts us : List (Tok P)) → IsName n ts us → name ts ≡ Ok (n, us)
  unfolding name
  name_again n ts us took = ap name took

  -- ---- what ends an expression

  pub record Stop (level : ℕ) (ts : List (Tok P)) : Type 0 where
    pub ops : (g : ℕ) → g ≤ level → op_at g ts ≡ None
    pub paren : is_at w.LEFT_PAREN ts ≡ false
    pub bracket : is_at w.LEFT_BRACKET ts ≡ false
    pub dot : is_at w.DOT ts ≡ false

  pub stop-at : (level : ℕ) (v : Word) (p : P) (ts us : List (Tok P)) → Ends v → at v p ts us → Stop level ts
  stop-at level v p ts us ends took = record {
    ops = λ g h. ap (op_at g) took ∙ ap (of_level g) ends.0;
    paren = ap (is_at w.LEFT_PAREN) took ∙ ends.1;
    bracket = ap (is_at w.LEFT_BRACKET) took ∙ ends.2;
    dot = ap (is_at w.DOT) took ∙ ends.3;
  }

  pub stop-a : (level : ℕ) (v : Word) (ts us : List (Tok P)) → Ends v → a v ts us → Stop level ts
  stop-a level v ts us ends took = stop-at level v took.0 ts us ends took.1

  pub stop-less : (l level : ℕ) (ts : List (Tok P)) → l ≤ level → Stop level ts → Stop l ts
  stop-less l level ts h stop = record { ops = λ g i. stop.ops g (omega (arith, h, i)); paren = stop.paren; bracket = stop.bracket; dot = stop.dot }

  pub op_again : (g : ℕ) (op : Op) (ts us : List (Tok P)) → OfLevel g op ts us → op_at g ts ≡ Some op
  op_again g op ts us (high, (p, took)) = ap (op_at g) took ∙ ap (of_level g) (op_of-word op) ∙ of_level-same g op high

  pub stop-op : (l : ℕ) (op : Op) (ts us : List (Tok P)) → OfLevel (suc l) op ts us → Stop l ts
  stop-op l op ts us (high, (p, took)) =
      let (paren, bracket, dot) = plain-op op in
      record {
        ops = λ g h. ap (op_at g) took ∙ ap (of_level g) (op_of-word op) ∙ of_level-other g op (λ same. absurd (omega (arith, h, high, same)));
        paren = ap (is_at w.LEFT_PAREN) took ∙ paren;
        bracket = ap (is_at w.LEFT_BRACKET) took ∙ bracket;
        dot = ap (is_at w.DOT) took ∙ dot;
      }

  -- ---- lists

  module _ {A : Type 0} (begins : List (Tok P) → Bool) (p : Parse P A) (R : A → List (Tok P) → List (Tok P) → Type 0) (F : List (Tok P) → Type 0)
      (again : Again p R F) (goes : (x : A) (ts us : List (Tok P)) → R x ts us → begins ts ≡ true)
      (starts : (x : A) (ts us : List (Tok P)) → R x ts us → F ts) where
    pub each-starts : (xs : List A) (ts us : List (Tok P)) → Each R xs ts us → F us → F ts
    each-starts [] ts us took stop = subst F (sym took) stop
    each-starts (x ∷ xs) ts us (vs, took, more) stop = starts x ts vs took

    pub each_again : (n : ℕ) (xs : List A) (ts us : List (Tok P)) → Each R xs ts us → length xs ≤ n → F us → begins us ≡ false → each begins p n ts ≡ Ok (xs, us)
    unfolding each
    each_again zero [] ts us took few stop none = ap (λ t. Ok ([], t)) took
    each_again zero (x ∷ xs) ts us took few stop none = absurd (omega (arith, few))
    each_again (suc n) [] ts us took few stop none = if-false (begins ts) _ _ _ (ap begins took ∙ none) (ap (λ t. Ok ([], t)) took)
    each_again (suc n) (x ∷ xs) ts us (vs, took, more) few stop none =
        if-true (begins ts) _ _ _ (goes x ts vs took)
        (step (p ts) _ (x, vs) _ (again ts vs x took (each-starts xs vs us more stop))
        (step (each begins p n vs) _ (xs, us) _ (each_again n xs vs us more (omega (arith, few)) stop none) refl))

    pub many_again : ((x : A) → Shorter (R x)) → (xs : List A) (ts us : List (Tok P)) → Each R xs ts us → F us → begins us ≡ false → many begins p ts ≡ Ok (xs, us)
    unfolding many
    many_again shorter xs ts us took stop none =
        let long = each-long R shorter xs ts us took in each_again (length ts) xs ts us took (omega (arith, long)) stop none

  module _ {A : Type 0} (p : Parse P A) (R : A → List (Tok P) → List (Tok P) → Type 0) (F : List (Tok P) → Type 0)
      (again : Again p R F) (shorter : (x : A) → Shorter (R x)) (comma : (ts us : List (Tok P)) → a w.COMMA ts us → F ts) where
    pub behind_comma_again : Again (behind_comma p) (λ x. a w.COMMA ▷ R x) F
    unfolding behind_comma
    behind_comma_again ts us x (vs, (q, c), took) stop =
        step (expect w.COMMA ts) _ (q, vs) _ (expect_again w.COMMA q ts vs refl c) (again vs us x took stop)

    commas-start : (xs : List A) (ts us : List (Tok P)) → Each (λ x. a w.COMMA ▷ R x) xs ts us → F us → F ts
    commas-start [] ts us took stop = subst F (sym took) stop
    commas-start (x ∷ xs) ts us (vs, (v2, c, took), more) stop = comma ts v2 c

    pub listed_again : (xs : List A) (ts us : List (Tok P)) → Listed R xs ts us → F us → is_at w.COMMA us ≡ false → listed p ts ≡ Ok (xs, us)
    unfolding listed
    listed_again [] ts us took stop none = absurd took
    listed_again (x ∷ xs) ts us (vs, took, more) stop none =
        step (p ts) _ (x, vs) _ (again ts vs x took (commas-start xs vs us more stop))
        (step (many (is_at w.COMMA) (behind_comma p) vs) _ (xs, us) _
        (many_again (is_at w.COMMA) (behind_comma p) (λ x. a w.COMMA ▷ R x) F behind_comma_again (λ x ts us (vs, (q, c), took). ap (is_at w.COMMA) c)
        (λ x ts us (vs, c, took). comma ts vs c) (λ x. a-then w.COMMA (R x) (weak (R x) (shorter x))) xs vs us more stop none) refl)

    module _ (opens : (x : A) (ts us : List (Tok P)) → R x ts us → is_at w.RIGHT_PAREN ts ≡ false) (closes : (ts us : List (Tok P)) → a w.RIGHT_PAREN ts us → F ts) where
      some_listed_again : (xs : List A) (ts us vs : List (Tok P)) → SomeListed R xs ts us → a w.RIGHT_PAREN us vs → some_listed p ts ≡ Ok (xs, us)
      unfolding some_listed
      some_listed_again [] ts us vs took (q, c) = if-true (is_at w.RIGHT_PAREN ts) _ _ _ (ap (is_at w.RIGHT_PAREN) (took ∙ c)) (ap (λ t. Ok ([], t)) took)
      some_listed_again (x ∷ xs) ts us vs took (q, c) =
          if-false (is_at w.RIGHT_PAREN ts) _ _ _ (opens x ts took.0 took.1) (listed_again (x ∷ xs) ts us took (closes us vs (q, c)) (ap (is_at w.COMMA) c))

      pub in_parens_again : (xs : List A) (ts us : List (Tok P)) → (a w.LEFT_PAREN ▷ SomeListed R xs ▷ a w.RIGHT_PAREN) ts us → in_parens p ts ≡ Ok (xs, us)
      unfolding in_parens
      in_parens_again xs ts us (v1, (q, l), (v2, took, (r, c))) =
          step (expect w.LEFT_PAREN ts) _ (q, v1) _ (expect_again w.LEFT_PAREN q ts v1 refl l)
          (step (some_listed p v1) _ (xs, v2) _ (some_listed_again xs v1 v2 us took (r, c))
          (step (expect w.RIGHT_PAREN v2) _ (r, us) _ (expect_again w.RIGHT_PAREN r v2 us refl c) refl))
