-- Where a fault of nesting comes from: steps, single tokens and lists.
use Rattle.std.proofs.Common.{◌≡◌, ℕ, zero, suc, ◌<◌, List, [], ◌∷◌, length, Bool, true, Result, Ok, Err, refl, ap, sym, subst, arith}
use Rattle.syntax_tree.specs.Plain.{Name}
use Rattle.syntax.specs.Words as w
use Rattle.syntax.specs.Words.{Word, named, number, keyword, sign, Tok}
use Rattle.syntax.specs.ExprGrammar.{a, ◌▷◌, Each}
use Rattle.syntax.specs.Opening.{Part, Whole, here}
use Rattle.syntax_reading.specs.ExprReading.{Fault, nesting, ◌>>=◌, Parse, too_deep, same_word, is_at, expect, name_by, name, numeral_by, numeral, each, many, behind_comma, listed, some_listed, in_parens}
use Rattle.syntax_reading.proofs.Basics.{by_if, same-word, Sound, a_sound, behind_comma_sound}

-- by the step that was at fault
pub by_step : {A B C : Type 0} (r : Result A Fault) (f : A → Result B Fault) (g : Fault) → (r ≡ Err g → C) → ((x : A) → r ≡ Ok x → f x ≡ Err g → C)
    → (r >>= f) ≡ Err g → C
by_step (Ok x) f g first second e = second x refl e
by_step (Err h) f g first second e = let same : h ≡ g = cc in first (ap (λ x. Err x) same)

-- past a step that was not at fault
pub past : {A B : Type 0} (r : Result A Fault) (f : A → Result B Fault) (g : Fault) → (r ≡ Err g → ⊥) → (r >>= f) ≡ Err g
    → (x : A) × (r ≡ Ok x) × (f x ≡ Err g)
past r f g never e = by_step r f g (λ e. absurd (never e)) (λ x is e. (x, is, e)) e

-- what was read is no fault
pub no_fault : {A : Type 0} (x : A) (g : Fault) → ◌≡◌ {A = Result A Fault} (Ok x) (Err g) → ⊥
no_fault x g e = cc

module _ {P : Type 0} where
  -- up to where so many tokens are left
  abbrev pub Reaches : Part P → List (Tok P) → ℕ → Type 0
  Reaches O ts n = (us : List (Tok P)) × O ts us × (length us ≡ n)

  -- a fault of nesting comes only where this leads
  abbrev pub Opens : {A : Type 0} → Parse P A → Part P → Type 0
  Opens {A} p O = (ts : List (Tok P)) (n : ℕ) → p ts ≡ Err (nesting n) → Reaches O ts n

  -- no fault of nesting comes
  abbrev pub Never : {A : Type 0} → Parse P A → Type 0
  Never {A} p = (ts : List (Tok P)) (n : ℕ) → p ts ≡ Err (nesting n) → ⊥

  -- ---- single tokens

  pub expect_never : (word : Word) → Never (expect {P = P} word)
  unfolding expect
  expect_never word [] n e = cc
  expect_never word (t ∷ ts) n e = by_if (same_word t.word word) _ _ _ (λ is e. cc) (λ is e. cc) e

  name_by_never : (v : Word) (t : Tok P) (ts : List (Tok P)) (n : ℕ) → name_by v t ts ≡ Err (nesting n) → ⊥
  name_by_never (named m) t ts n e = cc
  name_by_never _ t ts n e = cc

  pub name_never : Never (name {P = P})
  unfolding name
  name_never [] n e = cc
  name_never (t ∷ ts) n e = name_by_never t.word t ts n e

  numeral_by_never : (v : Word) (t : Tok P) (ts : List (Tok P)) (n : ℕ) → numeral_by v t ts ≡ Err (nesting n) → ⊥
  numeral_by_never (number m) t ts n e = cc
  numeral_by_never _ t ts n e = cc

  pub numeral_never : Never (numeral {P = P})
  unfolding numeral
  numeral_never [] n e = cc
  numeral_never (t ∷ ts) n e = numeral_by_never t.word t ts n e

  -- past a keyword or a sign
  pub past_word : {B : Type 0} (word : Word) (ts : List (Tok P)) (f : P × List (Tok P) → Result B Fault) (n : ℕ) → (expect word ts >>= f) ≡ Err (nesting n)
      → (x : P × List (Tok P)) × (expect word ts ≡ Ok x) × (f x ≡ Err (nesting n))
  past_word word ts f n e = past (expect word ts) f (nesting n) (expect_never word ts n) e

  pub past_name : {B : Type 0} (ts : List (Tok P)) (f : (Name × P) × List (Tok P) → Result B Fault) (n : ℕ) → (name ts >>= f) ≡ Err (nesting n)
      → (x : (Name × P) × List (Tok P)) × (name ts ≡ Ok x) × (f x ≡ Err (nesting n))
  past_name ts f n e = past (name ts) f (nesting n) (name_never ts n) e

  -- the word is there
  pub at-here : (word : Word) (ts : List (Tok P)) → is_at word ts ≡ true → (us : List (Tok P)) × a word ts us
  at-here word [] e = cc
  at-here word (t ∷ ts) e = (ts, (t.place, ap (λ v. record { word = v; place = t.place } ∷ ts) (same-word t.word word e)))

  -- the word that is there is at fault
  pub here_opens : {A : Type 0} (word : Word) (ts : List (Tok P)) (n : ℕ) → is_at word ts ≡ true → too_deep {A = A} ts ≡ Err (nesting n) → Reaches (here word) ts n
  here_opens word ts n is e = (ts, (refl, at-here word ts is), cc)

  -- ---- lists

  module _ {A : Type 0} (p : Parse P A) (never : Never p) where
    each_never : (begins : List (Tok P) → Bool) (n : ℕ) → Never (each begins p n)
    unfolding each
    each_never begins zero ts m e = cc
    each_never begins (suc n) ts m e =
        by_if (begins ts) _ _ _
        (λ is e.
        let x = past (p ts) _ (nesting m) (never ts m) e in
        let y = past (each begins p n x.0.1) _ (nesting m) (each_never begins n x.0.1 m) x.2 in
        let done = y.2 in cc)
        (λ is e. cc) e

    pub many_never : (begins : List (Tok P) → Bool) → Never (many begins p)
    unfolding many
    many_never begins ts m e = each_never begins (length ts) ts m e

    pub behind_comma_never : Never (behind_comma p)
    unfolding behind_comma
    behind_comma_never ts m e = let c = past_word w.COMMA ts _ m e in never c.0.1 m c.2

  module _ {A : Type 0} (p : Parse P A) (never : Never p) where
    pub listed_never : Never (listed p)
    unfolding listed
    listed_never ts m e =
        let x = past (p ts) _ (nesting m) (never ts m) e in
        let y = past (many (is_at w.COMMA) (behind_comma p) x.0.1) _ (nesting m) (many_never (behind_comma p) (behind_comma_never p never) (is_at w.COMMA) x.0.1 m) x.2 in
        let done = y.2 in cc

    some_listed_never : Never (some_listed p)
    unfolding some_listed
    some_listed_never ts m e = by_if (is_at w.RIGHT_PAREN ts) _ _ _ (λ is e. cc) (λ is e. listed_never ts m e) e

    pub in_parens_never : Never (in_parens p)
    unfolding in_parens
    in_parens_never ts m e =
        let l = past_word w.LEFT_PAREN ts _ m e in
        let x = past (some_listed p l.0.1) _ (nesting m) (some_listed_never l.0.1 m) l.2 in
        let r = past_word w.RIGHT_PAREN x.0.1 _ m x.2 in
        let done = r.2 in cc

  module _ {A : Type 0} (p : Parse P A) (R : A → Part P) (sound : Sound p R) (O : Part P) (opens : Opens p O) where
    -- behind fewer whole ones than there are turns
    pub each_opens : (begins : List (Tok P) → Bool) (n : ℕ) (ts : List (Tok P)) (m : ℕ) → each begins p n ts ≡ Err (nesting m)
        → (xs : List A) × (vs : List (Tok P)) × Each R xs ts vs × (length xs < n) × Reaches O vs m
    unfolding each
    each_opens begins zero ts m e = cc
    each_opens begins (suc n) ts m e =
        by_if (begins ts) _ _ _
        (λ is e.
        by_step (p ts) _ (nesting m) (λ bad. ([], ts, refl, omega arith, opens ts m bad))
        (λ x good e.
        by_step (each begins p n x.1) _ (nesting m)
        (λ bad.
        let (xs, vs, took, few, last) = each_opens begins n x.1 m bad in
        (x.0 ∷ xs, vs, (x.1, sound ts x.1 x.0 good, took), omega (arith, few), last))
        (λ y good e. cc) e) e)
        (λ is e. cc) e

    pub many_opens : (begins : List (Tok P) → Bool) → Opens (many begins p) (Whole (Each R) ▷ O)
    unfolding many
    many_opens begins ts m e = let (xs, vs, took, few, last) = each_opens begins (length ts) ts m e in (last.0, (vs, (xs, took), last.1), last.2)

    behind_comma_opens : Opens (behind_comma p) (a w.COMMA ▷ O)
    unfolding behind_comma
    behind_comma_opens ts m e =
        let c = past_word w.COMMA ts _ m e in
        let r = opens c.0.1 m c.2 in
        (r.0, (c.0.1, a_sound w.COMMA ts c.0.1 c.0.0 c.1, r.1), r.2)

  -- commas before the parts as commas behind them
  commas-behind : {A : Type 0} (R : A → Part P) (x : A) (xs : List A) (ts us vs ws : List (Tok P)) → R x ts us → Each (λ x. a w.COMMA ▷ R x) xs us vs → a w.COMMA vs ws
      → Each (λ x. R x ▷ a w.COMMA) (x ∷ xs) ts ws
  commas-behind R x [] ts us vs ws took more last = (ws, (us, took, subst (λ v. a w.COMMA v ws) (sym more) last), refl)
  commas-behind R x (y ∷ ys) ts us vs ws took (v2, (v1, comma, next), more) last = (v1, (us, took, comma), commas-behind R y ys v1 v2 vs ws next more last)

  module _ {A : Type 0} (p : Parse P A) (R : A → Part P) (sound : Sound p R) (O : Part P) (opens : Opens p O) where
    listed_opens : Opens (listed p) (Whole (Each (λ x. R x ▷ a w.COMMA)) ▷ O)
    unfolding listed
    listed_opens ts m e =
        by_step (p ts) _ (nesting m) (λ bad. let r = opens ts m bad in (r.0, (ts, ([], refl), r.1), r.2))
        (λ x good e.
        by_step (many (is_at w.COMMA) (behind_comma p) x.1) _ (nesting m)
        (λ bad.
        let (us, (vs, (xs, took), (ws, comma, last)), n) =
        many_opens (behind_comma p) (λ x. a w.COMMA ▷ R x) (behind_comma_sound p R sound) (a w.COMMA ▷ O) (behind_comma_opens p R sound O opens) (is_at w.COMMA) x.1 m bad in
        (us, (ws, (x.0 ∷ xs, commas-behind R x.0 xs ts x.1 vs ws (sound ts x.1 x.0 good) took comma), last), n))
        (λ y good e. cc) e) e

    some_listed_opens : Opens (some_listed p) (Whole (Each (λ x. R x ▷ a w.COMMA)) ▷ O)
    unfolding some_listed
    some_listed_opens ts m e = by_if (is_at w.RIGHT_PAREN ts) _ _ _ (λ is e. cc) (λ is e. listed_opens ts m e) e

    pub in_parens_opens : Opens (in_parens p) (a w.LEFT_PAREN ▷ Whole (Each (λ x. R x ▷ a w.COMMA)) ▷ O)
    unfolding in_parens
    in_parens_opens ts m e =
        let l = past_word w.LEFT_PAREN ts _ m e in
        by_step (some_listed p l.0.1) _ (nesting m)
        (λ bad. let r = some_listed_opens l.0.1 m bad in (r.0, (l.0.1, a_sound w.LEFT_PAREN ts l.0.1 l.0.0 l.1, r.1), r.2))
        (λ x good e. let r = past_word w.RIGHT_PAREN x.1 _ m e in let done = r.2 in cc) l.2
