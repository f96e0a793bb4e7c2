-- What a parser gives: steps, single tokens and lists.
use Rattle.std.proofs.Common.{◌≡◌, ℕ, zero, suc, ◌≤◌, List, [], ◌∷◌, length, Bool, true, false, cond, Result, Ok, Err, refl, ap, subst, arith}
use Rattle.std.proofs.lemmas.Bool.{eqb-true}
use Rattle.std.proofs.lemmas.Slice.Eq.{bytes_eq-Decides}
use Rattle.syntax_tree.specs.Plain.{Name}
use Rattle.syntax.specs.Words as w
use Rattle.syntax.specs.Words.{Word, named, number, keyword, sign, Tok}
use Rattle.syntax.specs.ExprGrammar.{at, a, ◌▷◌, Each, Listed, SomeListed}
use Rattle.syntax_reading.specs.ExprReading.{Fault, ◌>>=◌, Parse, same_word, is_at, expect, name_by, name, numeral_by, numeral, each, many, behind_comma, listed, some_listed, in_parens}

pub bind_ok : {A B : Type 0} (r : Result A Fault) (f : A → Result B Fault) (y : B) → (r >>= f) ≡ Ok y → (x : A) × (r ≡ Ok x) × (f x ≡ Ok y)
bind_ok (Ok x) f y e = (x, refl, e)
bind_ok (Err g) f y e = cc

-- by the two sides of a test
pub by_if : {R C : Type 0} (b : Bool) (x y z : R) → (b ≡ true → x ≡ z → C) → (b ≡ false → y ≡ z → C) → cond b x y ≡ z → C
by_if true x y z f g e = f refl e
by_if false x y z f g e = g refl e

pub same-word : (v u : Word) → same_word v u ≡ true → v ≡ u
same-word (keyword m) (keyword n) e = ap keyword (eqb-true m n e)
same-word (sign m) (sign n) e = ap sign (eqb-true m n e)
same-word (named m) (named n) e = ap named ((bytes_eq-Decides m n).0 e)
same-word (named m) u e = cc
same-word (number m) u e = cc
same-word (keyword m) u e = cc
same-word (sign m) u e = cc

module _ {P : Type 0} where
  -- what is read from the front of a list
  abbrev pub Sound : {A : Type 0} → Parse P A → (A → List (Tok P) → List (Tok P) → Type 0) → Type 0
  Sound {A} p R = (ts us : List (Tok P)) (x : A) → p ts ≡ Ok (x, us) → R x ts us

  pub ok_parts : {A : Type 0} (x y : A × List (Tok P)) → ◌≡◌ {A = Result (A × List (Tok P)) Fault} (Ok x) (Ok y) → (x.0 ≡ y.0) × (x.1 ≡ y.1)
  ok_parts x y e = let same : x ≡ y = cc in (ap (λ p. p.0) same, ap (λ p. p.1) same)

  -- what was taken, as what was answered
  pub done : {A : Type 0} (R : A → List (Tok P) → List (Tok P) → Type 0) (ts : List (Tok P)) (x y : A) (ws us : List (Tok P)) → R x ts ws
      → ◌≡◌ {A = Result (A × List (Tok P)) Fault} (Ok (x, ws)) (Ok (y, us)) → R y ts us
  done R ts x y ws us took e =
      let parts = ok_parts (x, ws) (y, us) e in
      subst (λ z. R z ts us) parts.0 (subst (λ v. R x ts v) parts.1 took)

  -- ---- single tokens

  at-word : (t : Tok P) (ts : List (Tok P)) (word : Word) → t.word ≡ word → at word t.place (t ∷ ts) ts
  at-word t ts word is = ap (λ v. record { word = v; place = t.place } ∷ ts) is

  pub expect_sound : (word : Word) → Sound (expect word) (at word)
  unfolding expect
  expect_sound word [] us p e = cc
  expect_sound word (t ∷ ts) us p e =
      by_if (same_word t.word word) _ _ _ (λ is e. done (at word) (t ∷ ts) t.place p ts us (at-word t ts word (same-word t.word word is)) e) (λ is e. cc) e

  -- the place aside
  pub a_sound : (word : Word) (ts us : List (Tok P)) (p : P) → expect word ts ≡ Ok (p, us) → a word ts us
  a_sound word ts us p e = (p, expect_sound word ts us p e)

  abbrev pub IsName : Name × P → List (Tok P) → List (Tok P) → Type 0
  IsName n = at (named n.0) n.1

  name_by_sound : (v : Word) (t : Tok P) (ts us : List (Tok P)) (n : Name × P) → t.word ≡ v → name_by v t ts ≡ Ok (n, us) → IsName n (t ∷ ts) us
  name_by_sound (named m) t ts us n is e = done IsName (t ∷ ts) (m, t.place) n ts us (at-word t ts (named m) is) e
  name_by_sound _ t ts us n is e = cc

  pub name_sound : Sound name IsName
  unfolding name
  name_sound [] us n e = cc
  name_sound (t ∷ ts) us n e = name_by_sound t.word t ts us n refl e

  abbrev pub IsNumeral : ℕ × P → List (Tok P) → List (Tok P) → Type 0
  IsNumeral n = at (number n.0) n.1

  numeral_by_sound : (v : Word) (t : Tok P) (ts us : List (Tok P)) (n : ℕ × P) → t.word ≡ v → numeral_by v t ts ≡ Ok (n, us) → IsNumeral n (t ∷ ts) us
  numeral_by_sound (number m) t ts us n is e = done IsNumeral (t ∷ ts) (m, t.place) n ts us (at-word t ts (number m) is) e
  numeral_by_sound _ t ts us n is e = cc

  pub numeral_sound : Sound numeral IsNumeral
  unfolding numeral
  numeral_sound [] us n e = cc
  numeral_sound (t ∷ ts) us n e = numeral_by_sound t.word t ts us n refl e

  -- ---- lists

  module _ {A : Type 0} (p : Parse P A) (R : A → List (Tok P) → List (Tok P) → Type 0) (sound : Sound p R) where
    pub each_sound : (begins : List (Tok P) → Bool) (n : ℕ) → Sound (each begins p n) (Each R)
    unfolding each
    each_sound begins zero ts us xs e = done (Each R) ts [] xs ts us refl e
    each_sound begins (suc n) ts us xs e =
        by_if (begins ts) _ _ _
        (λ is e.
        let x = bind_ok (p ts) _ _ e in
        let y = bind_ok (each begins p n x.0.1) _ _ x.2 in
        done (Each R) ts (x.0.0 ∷ y.0.0) xs y.0.1 us (x.0.1, sound ts x.0.1 x.0.0 x.1, each_sound begins n x.0.1 y.0.1 y.0.0 y.1) y.2)
        (λ is e. done (Each R) ts [] xs ts us refl e) e

    pub many_sound : (begins : List (Tok P) → Bool) → Sound (many begins p) (Each R)
    unfolding many
    many_sound begins ts us xs e = each_sound begins (length ts) ts us xs e

    pub behind_comma_sound : Sound (behind_comma p) (λ x. a w.COMMA ▷ R x)
    unfolding behind_comma
    behind_comma_sound ts us x e =
        let c = bind_ok (expect w.COMMA ts) _ _ e in (c.0.1, a_sound w.COMMA ts c.0.1 c.0.0 c.1, sound c.0.1 us x c.2)

  -- no more than the number of turns
  pub each_few : {A : Type 0} (begins : List (Tok P) → Bool) (p : Parse P A) (n : ℕ) (ts us : List (Tok P)) (xs : List A)
      → each begins p n ts ≡ Ok (xs, us) → length xs ≤ n
  unfolding each
  each_few begins p zero ts us xs e = done (λ xs ts us. length xs ≤ 0) ts [] xs ts us (omega arith) e
  each_few begins p (suc n) ts us xs e =
      by_if (begins ts) _ _ _
      (λ is e.
      let x = bind_ok (p ts) _ _ e in
      let y = bind_ok (each begins p n x.0.1) _ _ x.2 in
      let few = each_few begins p n x.0.1 y.0.1 y.0.0 y.1 in
      done (λ xs ts us. length xs ≤ suc n) ts (x.0.0 ∷ y.0.0) xs y.0.1 us (omega (arith, few)) y.2)
      (λ is e. done (λ xs ts us. length xs ≤ suc n) ts [] xs ts us (omega arith) e) e

  module _ {A : Type 0} (p : Parse P A) (R : A → List (Tok P) → List (Tok P) → Type 0) (sound : Sound p R) where
    pub listed_sound : Sound (listed p) (Listed R)
    unfolding listed
    listed_sound ts us xs e =
        let x = bind_ok (p ts) _ _ e in
        let y = bind_ok (many (is_at w.COMMA) (behind_comma p) x.0.1) _ _ x.2 in
        let more = many_sound (behind_comma p) (λ x. a w.COMMA ▷ R x) (behind_comma_sound p R sound) (is_at w.COMMA) x.0.1 y.0.1 y.0.0 y.1 in
        done (Listed R) ts (x.0.0 ∷ y.0.0) xs y.0.1 us (x.0.1, sound ts x.0.1 x.0.0 x.1, more) y.2

    pub some-listed : (xs : List A) (ts us : List (Tok P)) → Listed R xs ts us → SomeListed R xs ts us
    some-listed [] ts us took = absurd took
    some-listed (x ∷ xs) ts us took = took

    some_listed_sound : Sound (some_listed p) (SomeListed R)
    unfolding some_listed
    some_listed_sound ts us xs e =
        by_if (is_at w.RIGHT_PAREN ts) _ _ _ (λ is e. done (SomeListed R) ts [] xs ts us refl e)
        (λ is e. some-listed xs ts us (listed_sound ts us xs e)) e

    pub in_parens_sound : Sound (in_parens p) (λ xs. a w.LEFT_PAREN ▷ SomeListed R xs ▷ a w.RIGHT_PAREN)
    unfolding in_parens
    in_parens_sound ts us xs e =
        let l = bind_ok (expect w.LEFT_PAREN ts) _ _ e in
        let x = bind_ok (some_listed p l.0.1) _ _ l.2 in
        let r = bind_ok (expect w.RIGHT_PAREN x.0.1) _ _ x.2 in
        done (λ xs. a w.LEFT_PAREN ▷ SomeListed R xs ▷ a w.RIGHT_PAREN) ts x.0.0 xs r.0.1 us
        (l.0.1, a_sound w.LEFT_PAREN ts l.0.1 l.0.0 l.1, (x.0.1, some_listed_sound l.0.1 x.0.1 x.0.0 x.1, a_sound w.RIGHT_PAREN x.0.1 r.0.1 r.0.0 r.1)) r.2
