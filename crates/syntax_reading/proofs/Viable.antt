-- Before a fault stands what can be gone on with: steps, single tokens and lists.
use Rattle.std.proofs.Common.{◌≡◌, ℕ, zero, suc, ◌≤◌, ◌⊎◌, inl, inr, List, [], ◌∷◌, ◌++◌, length, Bool, true, false, cond, Result, Ok, Err, refl, ap, sym, ◌∙◌, subst, append_assoc, arith}
use Rattle.syntax_tree.specs.Plain.{Name}
use Rattle.syntax.specs.Words as w
use Rattle.syntax.specs.Words.{Word, named, number, keyword, sign, Tok}
use Rattle.syntax.specs.ExprGrammar.{at, a, ◌▷◌, nothing, Each, Listed, SomeListed}
use Rattle.syntax.specs.Opening.{Part, Whole, a_name}
use Rattle.syntax_reading.specs.ExprReading.{Fault, syntax, nesting, ◌>>=◌, Parse, refuse, too_deep, same_word, is_at, expect, name_by, name, numeral_by, numeral, each, many, behind_comma, listed, some_listed, in_parens}
use Rattle.syntax_reading.proofs.Basics.{bind_ok, by_if, ok_parts, same-word}
use Rattle.syntax_reading.proofs.OpenBasics.{by_step}

module _ {P : Type 0} where
  -- some tokens are this part, before whatever follows
  pub record Some (O : Part P) : Type 0 where
    pub more : List (Tok P)
    pub fits : (us : List (Tok P)) → O (more ++ us) us

  -- the tokens up to the second list are this part, before whatever follows
  pub record Free (O : Part P) (ts vs : List (Tok P)) : Type 0 where
    pub front : List (Tok P)
    pub is : ts ≡ front ++ vs
    pub fits : (us : List (Tok P)) → O (front ++ us) us

  -- the tokens up to where so many are left can be gone on with
  pub record Partial (O : Part P) (ts : List (Tok P)) (n : ℕ) : Type 0 where
    pub front : List (Tok P)
    pub rest : List (Tok P)
    pub more : List (Tok P)
    pub is : ts ≡ front ++ rest
    pub left : length rest ≡ n
    pub fits : (us : List (Tok P)) → O (front ++ (more ++ us)) us

  pub record Via {A : Type 0} (p : Parse P A) (O : Part P) : Type 0 where
    pub value : A
    pub some : Some O
    pub free : (ts vs : List (Tok P)) (x : A) → p ts ≡ Ok (x, vs) → Free O ts vs
    pub viable : (ts : List (Tok P)) (n : ℕ) → p ts ≡ Err (syntax n) → Partial O ts n

  -- one part and another, before whatever follows
  join : (O S : Part P) (f g : List (Tok P)) → ((us : List (Tok P)) → O (f ++ us) us) → ((us : List (Tok P)) → S (g ++ us) us) → (us : List (Tok P)) → (O ▷ S) ((f ++ g) ++ us) us
  join O S f g h k us = (g ++ us, subst (λ l. O l (g ++ us)) (sym (append_assoc f g us)) (h (g ++ us)), k us)

  join-some : (O S : Part P) → Some O → Some S → Some (O ▷ S)
  join-some O S h k = record { more = h.more ++ k.more; fits = join O S h.more k.more h.fits k.fits }

  module _ {A B : Type 0} (p : Parse P A) (O S : Part P) (k : A × List (Tok P) → Result (B × List (Tok P)) Fault) (h : Via p O) (g : (x : A) → Via (λ v. k (x, v)) S) where
    bind-free : (ts vs : List (Tok P)) (y : B) → (p ts >>= k) ≡ Ok (y, vs) → Free (O ▷ S) ts vs
    bind-free ts vs y e =
        let x = bind_ok (p ts) k (y, vs) e in
        let first = h.free ts x.0.1 x.0.0 x.1 in
        let second = (g x.0.0).free x.0.1 vs y x.2 in
        record {
          front = first.front ++ second.front;
          is = first.is ∙ ap (λ l. first.front ++ l) second.is ∙ sym (append_assoc first.front second.front vs);
          fits = join O S first.front second.front first.fits second.fits;
        }

    bind-viable : (ts : List (Tok P)) (n : ℕ) → (p ts >>= k) ≡ Err (syntax n) → Partial (O ▷ S) ts n
    bind-viable ts n e =
        by_step (p ts) k (syntax n)
        (λ bad.
        let first = h.viable ts n bad in
        let second = (g h.value).some in
        record {
          front = first.front;
          rest = first.rest;
          more = first.more ++ second.more;
          is = first.is;
          left = first.left;
          fits = λ us. (second.more ++ us, subst (λ l. O (first.front ++ l) (second.more ++ us)) (sym (append_assoc first.more second.more us)) (first.fits (second.more ++ us)), second.fits us);
        })
        (λ x good bad.
        let first = h.free ts x.1 x.0 good in
        let second = (g x.0).viable x.1 n bad in
        record {
          front = first.front ++ second.front;
          rest = second.rest;
          more = second.more;
          is = first.is ∙ ap (λ l. first.front ++ l) second.is ∙ sym (append_assoc first.front second.front second.rest);
          left = second.left;
          fits = λ us. (
            second.front ++ (second.more ++ us),
            subst (λ l. O l (second.front ++ (second.more ++ us))) (sym (append_assoc first.front second.front (second.more ++ us))) (first.fits (second.front ++ (second.more ++ us))),
            second.fits us,
          );
        }) e

    pub bind : Via {A = B} (λ ts. p ts >>= k) (O ▷ S)
    bind = record { value = (g h.value).value; some = join-some O S h.some (g h.value).some; free = bind-free; viable = bind-viable }

  -- what has the one part has the other
  abbrev pub Implies : Part P → Part P → Type 0
  Implies O T = (ts us : List (Tok P)) → O ts us → T ts us

  pub imp : {A : Type 0} {p : Parse P A} {O : Part P} (T : Part P) → Implies O T → Via p O → Via p T
  imp T f h = record {
    value = h.value;
    some = record { more = h.some.more; fits = λ us. f (h.some.more ++ us) us (h.some.fits us) };
    free = λ ts vs x e. let r = h.free ts vs x e in record { front = r.front; is = r.is; fits = λ us. f (r.front ++ us) us (r.fits us) };
    viable = λ ts n e. let r = h.viable ts n e in
        record { front = r.front; rest = r.rest; more = r.more; is = r.is; left = r.left; fits = λ us. f (r.front ++ (r.more ++ us)) us (r.fits us) };
  }

  pub via-ok : {A : Type 0} (x : A) → Via {A = A} (λ ts. Ok (x, ts)) nothing
  via-ok x = record {
    value = x;
    some = record { more = []; fits = λ us. refl };
    free = λ ts vs y e. record { front = []; is = (ok_parts (x, ts) (y, vs) e).1; fits = λ us. refl };
    viable = λ ts n e. cc;
  }

  -- the last step
  pub last : {A B : Type 0} (p : Parse P A) (O : Part P) (k : A × List (Tok P) → Result (B × List (Tok P)) Fault) → Via p O → ((x : A) → Via (λ v. k (x, v)) nothing) → Via {A = B} (λ ts. p ts >>= k) O
  last p O k h g = imp O (λ ts us (vs, took, same). subst (λ u. O ts u) same took) (bind p O nothing k h g)

  pub either : {A : Type 0} (c : List (Tok P) → Bool) (p q : Parse P A) (O : Part P) → Via p O → Via q O → Via {A = A} (λ ts. cond (c ts) (p ts) (q ts)) O
  either c p q O h g = record {
    value = h.value;
    some = h.some;
    free = λ ts vs x e. by_if (c ts) (p ts) (q ts) (Ok (x, vs)) (λ is e. h.free ts vs x e) (λ is e. g.free ts vs x e) e;
    viable = λ ts n e. by_if (c ts) (p ts) (q ts) (Err (syntax n)) (λ is e. h.viable ts n e) (λ is e. g.viable ts n e) e;
  }

  -- what is refused at once
  pub at-once : (O : Part P) → Some O → (ts : List (Tok P)) (n : ℕ) → length ts ≡ n → Partial O ts n
  at-once O s ts n left = record { front = []; rest = ts; more = s.more; is = refl; left = left; fits = s.fits }

  pub via-refuse : {A : Type 0} (x : A) (O : Part P) → Some O → Via {A = A} refuse O
  via-refuse x O s = record { value = x; some = s; free = λ ts vs y e. cc; viable = λ ts n e. at-once O s ts n cc }

  pub via-deep : {A : Type 0} (x : A) (O : Part P) → Some O → Via {A = A} too_deep O
  via-deep x O s = record { value = x; some = s; free = λ ts vs y e. cc; viable = λ ts n e. cc }

  -- ---- single tokens, where places are some

  abbrev pub a_number : Part P
  a_number = Whole (λ n. a (number n))

  module _ (o : P) where
    abbrev pub some-tok : Word → Tok P
    some-tok word = record { word = word; place = o }

    pub a-some : (word : Word) → Some (a word)
    a-some word = record { more = some-tok word ∷ []; fits = λ us. (o, refl) }

    word-free : (word : Word) (t : Tok P) (ts vs : List (Tok P)) → t.word ≡ word → ts ≡ vs → Free (a word) (t ∷ ts) vs
    word-free word t ts vs is same = record { front = t ∷ []; is = ap (λ l. t ∷ l) same; fits = λ us. (t.place, ap (λ v. record { word = v; place = t.place } ∷ us) is) }

    pub via-word : (word : Word) → Via (expect word) (a word)
    unfolding expect
    via-word word = record { value = o; some = a-some word; free = free; viable = viable }
      where
        free : (ts vs : List (Tok P)) (x : P) → expect word ts ≡ Ok (x, vs) → Free (a word) ts vs
        free [] vs x e = cc
        free (t ∷ ts) vs x e = by_if (same_word t.word word) _ _ _ (λ is e. word-free word t ts vs (same-word t.word word is) (ok_parts (t.place, ts) (x, vs) e).1) (λ is e. cc) e

        viable : (ts : List (Tok P)) (n : ℕ) → expect word ts ≡ Err (syntax n) → Partial (a word) ts n
        viable [] n e = at-once (a word) (a-some word) [] n cc
        viable (t ∷ ts) n e = by_if (same_word t.word word) _ _ _ (λ is e. cc) (λ is e. at-once (a word) (a-some word) (t ∷ ts) n cc) e

    name-some : Some (a_name {P = P})
    name-some = record { more = some-tok (named []) ∷ []; fits = λ us. ([], (o, refl)) }

    pub via-name : Via (name {P = P}) a_name
    unfolding name
    via-name = record { value = ([], o); some = name-some; free = free; viable = viable }
      where
        by-free : (v : Word) (t : Tok P) (ts vs : List (Tok P)) (x : Name × P) → t.word ≡ v → name_by v t ts ≡ Ok (x, vs) → Free a_name (t ∷ ts) vs
        by-free (named n) t ts vs x is e =
            let r = word-free (named n) t ts vs is (ok_parts ((n, t.place), ts) (x, vs) e).1 in record { front = r.front; is = r.is; fits = λ us. (n, r.fits us) }
        by-free (number n) t ts vs x is e = cc
        by-free (keyword n) t ts vs x is e = cc
        by-free (sign n) t ts vs x is e = cc

        by-viable : (v : Word) (t : Tok P) (ts : List (Tok P)) (n : ℕ) → name_by v t ts ≡ Err (syntax n) → Partial a_name (t ∷ ts) n
        by-viable (named m) t ts n e = cc
        by-viable (number m) t ts n e = at-once a_name name-some (t ∷ ts) n cc
        by-viable (keyword m) t ts n e = at-once a_name name-some (t ∷ ts) n cc
        by-viable (sign m) t ts n e = at-once a_name name-some (t ∷ ts) n cc

        free : (ts vs : List (Tok P)) (x : Name × P) → name ts ≡ Ok (x, vs) → Free a_name ts vs
        free [] vs x e = cc
        free (t ∷ ts) vs x e = by-free t.word t ts vs x refl e

        viable : (ts : List (Tok P)) (n : ℕ) → name ts ≡ Err (syntax n) → Partial a_name ts n
        viable [] n e = at-once a_name name-some [] n cc
        viable (t ∷ ts) n e = by-viable t.word t ts n e

    number-some : Some a_number
    number-some = record { more = some-tok (number 0) ∷ []; fits = λ us. (0, (o, refl)) }

    pub via-numeral : Via (numeral {P = P}) a_number
    unfolding numeral
    via-numeral = record { value = (0, o); some = number-some; free = free; viable = viable }
      where
        by-free : (v : Word) (t : Tok P) (ts vs : List (Tok P)) (x : ℕ × P) → t.word ≡ v → numeral_by v t ts ≡ Ok (x, vs) → Free a_number (t ∷ ts) vs
        by-free (number n) t ts vs x is e =
            let r = word-free (number n) t ts vs is (ok_parts ((n, t.place), ts) (x, vs) e).1 in record { front = r.front; is = r.is; fits = λ us. (n, r.fits us) }
        by-free (named n) t ts vs x is e = cc
        by-free (keyword n) t ts vs x is e = cc
        by-free (sign n) t ts vs x is e = cc

        by-viable : (v : Word) (t : Tok P) (ts : List (Tok P)) (n : ℕ) → numeral_by v t ts ≡ Err (syntax n) → Partial a_number (t ∷ ts) n
        by-viable (number m) t ts n e = cc
        by-viable (named m) t ts n e = at-once a_number number-some (t ∷ ts) n cc
        by-viable (keyword m) t ts n e = at-once a_number number-some (t ∷ ts) n cc
        by-viable (sign m) t ts n e = at-once a_number number-some (t ∷ ts) n cc

        free : (ts vs : List (Tok P)) (x : ℕ × P) → numeral ts ≡ Ok (x, vs) → Free a_number ts vs
        free [] vs x e = cc
        free (t ∷ ts) vs x e = by-free t.word t ts vs x refl e

        viable : (ts : List (Tok P)) (n : ℕ) → numeral ts ≡ Err (syntax n) → Partial a_number ts n
        viable [] n e = at-once a_number number-some [] n cc
        viable (t ∷ ts) n e = by-viable t.word t ts n e

  -- ---- lists

  -- no more than a number of these
  abbrev pub Few : {A : Type 0} → (A → Part P) → ℕ → Part P
  Few {A} R n ts us = (xs : List A) × (length xs ≤ n) × Each R xs ts us

  module _ {A B : Type 0} (c : List (Tok P) → Bool) (p : Parse P B) (R : A → Part P) (h : Via p (Whole R)) where
    pub via-each : (n : ℕ) → Via (each c p n) (Few R n)
    unfolding each
    via-each zero = imp (Few R zero) (λ ts us same. ([], omega arith, same)) (via-ok [])
    via-each (suc n) =
        either c _ _ (Few R (suc n))
        (imp (Few R (suc n)) (λ ts us (vs, (x, took), (xs, few, more)). (x ∷ xs, omega (arith, few), (vs, took, more)))
        (bind p (Whole R) (Few R n) _ h (λ x. last (each c p n) (Few R n) _ (via-each n) (λ xs. via-ok (x ∷ xs)))))
        (imp (Few R (suc n)) (λ ts us same. ([], omega arith, same)) (via-ok []))

    pub via-lengths : Via (λ ts. each c p (length ts) ts) (Whole (Each R))
    via-lengths = record {
      value = [];
      some = record { more = []; fits = λ us. ([], refl) };
      free = λ ts vs x e. (all (length ts)).free ts vs x e;
      viable = λ ts n e. (all (length ts)).viable ts n e;
    }
      where
        all : (n : ℕ) → Via (each c p n) (Whole (Each R))
        all n = imp (Whole (Each R)) (λ ts us (xs, few, took). (xs, took)) (via-each n)

    pub via-many : Via (many c p) (Whole (Each R))
    unfolding many
    via-many = via-lengths

  module _ (o : P) {A B : Type 0} (p : Parse P B) (R : A → Part P) (h : Via p (Whole R)) where
    pub via-comma : Via (behind_comma p) (Whole (λ x. a w.COMMA ▷ R x))
    unfolding behind_comma
    via-comma = imp (Whole (λ x. a w.COMMA ▷ R x)) (λ ts us (vs, c, (x, took)). (x, (vs, c, took))) (bind (expect w.COMMA) (a w.COMMA) (Whole R) _ (via-word o w.COMMA) (λ c. h))

    pub via-listed : Via (listed p) (Whole (Listed R))
    unfolding listed
    via-listed =
        imp (Whole (Listed R)) (λ ts us (vs, (x, took), (xs, more)). (x ∷ xs, (vs, took, more)))
        (bind p (Whole R) (Whole (Each (λ x. a w.COMMA ▷ R x))) _ h (λ x.
        last (many (is_at w.COMMA) (behind_comma p)) (Whole (Each (λ x. a w.COMMA ▷ R x))) _ (via-many (is_at w.COMMA) (behind_comma p) (λ x. a w.COMMA ▷ R x) via-comma) (λ xs. via-ok (x ∷ xs))))

    some-listed : (xs : List A) (ts us : List (Tok P)) → Listed R xs ts us → SomeListed R xs ts us
    some-listed [] ts us took = absurd took
    some-listed (x ∷ xs) ts us took = took

    via-some : Via (some_listed p) (Whole (SomeListed R))
    unfolding some_listed
    via-some =
        either (is_at w.RIGHT_PAREN) (λ ts. Ok ([], ts)) (listed p) (Whole (SomeListed R)) (imp (Whole (SomeListed R)) (λ ts us same. ([], same)) (via-ok []))
        (imp (Whole (SomeListed R)) (λ ts us (xs, took). (xs, some-listed xs ts us took)) via-listed)

    pub via-parens : Via (in_parens p) (a w.LEFT_PAREN ▷ Whole (SomeListed R) ▷ a w.RIGHT_PAREN)
    unfolding in_parens
    via-parens =
        bind (expect w.LEFT_PAREN) (a w.LEFT_PAREN) _ _ (via-word o w.LEFT_PAREN) (λ l. bind (some_listed p) (Whole (SomeListed R)) _ _ via-some (λ xs.
        last (expect w.RIGHT_PAREN) (a w.RIGHT_PAREN) _ (via-word o w.RIGHT_PAREN) (λ r. via-ok xs)))
