-- A token that opens a level beyond the last is found as a fault of nesting: steps, single tokens and lists.
use Rattle.std.proofs.Common.{◌≡◌, ℕ, zero, suc, ◌<◌, List, [], ◌∷◌, length, Bool, true, false, Result, Err, refl, ap, sym, ◌∙◌, subst, arith}
use Rattle.syntax.specs.Words as w
use Rattle.syntax.specs.Words.{Word, Tok}
use Rattle.syntax.specs.ExprGrammar.{a, ◌▷◌, Each}
use Rattle.syntax.specs.Opening.{Part, Whole, here}
use Rattle.syntax_reading.specs.ExprReading.{Fault, nesting, ◌>>=◌, Parse, too_deep, is_at, expect, each, many, behind_comma, listed, some_listed, in_parens}
use Rattle.syntax_reading.proofs.Shorter.{Shorter, a-shorter, a-then, weak, each-long}
use Rattle.syntax_reading.proofs.AgainBasics.{step, if-true, if-false, Again, expect_again, each-starts, behind_comma_again}

-- a step that is at fault
pub at-fault : {A B : Type 0} (r : Result A Fault) (f : A → Result B Fault) (g : Fault) → r ≡ Err g → (r >>= f) ≡ Err g
at-fault r f g e = ap (λ r. r >>= f) e

module _ {P : Type 0} where
  -- where this leads a fault of nesting is found
  abbrev pub Finds : {A : Type 0} → Parse P A → Part P → Type 0
  Finds {A} p O = (ts us : List (Tok P)) → O ts us → p ts ≡ Err (nesting (length us))

  pub same-fault : (ts us : List (Tok P)) → ts ≡ us → (A : Type 0) → ◌≡◌ {A = Result (A × List (Tok P)) Fault} (Err (nesting (length ts))) (Err (nesting (length us)))
  same-fault ts us same A = ap (λ t. Err (nesting (length t))) same

  -- at a word behind which the reading goes too deep
  pub finds-here : {A : Type 0} (p : Parse P A) (word : Word) → ((q : P) (vs : List (Tok P)) → p (record { word = word; place = q } ∷ vs) ≡ too_deep (record { word = word; place = q } ∷ vs))
      → Finds p (here word)
  finds-here {A} p word goes ts us (same, (vs, (q, took))) =
      ap p took ∙ goes q vs ∙ same-fault (record { word = word; place = q } ∷ vs) us (sym took ∙ same) A

  -- ---- lists

  module _ {A : Type 0} (begins : List (Tok P) → Bool) (p : Parse P A) (R : A → Part P) (F : List (Tok P) → Type 0)
      (again : Again p R F) (goes : (x : A) (ts us : List (Tok P)) → R x ts us → begins ts ≡ true)
      (starts : (x : A) (ts us : List (Tok P)) → R x ts us → F ts)
      (O : Part P) (finds : Finds p O) (opens : (ts us : List (Tok P)) → O ts us → begins ts ≡ true) (follows : (ts us : List (Tok P)) → O ts us → F ts) where
    pub each_finds : (n : ℕ) (xs : List A) (ts vs us : List (Tok P)) → Each R xs ts vs → O vs us → length xs < n → each begins p n ts ≡ Err (nesting (length us))
    unfolding each
    each_finds zero xs ts vs us took o few = absurd (omega (arith, few))
    each_finds (suc n) [] ts vs us took o few =
        let there : O ts us = subst (λ t. O t us) (sym took) o in
        if-true (begins ts) _ _ _ (opens ts us there) (at-fault (p ts) _ _ (finds ts us there))
    each_finds (suc n) (x ∷ xs) ts vs us (v1, took, more) o few =
        if-true (begins ts) _ _ _ (goes x ts v1 took)
        (step (p ts) _ (x, v1) _ (again ts v1 x took (each-starts begins p R F again goes starts xs v1 vs more (follows vs us o)))
        (at-fault (each begins p n v1) _ _ (each_finds n xs v1 vs us more o (omega (arith, few)))))

    pub many_finds : ((x : A) → Shorter (R x)) → ((ts us : List (Tok P)) → O ts us → 0 < length ts) → Finds (many begins p) (Whole (Each R) ▷ O)
    unfolding many
    many_finds shorter some ts us (vs, (xs, took), o) =
        let long = each-long R shorter xs ts vs took in
        let one = some vs us o in
        each_finds (length ts) xs ts vs us took o (omega (arith, long, one))

  -- commas behind the parts as commas before them
  record Parted {A : Type 0} (R : A → Part P) (x : A) (xs : List A) (ts ws : List (Tok P)) : Type 0 where
    pub us : List (Tok P)
    pub vs : List (Tok P)
    pub first : R x ts us
    pub more : Each (λ x. a w.COMMA ▷ R x) xs us vs
    pub last : a w.COMMA vs ws
    pub rest : List (Tok P)
    pub follow : a w.COMMA us rest

  parted : {A : Type 0} (R : A → Part P) (x : A) (xs : List A) (ts ws : List (Tok P)) → Each (λ x. R x ▷ a w.COMMA) (x ∷ xs) ts ws → Parted R x xs ts ws
  parted R x [] ts ws (v1, (v2, took, comma), same) =
      record { us = v2; vs = v2; first = took; more = refl; last = subst (λ v. a w.COMMA v2 v) same comma; rest = v1; follow = comma }
  parted R x (y ∷ ys) ts ws (v1, (v2, took, comma), more) =
      let next = parted R y ys v1 ws more in
      record { us = v2; vs = next.vs; first = took; more = (next.us, (v1, comma, next.first), next.more); last = next.last; rest = v1; follow = comma }

  module _ {A : Type 0} (p : Parse P A) (R : A → Part P) (F : List (Tok P) → Type 0)
      (again : Again p R F) (shorter : (x : A) → Shorter (R x)) (comma : (ts us : List (Tok P)) → a w.COMMA ts us → F ts) (O : Part P) (finds : Finds p O) where
    behind_comma_finds : Finds (behind_comma p) (a w.COMMA ▷ O)
    unfolding behind_comma
    behind_comma_finds ts us (vs, (q, c), o) = step (expect w.COMMA ts) _ (q, vs) _ (expect_again w.COMMA q ts vs refl c) (finds vs us o)

    listed_finds : Finds (listed p) (Whole (Each (λ x. R x ▷ a w.COMMA)) ▷ O)
    unfolding listed
    listed_finds ts us (vs, ([], same), o) = at-fault (p ts) _ _ (finds ts us (subst (λ t. O t us) (sym same) o))
    listed_finds ts us (vs, (x ∷ xs, took), o) =
        let parts = parted R x xs ts vs took in
        step (p ts) _ (x, parts.us) _ (again ts parts.us x parts.first (comma parts.us parts.rest parts.follow))
        (at-fault (many (is_at w.COMMA) (behind_comma p) parts.us) _ _
        (many_finds (is_at w.COMMA) (behind_comma p) (λ x. a w.COMMA ▷ R x) F (behind_comma_again p R F again shorter comma)
        (λ x ts us (vs, (q, c), took). ap (is_at w.COMMA) c) (λ x ts us (vs, c, took). comma ts vs c) (a w.COMMA ▷ O) behind_comma_finds
        (λ ts us (vs, (q, c), o). ap (is_at w.COMMA) c) (λ ts us (vs, c, o). comma ts vs c) (λ x. a-then w.COMMA (R x) (weak (R x) (shorter x)))
        (λ ts us (vs, c, o). let fewer = a-shorter w.COMMA ts vs c in omega (arith, fewer)) parts.us us (parts.vs, (xs, parts.more), (vs, parts.last, o))))

    module _ (opens : (x : A) (ts us : List (Tok P)) → R x ts us → is_at w.RIGHT_PAREN ts ≡ false) (starts : (ts us : List (Tok P)) → O ts us → is_at w.RIGHT_PAREN ts ≡ false) where
      some_listed_finds : Finds (some_listed p) (Whole (Each (λ x. R x ▷ a w.COMMA)) ▷ O)
      unfolding some_listed
      some_listed_finds ts us (vs, ([], same), o) =
          if-false (is_at w.RIGHT_PAREN ts) _ _ _ (ap (is_at w.RIGHT_PAREN) same ∙ starts vs us o) (listed_finds ts us (vs, ([], same), o))
      some_listed_finds ts us (vs, (x ∷ xs, (v1, (v2, took, c), more)), o) =
          if-false (is_at w.RIGHT_PAREN ts) _ _ _ (opens x ts v2 took) (listed_finds ts us (vs, (x ∷ xs, (v1, (v2, took, c), more)), o))

      pub in_parens_finds : Finds (in_parens p) (a w.LEFT_PAREN ▷ Whole (Each (λ x. R x ▷ a w.COMMA)) ▷ O)
      unfolding in_parens
      in_parens_finds ts us (v1, (q, l), o) =
          step (expect w.LEFT_PAREN ts) _ (q, v1) _ (expect_again w.LEFT_PAREN q ts v1 refl l) (at-fault (some_listed p v1) _ _ (some_listed_finds v1 us o))
