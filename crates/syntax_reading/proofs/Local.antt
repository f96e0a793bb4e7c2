-- What is read up to a token does not depend on what stands behind it: steps, single tokens and lists.
use Rattle.std.proofs.Common.{◌≡◌, ℕ, zero, suc, ◌+◌, ◌≤◌, ◌<◌, ◌⊎◌, inl, inr, List, [], ◌∷◌, ◌++◌, length, Bool, true, false, cond, Result, Ok, Err, refl, ap, sym, ◌∙◌, subst, arith}
use Rattle.syntax_tree.specs.Plain.{Name}
use Rattle.syntax.specs.Words as w
use Rattle.syntax.specs.Words.{Word, named, number, keyword, sign, Tok}
use Rattle.syntax_reading.specs.ExprReading.{Fault, syntax, nesting, ◌>>=◌, Parse, refuse, too_deep, same_word, is_at, expect, name_by, name, numeral_by, numeral, each, many, behind_comma, listed, some_listed, in_parens}

module _ {P : Type 0} where
  -- what is left is no longer than this
  abbrev pub Within : {A : Type 0} → Result (A × List (Tok P)) Fault → ℕ → Type 0
  Within (Ok x) n = length x.1 ≤ n
  Within (Err (syntax m)) n = m ≤ n
  Within (Err (nesting m)) n = Unit {0}

  pub within-more : {A : Type 0} (r : Result (A × List (Tok P)) Fault) (m n : ℕ) → m ≤ n → Within r m → Within r n
  within-more (Ok x) m n less h = omega (arith, h)
  within-more (Err (syntax k)) m n less h = omega (arith, h)
  within-more (Err (nesting k)) m n less h = tt

  abbrev pub Stays : {A : Type 0} → Parse P A → Type 0
  Stays p = (v : List (Tok P)) → Within (p v) (length v)

  -- what was read took a token
  abbrev pub Moves : {A : Type 0} → Parse P A → Type 0
  Moves {A} p = (ts us : List (Tok P)) (x : A) → p ts ≡ Ok (x, us) → length us < length ts

  pub bind-within : {A B : Type 0} (r : Result (A × List (Tok P)) Fault) (k : A × List (Tok P) → Result (B × List (Tok P)) Fault) (n : ℕ)
      → Within r n → ((x : A) → Stays (λ v. k (x, v))) → Within (r >>= k) n
  bind-within (Ok x) k n h s = within-more (k x) (length x.1) n h (s x.0 x.1)
  bind-within (Err (syntax m)) k n h s = h
  bind-within (Err (nesting m)) k n h s = tt

  module _ (t : Tok P) (a b : List (Tok P)) where
    -- the same is read, and the token is left
    abbrev pub Kept : {A : Type 0} → (r s : Result (A × List (Tok P)) Fault) → Type 0
    Kept {A} r s = (x : A) × (front : List (Tok P)) × (r ≡ Ok (x, front ++ t ∷ a)) × (s ≡ Ok (x, front ++ t ∷ b))

    abbrev pub Fails : {A : Type 0} → Result A Fault → Type 0
    Fails s = (f : Fault) × (s ≡ Err f)

    -- of two readings: they read the same and leave the token, or the second fails, or the first goes past the token
    abbrev pub Out : {A : Type 0} → (r s : Result (A × List (Tok P)) Fault) → Type 0
    Out r s = Kept r s ⊎ Fails s ⊎ Within r (length a)

    abbrev pub Local : {A : Type 0} → (p q : Parse P A) → Type 0
    Local p q = (front : List (Tok P)) → Out (p (front ++ t ∷ a)) (q (front ++ t ∷ b))

    pub record Good {A : Type 0} (p q : Parse P A) : Type 0 where
      pub stays : Stays p
      pub local : Local p q

    pub good-ok : {A : Type 0} (x : A) → Good {A = A} (λ ts. Ok (x, ts)) (λ ts. Ok (x, ts))
    good-ok x = record { stays = λ v. omega arith; local = λ front. inl (x, front, refl, refl) }

    bind-out : {A B : Type 0} (r s : Result (A × List (Tok P)) Fault) (k l : A × List (Tok P) → Result (B × List (Tok P)) Fault)
        → Out r s → ((x : A) → Good (λ v. k (x, v)) (λ v. l (x, v))) → Out (r >>= k) (s >>= l)
    bind-out r s k l (inl (x, front, is, same)) g =
        let e : (r >>= k) ≡ k (x, front ++ t ∷ a) = ap (λ r. r >>= k) is in
        let f : (s >>= l) ≡ l (x, front ++ t ∷ b) = ap (λ r. r >>= l) same in
        subst (λ u. Out u (s >>= l)) (sym e) (subst (λ u. Out (k (x, front ++ t ∷ a)) u) (sym f) ((g x).local front))
    bind-out r s k l (inr (inl (f, bad))) g = inr (inl (f, ap (λ r. r >>= l) bad))
    bind-out r s k l (inr (inr short)) g = inr (inr (bind-within r k (length a) short (λ x. (g x).stays)))

    pub bind : {A B : Type 0} (p q : Parse P A) (k l : A × List (Tok P) → Result (B × List (Tok P)) Fault)
        → Good p q → ((x : A) → Good (λ v. k (x, v)) (λ v. l (x, v))) → Good {A = B} (λ ts. p ts >>= k) (λ ts. q ts >>= l)
    bind p q k l h g =
        record { stays = λ v. bind-within (p v) k (length v) (h.stays v) (λ x. (g x).stays); local = λ front. bind-out (p (front ++ t ∷ a)) (q (front ++ t ∷ b)) k l (h.local front) g }

    -- ---- tests

    -- a test looks at the first token alone
    abbrev pub Heads : {B : Type 0} → (List (Tok P) → B) → Type 0
    Heads c = (u : Tok P) (xs ys : List (Tok P)) → c (u ∷ xs) ≡ c (u ∷ ys)

    pub heads-same : {B : Type 0} (c : List (Tok P) → B) → Heads c → (front : List (Tok P)) → c (front ++ t ∷ a) ≡ c (front ++ t ∷ b)
    heads-same c h [] = h t a b
    heads-same c h (u ∷ front) = h u (front ++ t ∷ a) (front ++ t ∷ b)

    pub cond-within : {A : Type 0} (c : Bool) (r s : Result (A × List (Tok P)) Fault) (n : ℕ) → Within r n → Within s n → Within (cond c r s) n
    cond-within true r s n h g = h
    cond-within false r s n h g = g

    pub cond-out : {A : Type 0} (c d : Bool) (r s x y : Result (A × List (Tok P)) Fault) → c ≡ d → Out r x → Out s y → Out (cond c r s) (cond d x y)
    cond-out true true r s x y same h g = h
    cond-out false false r s x y same h g = g
    cond-out true false r s x y same h g = cc
    cond-out false true r s x y same h g = cc

    pub either : {A : Type 0} (c : List (Tok P) → Bool) (p q r s : Parse P A) → Heads c → Good p q → Good r s → Good {A = A} (λ ts. cond (c ts) (p ts) (r ts)) (λ ts. cond (c ts) (q ts) (s ts))
    either c p q r s heads h g = record {
      stays = λ v. cond-within (c v) (p v) (r v) (length v) (h.stays v) (g.stays v);
      local = λ front.
          cond-out (c (front ++ t ∷ a)) (c (front ++ t ∷ b)) (p (front ++ t ∷ a)) (r (front ++ t ∷ a)) (q (front ++ t ∷ b)) (s (front ++ t ∷ b)) (heads-same c heads front)
          (h.local front) (g.local front);
    }

    -- ---- single tokens

    -- by the first token
    by-first : {A : Type 0} (p : Parse P A) → Within (p []) 0 → ((u : Tok P) (xs : List (Tok P)) → Within (p (u ∷ xs)) (suc (length xs)))
        → Local p p → Good p p
    by-first p none some local = record { stays = λ v. at v; local = local }
      where
        at : (v : List (Tok P)) → Within (p v) (length v)
        at [] = none
        at (u ∷ xs) = some u xs

    expect-by : (word : Word) (c : Bool) (u : Tok P) (front : List (Tok P))
        → Out (cond c (Ok (u.place, front ++ t ∷ a)) (refuse (u ∷ front ++ t ∷ a))) (cond c (Ok (u.place, front ++ t ∷ b)) (refuse (u ∷ front ++ t ∷ b)))
    expect-by word true u front = inl (u.place, front, refl, refl)
    expect-by word false u front = inr (inl (syntax (length (u ∷ front ++ t ∷ b)), refl))

    expect-here : (word : Word) (c : Bool) → Out (cond c (Ok (t.place, a)) (refuse (t ∷ a))) (cond c (Ok (t.place, b)) (refuse (t ∷ b)))
    expect-here word true = inr (inr (omega arith))
    expect-here word false = inr (inl (syntax (length (t ∷ b)), refl))

    expect-local : (word : Word) → Local (expect word) (expect word)
    unfolding expect
    expect-local word [] = expect-here word (same_word t.word word)
    expect-local word (u ∷ front) = expect-by word (same_word u.word word) u front

    pub good-expect : (word : Word) → Good (expect word) (expect word)
    unfolding expect
    good-expect word =
        by-first (expect word) (omega arith)
        (λ u xs. cond-within (same_word u.word word) (Ok (u.place, xs)) (refuse (u ∷ xs)) (suc (length xs)) (omega arith) (omega arith)) (expect-local word)

    name-within : (v : Word) (u : Tok P) (xs : List (Tok P)) → Within (name_by v u xs) (suc (length xs))
    name-within (named n) u xs = omega arith
    name-within _ u xs = omega arith

    name-by : (v : Word) (u : Tok P) (front : List (Tok P)) → Out (name_by v u (front ++ t ∷ a)) (name_by v u (front ++ t ∷ b))
    name-by (named n) u front = inl ((n, u.place), front, refl, refl)
    name-by _ u front = inr (inl (syntax (length (u ∷ front ++ t ∷ b)), refl))

    pub name-here : (v : Word) → Out (name_by v t a) (name_by v t b)
    name-here (named n) = inr (inr (omega arith))
    name-here _ = inr (inl (syntax (length (t ∷ b)), refl))

    name-local : Local (name {P = P}) name
    unfolding name
    name-local [] = name-here t.word
    name-local (u ∷ front) = name-by u.word u front

    pub good-name : Good (name {P = P}) name
    unfolding name
    good-name = by-first name (omega arith) (λ u xs. name-within u.word u xs) name-local

    numeral-within : (v : Word) (u : Tok P) (xs : List (Tok P)) → Within (numeral_by v u xs) (suc (length xs))
    numeral-within (number n) u xs = omega arith
    numeral-within _ u xs = omega arith

    numeral-by : (v : Word) (u : Tok P) (front : List (Tok P)) → Out (numeral_by v u (front ++ t ∷ a)) (numeral_by v u (front ++ t ∷ b))
    numeral-by (number n) u front = inl ((n, u.place), front, refl, refl)
    numeral-by _ u front = inr (inl (syntax (length (u ∷ front ++ t ∷ b)), refl))

    numeral-here : (v : Word) → Out (numeral_by v t a) (numeral_by v t b)
    numeral-here (number n) = inr (inr (omega arith))
    numeral-here _ = inr (inl (syntax (length (t ∷ b)), refl))

    numeral-local : Local (numeral {P = P}) numeral
    unfolding numeral
    numeral-local [] = numeral-here t.word
    numeral-local (u ∷ front) = numeral-by u.word u front

    pub good-numeral : Good (numeral {P = P}) numeral
    unfolding numeral
    good-numeral = by-first numeral (omega arith) (λ u xs. numeral-within u.word u xs) numeral-local

    -- ---- lists

    -- turns enough for both lists, or as many for the one as for the other
    abbrev pub Enough : (m n : ℕ) (front : List (Tok P)) → Type 0
    Enough m n front = (m ≡ n) ⊎ ((length (front ++ t ∷ a) ≤ m) × (length (front ++ t ∷ b) ≤ n))

    pub ends-suc : (front : List (Tok P)) (c : List (Tok P)) → length (front ++ t ∷ c) ≡ suc (length front + length c)
    ends-suc [] c = omega arith
    ends-suc (u ∷ front) c = let h = ends-suc front c in omega (arith, h)

    enough-less : (m n : ℕ) (front less : List (Tok P)) → length (less ++ t ∷ a) < length (front ++ t ∷ a) → Enough (suc m) (suc n) front → Enough m n less
    enough-less m n front less fewer (inl same) = inl (omega (arith, same))
    enough-less m n front less fewer (inr (x, y)) =
        let h = ends-suc front a in let i = ends-suc front b in let j = ends-suc less a in let k = ends-suc less b in
        inr (omega (arith, x, fewer), omega (arith, y, fewer, h, i, j, k))

    -- what is read behind the first
    abbrev others : {A : Type 0} → (List (Tok P) → Bool) → Parse P A → ℕ → A × List (Tok P) → Result (List A × List (Tok P)) Fault
    others c p n x = each c p n x.1 >>= λ xs. Ok (x.0 ∷ xs.0, xs.1)

    module _ {A : Type 0} (c : List (Tok P) → Bool) (heads : Heads c) (p q : Parse P A) (moves : Moves p) (good : Good p q) where
      each-stays : (n : ℕ) → Stays (each c p n)
      unfolding each
      each-stays zero v = omega arith
      each-stays (suc n) v =
          cond-within (c v) _ (Ok ([], v)) (length v)
          (bind-within (p v) _ (length v) (good.stays v) (λ x u. bind-within (each c p n u) _ (length u) (each-stays n u) (λ y z. omega arith))) (omega arith)

      each-local : (m n : ℕ) (front : List (Tok P)) → Enough m n front → Out (each c p m (front ++ t ∷ a)) (each c q n (front ++ t ∷ b))
      unfolding each
      each-local zero zero front some = inl ([], front, refl, refl)
      each-local zero (suc n) front (inl same) = absurd (omega (arith, same))
      each-local zero (suc n) front (inr (x, y)) = let h = ends-suc front a in absurd (omega (arith, x, h))
      each-local (suc m) zero front (inl same) = absurd (omega (arith, same))
      each-local (suc m) zero front (inr (x, y)) = let h = ends-suc front b in absurd (omega (arith, y, h))
      each-local (suc m) (suc n) front some =
          cond-out (c (front ++ t ∷ a)) (c (front ++ t ∷ b)) _ _ _ _ (heads-same c heads front)
          (more m n front some (p (front ++ t ∷ a)) (q (front ++ t ∷ b)) refl (good.local front) (λ less. each-local m n less))
          (inl ([], front, refl, refl))
        where
          more : (m n : ℕ) (front : List (Tok P)) → Enough (suc m) (suc n) front → (r s : Result (A × List (Tok P)) Fault) → p (front ++ t ∷ a) ≡ r → Out r s
              → ((less : List (Tok P)) → Enough m n less → Out (each c p m (less ++ t ∷ a)) (each c q n (less ++ t ∷ b)))
              → Out (r >>= others c p m) (s >>= others c q n)
          more m n front some r s is (inl (x, less, first, second)) rest =
              let fewer = moves (front ++ t ∷ a) (less ++ t ∷ a) x (is ∙ first) in
              let k = others c p m in
              let l = others c q n in
              let e : (r >>= k) ≡ k (x, less ++ t ∷ a) = ap (λ r. r >>= k) first in
              let f : (s >>= l) ≡ l (x, less ++ t ∷ b) = ap (λ r. r >>= l) second in
              subst (λ u. Out u (s >>= l)) (sym e) (subst (λ u. Out (k (x, less ++ t ∷ a)) u) (sym f)
              (bind-out (each c p m (less ++ t ∷ a)) (each c q n (less ++ t ∷ b)) _ _ (rest less (enough-less m n front less fewer some)) (λ xs. good-ok (x ∷ xs))))
          more m n front some r s is (inr (inl (f, bad))) rest = inr (inl (f, ap (λ r. r >>= others c q n) bad))
          more m n front some r s is (inr (inr short)) rest =
              inr (inr (bind-within r (others c p m) (length a) short (λ x u. bind-within (each c p m u) _ (length u) (each-stays m u) (λ y z. omega arith))))

      pub good-lengths : Good (λ ts. each c p (length ts) ts) (λ ts. each c q (length ts) ts)
      good-lengths = record {
        stays = λ v. each-stays (length v) v;
        local = λ front. each-local (length (front ++ t ∷ a)) (length (front ++ t ∷ b)) front (inr (omega arith, omega arith));
      }

      pub good-many : Good (many c p) (many c q)
      unfolding many
      good-many = good-lengths

      pub good-turns : (n : ℕ) → Good (each c p n) (each c q n)
      good-turns n = record { stays = each-stays n; local = λ front. each-local n n front (inl refl) }

    -- what begins with a word moves
    pub word-moves : {B : Type 0} (word : Word) (k : P × List (Tok P) → Result (B × List (Tok P)) Fault) → ((x : P) → Stays (λ v. k (x, v))) → Moves {A = B} (λ ts. expect word ts >>= k)
    unfolding expect
    word-moves word k s [] us x e = cc
    word-moves word k s (u ∷ ts) us x e = by (same_word u.word word) e
      where
        by : (c : Bool) → (cond c (Ok (u.place, ts)) (refuse (u ∷ ts)) >>= k) ≡ Ok (x, us) → length us < suc (length ts)
        by true e = let h = subst (λ r. Within r (length ts)) e (s u.place ts) in omega (arith, h)
        by false e = cc

    module _ {A : Type 0} (p q : Parse P A) (good : Good p q) where
      pub good-comma : Good (behind_comma p) (behind_comma q)
      unfolding behind_comma
      good-comma = bind (expect w.COMMA) (expect w.COMMA) (λ c. p c.1) (λ c. q c.1) (good-expect w.COMMA) (λ c. good)

      comma-moves : Moves (behind_comma p)
      unfolding behind_comma
      comma-moves = word-moves w.COMMA (λ c. p c.1) (λ c. good.stays)

      good-commas : Good (many (is_at w.COMMA) (behind_comma p)) (many (is_at w.COMMA) (behind_comma q))
      good-commas = good-many (is_at w.COMMA) (λ u xs ys. refl) (behind_comma p) (behind_comma q) comma-moves good-comma

      pub good-listed : Good (listed p) (listed q)
      unfolding listed
      good-listed =
          bind p q _ _ good (λ x. bind (many (is_at w.COMMA) (behind_comma p)) (many (is_at w.COMMA) (behind_comma q)) _ _ good-commas (λ xs. good-ok (x ∷ xs)))

      good-some : Good (some_listed p) (some_listed q)
      unfolding some_listed
      good-some = either (is_at w.RIGHT_PAREN) (λ ts. Ok ([], ts)) (λ ts. Ok ([], ts)) (listed p) (listed q) (λ u xs ys. refl) (good-ok []) good-listed

      pub good-parens : Good (in_parens p) (in_parens q)
      unfolding in_parens
      good-parens =
          bind (expect w.LEFT_PAREN) (expect w.LEFT_PAREN) _ _ (good-expect w.LEFT_PAREN) (λ l.
          bind (some_listed p) (some_listed q) _ _ good-some (λ xs. bind (expect w.RIGHT_PAREN) (expect w.RIGHT_PAREN) _ _ (good-expect w.RIGHT_PAREN) (λ r. good-ok xs)))

    pub either-moves : {A : Type 0} (c : List (Tok P) → Bool) (p q : Parse P A) → Moves p → Moves q → Moves {A = A} (λ ts. cond (c ts) (p ts) (q ts))
    either-moves c p q h g ts us x e = by (c ts) e
      where
        by : (b : Bool) → cond b (p ts) (q ts) ≡ Ok (x, us) → length us < length ts
        by true e = h ts us x e
        by false e = g ts us x e

    pub bind-moves : {A B : Type 0} (p : Parse P A) (k : A × List (Tok P) → Result (B × List (Tok P)) Fault) → Moves p → ((x : A) → Stays (λ v. k (x, v))) → Moves {A = B} (λ ts. p ts >>= k)
    bind-moves {A} p k m s ts us x e = by (p ts) refl e
      where
        by : (r : Result (A × List (Tok P)) Fault) → p ts ≡ r → (r >>= k) ≡ Ok (x, us) → length us < length ts
        by (Ok y) is e = let h = m ts y.1 y.0 is in let g = subst (λ r. Within r (length y.1)) e (s y.0 y.1) in omega (arith, h, g)
        by (Err f) is e = cc
