-- Places along a text: which of two stands before the other, and the places of tokens, which rise.
use Rattle.std.proofs.Common.{◌≡◌, ℕ, zero, suc, ◌<◌, Bool, true, false, List, [], ◌∷◌, length, slice_index_or, ◌⊎◌, inl, inr, refl, ◌∙◌, subst, arith, eqb, eqb-true}
use Rattle.std.specs.Prelude.{nat_lt, nat_eq, ◌&&◌, ◌||◌}
use Rattle.std.proofs.lemmas.Bool.{and_parts, and_from, or_left, or_right, ltb-true, lt-ltb, eq-eqb, false_from_ne_true}
use Rattle.syntax_tree.specs.Parts.{same_place}
use Rattle.syntax_tree.specs.declared.place.Place.{Place}
use Rattle.syntax.specs.declared.token.Token.{Token}
use Rattle.syntax.specs.Tokens.{StandsIn}
use Rattle.syntax.specs.Lex.{HasSpan, IsBefore, StandInOrder}
use Rattle.syntax.specs.Words.{Tok, tok, toks_of}
use Rattle.syntax.proofs.Places.{Lower, lower-trans, tokens-rise}
use Rattle.message_names.specs.Reach.{before}
use Rattle.message_names.proofs.Spots.{Sub}

-- ---- one place before another

abbrev pub Ahead : Place → Place → Type 0
Ahead p q = before p q ≡ true

pub ahead-from : (p q : Place) → Lower p.line q.line p.col q.col → Ahead p q
ahead-from p q (inl h) = or_left (nat_lt p.line q.line) (nat_eq p.line q.line && nat_lt p.col q.col) (lt-ltb p.line q.line h)
ahead-from p q (inr h) = or_right (nat_lt p.line q.line) (nat_eq p.line q.line && nat_lt p.col q.col) (and_from _ _ (eq-eqb p.line q.line h.0) (lt-ltb p.col q.col h.1))

pub ahead-to : (p q : Place) → Ahead p q → Lower p.line q.line p.col q.col
ahead-to p q h = by (nat_lt p.line q.line) refl h
  where
    by : (b : Bool) → nat_lt p.line q.line ≡ b → (b || (nat_eq p.line q.line && nat_lt p.col q.col)) ≡ true → Lower p.line q.line p.col q.col
    by true e t = inl (ltb-true p.line q.line e)
    by false e t = let both = and_parts (nat_eq p.line q.line) (nat_lt p.col q.col) t in inr (eqb-true p.line q.line both.0, ltb-true p.col q.col both.1)

lower-not : (l m b c : ℕ) → Lower l m b c → Lower m l c b → ⊥
lower-not l m b c (inl g) (inl h) = omega arith
lower-not l m b c (inl g) (inr h) = let x = h.0 in omega arith
lower-not l m b c (inr g) (inl h) = let x = g.0 in omega arith
lower-not l m b c (inr g) (inr h) = let v = g.0 in let w = g.1 in let x = h.0 in let y = h.1 in omega arith

pub ahead-trans : (p q r : Place) → Ahead p q → Ahead q r → Ahead p r
ahead-trans p q r g h = ahead-from p r (lower-trans p.line q.line r.line p.col q.col r.col (ahead-to p q g) (ahead-to q r h))

pub not-ahead : (p q : Place) → Ahead p q → before q p ≡ false
not-ahead p q g = false_from_ne_true (before q p) (λ h. lower-not p.line q.line p.col q.col (ahead-to p q g) (ahead-to q p h))

pub not-itself : (p : Place) → before p p ≡ false
not-itself p = false_from_ne_true (before p p) (λ h. lower-not p.line p.line p.col p.col (ahead-to p p h) (ahead-to p p h))

pub ahead-apart : (p q : Place) → Ahead p q → same_place p q ≡ false
ahead-apart p q g = false_from_ne_true (same_place p q) (λ h.
    let both = and_parts (eqb p.line q.line) (eqb p.col q.col) h in
    let line : p.line ≡ q.line = eqb-true p.line q.line both.0 in
    let col : p.col ≡ q.col = eqb-true p.col q.col both.1 in
    apart p.line q.line p.col q.col (ahead-to p q g) line col)
  where
    apart : (l m b c : ℕ) → Lower l m b c → l ≡ m → b ≡ c → ⊥
    apart l m b c (inl h) e f = omega arith
    apart l m b c (inr h) e f = let x = h.1 in omega arith

-- ---- places that rise

abbrev pub Mem : {X : Type 0} → X → List X → Type 0
Mem x [] = ⊥
Mem x (y ∷ ys) = (y ≡ x) ⊎ Mem x ys

abbrev pub Rising : List Place → Type 0
Rising [] = Unit {0}
Rising (p ∷ ps) = ((q : Place) → Mem q ps → Ahead p q) × Rising ps

-- ---- tokens

abbrev spot : Token → Place
spot t = record { line = t.line; col = t.col }

two-tokens : (text : List ℕ) (t u : Token) → StandsIn text t → HasSpan text t → StandsIn text u → HasSpan text u → IsBefore t u → Ahead (spot t) (spot u)
two-tokens text t u st pt su pu order = ahead-from (spot t) (spot u) (tokens-rise text t u st pt su pu order)

-- each token stands before those behind it
abbrev Climbs : List (Tok Place) → Type 0
Climbs [] = Unit {0}
Climbs (t ∷ ts) = ((u : Tok Place) → Mem u ts → Ahead t.place u.place) × Climbs ts

listed : (text : List ℕ) (ts : List Token) (u : Tok Place) → Mem u (toks_of text ts) → (j : ℕ) × (j < length ts) × ((d : Token) → tok text (slice_index_or ts j d) ≡ u)
listed text [] u m = absurd m
listed text (t ∷ ts) u (inl e) = (zero, omega arith, λ d. e)
listed text (t ∷ ts) u (inr m) = let x = listed text ts u m in let below = x.1 in (suc x.0, omega arith, λ d. x.2 d)

climb : (text : List ℕ) (ts : List Token) → ((i j : ℕ) (d : Token) → i < j → j < length ts → Ahead (spot (slice_index_or ts i d)) (spot (slice_index_or ts j d))) → Climbs (toks_of text ts)
climb text [] pairs = tt
climb text (t ∷ ts) pairs = (
  λ u m.
      let x = listed text ts u m in let below = x.1 in
      subst (λ v. Ahead (spot t) v.place) (x.2 t) (pairs zero (suc x.0) t (omega arith) (omega arith)),
  climb text ts (λ i j d low high. pairs (suc i) (suc j) d (omega arith) (omega arith)),
)

pub tokens-climb : (text : List ℕ) (toks : List Token) → StandInOrder text toks → Climbs (toks_of text toks)
tokens-climb text toks order = climb text toks (λ i j d low below.
    two-tokens text (slice_index_or toks i d) (slice_index_or toks j d) (order.stand i d (omega arith)) (order.spans i d (omega arith)) (order.stand j d below) (order.spans j d below)
    (order.order i j d low below))

among-tokens : (ps : List Place) (ts : List (Tok Place)) (q : Place) → Sub ps ts → Mem q ps → (u : Tok Place) × Mem u ts × (u.place ≡ q)
among-tokens [] ts q s m = absurd m
among-tokens (p ∷ ps) [] q s m = absurd s
among-tokens (p ∷ ps) (t ∷ ts) q (inl s) (inl e) = (t, inl refl, s.0 ∙ e)
among-tokens (p ∷ ps) (t ∷ ts) q (inl s) (inr m) = let x = among-tokens ps ts q s.1 m in (x.0, inr x.1, x.2)
among-tokens (p ∷ ps) (t ∷ ts) q (inr s) m = let x = among-tokens (p ∷ ps) ts q s m in (x.0, inr x.1, x.2)

pub some-rise : (ps : List Place) (ts : List (Tok Place)) → Sub ps ts → Climbs ts → Rising ps
some-rise [] ts s c = tt
some-rise (p ∷ ps) [] s c = absurd s
some-rise (p ∷ ps) (t ∷ ts) (inl s) c = (
  λ q m.
      let x = among-tokens ps ts q s.1 m in
      subst (λ r. Ahead p r) x.2 (subst (λ r. Ahead r x.0.place) s.0 (c.0 x.0 x.1)),
  some-rise ps ts s.1 c.1,
)
some-rise (p ∷ ps) (t ∷ ts) (inr s) c = some-rise (p ∷ ps) ts s c.1
