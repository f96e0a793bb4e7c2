-- No two tokens of a text stand at one place: where one stands further on in the text, its line is
-- further on, or its line is the same and its column further on.
use Rattle.std.proofs.Common.{◌≡◌, ℕ, zero, suc, ◌+◌, ◌-◌, ◌<◌, ◌≤◌, Bool, true, false, not, List, [], ◌∷◌, length, take, get_or, slice_index_or, ◌⊎◌, inl, inr, refl, ap, sym, ◌∙◌, subst, arith}
use Rattle.std.specs.Prelude.{count_by}
use Rattle.std.specs.List.{suffix_len}
use Rattle.std.proofs.lemmas.List.Sums.{count_by_more_yes, count_by_more_no, suffix_len-take_yes}
use Rattle.syntax_tree.specs.declared.place.Place.{Place}
use Rattle.syntax.specs.declared.token.Token.{Token}
use Rattle.syntax.specs.Tokens.{is_line_feed, is_in_line, StandsIn}
use Rattle.syntax.specs.Lex.{HasSpan, IsBefore, StandInOrder}
use Rattle.syntax.specs.Words.{Tok, tok, toks_of}

-- ---- places along a text

-- how many lines end before a byte, and how many bytes of its line stand before it
abbrev ended : List ℕ → ℕ → ℕ
ended text n = count_by is_line_feed (take n text)

abbrev before : List ℕ → ℕ → ℕ
before text n = suffix_len is_in_line (take n text)

before-more : (text : List ℕ) (n : ℕ) → n < length text → is_line_feed (get_or text n 0) ≡ false → before text (n + 1) ≡ 1 + before text n
before-more text n below h =
    let e : (n + 1) - 1 ≡ n = omega arith in
    subst (λ k. is_in_line (get_or text k 0) ≡ true → before text (n + 1) ≡ 1 + before text k) e
    (suffix_len-take_yes is_in_line text (n + 1) 0 (omega arith) (omega arith)) (ap not h)

-- one place is further on than another
abbrev Ahead : List ℕ → ℕ → ℕ → Type 0
Ahead text m n = (ended text m < ended text n) ⊎ ((ended text m ≡ ended text n) × (before text m < before text n))

step : (text : List ℕ) (n : ℕ) → n < length text → (ended text (n + 1) ≡ ended text n + 1) ⊎ ((ended text (n + 1) ≡ ended text n) × (before text (n + 1) ≡ 1 + before text n))
step text n below = by (is_line_feed (get_or text n 0)) refl
  where
    by : (b : Bool) → is_line_feed (get_or text n 0) ≡ b → (ended text (n + 1) ≡ ended text n + 1) ⊎ ((ended text (n + 1) ≡ ended text n) × (before text (n + 1) ≡ 1 + before text n))
    by true e = inl (count_by_more_yes is_line_feed text n 0 below e)
    by false e = inr (count_by_more_no is_line_feed text n 0 below e, before-more text n below e)

-- one step from l to m, or from c to d
one-on : (l m c d : ℕ) → (m ≡ l + 1) ⊎ ((m ≡ l) × (d ≡ 1 + c)) → (l < m) ⊎ ((l ≡ m) × (c < d))
one-on l m c d (inl h) = inl (omega arith)
one-on l m c d (inr h) = let x = h.0 in let y = h.1 in inr (omega arith, omega arith)

and-on : (k l m b c d : ℕ) → (k < l) ⊎ ((k ≡ l) × (b < c)) → (m ≡ l + 1) ⊎ ((m ≡ l) × (d ≡ 1 + c)) → (k < m) ⊎ ((k ≡ m) × (b < d))
and-on k l m b c d (inl g) (inl h) = inl (omega arith)
and-on k l m b c d (inl g) (inr h) = let x = h.0 in inl (omega arith)
and-on k l m b c d (inr g) (inl h) = let x = g.0 in inl (omega arith)
and-on k l m b c d (inr g) (inr h) = let v = g.0 in let w = g.1 in let x = h.0 in let y = h.1 in inr (omega arith, omega arith)

ahead : (text : List ℕ) (k m n : ℕ) → n ≡ m + suc k → n ≤ length text → Ahead text m n
ahead text zero m n is below =
    let e : m + 1 ≡ n = omega arith in
    subst (Ahead text m) e (one-on (ended text m) (ended text (m + 1)) (before text m) (before text (m + 1)) (step text m (omega arith)))
ahead text (suc k) m n is below =
    let e : (m + suc k) + 1 ≡ n = omega arith in
    subst (Ahead text m) e
    (and-on (ended text m) (ended text (m + suc k)) (ended text ((m + suc k) + 1)) (before text m) (before text (m + suc k)) (before text ((m + suc k) + 1))
    (ahead text k m (m + suc k) refl (omega arith)) (step text (m + suc k) (omega arith)))

not-one-place : (l m b c : ℕ) → (l < m) ⊎ ((l ≡ m) × (b < c)) → 1 + l ≡ 1 + m → 1 + b ≡ 1 + c → ⊥
not-one-place l m b c (inl h) e f = omega arith
not-one-place l m b c (inr h) e f = let x = h.1 in omega arith

-- two tokens, the one before the other, stand at two places
two-places : (text : List ℕ) (t u : Token) → StandsIn text t → HasSpan text t → StandsIn text u → HasSpan text u → IsBefore t u → t.line ≡ u.line → t.col ≡ u.col → ⊥
two-places text t u st pt su pu order lines cols =
    not-one-place (ended text t.start) (ended text u.start) (before text t.start) (before text u.start)
    (ahead text (u.start - t.start - 1) t.start u.start (omega (arith, pt.some, order)) (omega (arith, pu.within)))
    (sym st.line ∙ lines ∙ su.line) (sym st.col ∙ cols ∙ su.col)

-- ---- lists of tokens

-- none of the tokens stands at the place
abbrev pub Away : Place → List (Tok Place) → Type 0
Away p [] = Unit {0}
Away p (t ∷ ts) = (p ≡ t.place → ⊥) × Away p ts

-- no two of the tokens stand at one place
abbrev pub StandApart : List (Tok Place) → Type 0
StandApart [] = Unit {0}
StandApart (t ∷ ts) = Away t.place ts × StandApart ts

away : (text : List ℕ) (t : Token) (ts : List Token) (d : Token) → ((j : ℕ) → j < length ts → t.line ≡ (slice_index_or ts j d).line → t.col ≡ (slice_index_or ts j d).col → ⊥)
    → Away (tok text t).place (toks_of text ts)
away text t [] d none = tt
away text t (u ∷ ts) d none =
    (λ same. none zero (omega arith) (ap (λ p. p.line) same) (ap (λ p. p.col) same), away text t ts d (λ j below. none (suc j) (omega arith)))

apart : (text : List ℕ) (ts : List Token)
    → ((i j : ℕ) (d : Token) → i < j → j < length ts → (slice_index_or ts i d).line ≡ (slice_index_or ts j d).line → (slice_index_or ts i d).col ≡ (slice_index_or ts j d).col → ⊥)
    → StandApart (toks_of text ts)
apart text [] none = tt
apart text (t ∷ ts) none =
    (away text t ts t (λ j below. none zero (suc j) t (omega arith) (omega arith)), apart text ts (λ i j d low below. none (suc i) (suc j) d (omega arith) (omega arith)))

-- the tokens of a text stand apart
pub tokens-apart : (text : List ℕ) (toks : List Token) → StandInOrder text toks → StandApart (toks_of text toks)
tokens-apart text toks order = apart text toks (λ i j d low below.
    two-places text (slice_index_or toks i d) (slice_index_or toks j d) (order.stand i d (omega arith)) (order.spans i d (omega arith)) (order.stand j d below) (order.spans j d below)
    (order.order i j d low below))
