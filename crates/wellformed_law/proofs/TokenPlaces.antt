-- No two tokens of a text stand at one place, since their places rise.
use Rattle.std.proofs.Common.{◌≡◌, ℕ, zero, suc, ◌<◌, ◌≤◌, Bool, true, false, List, [], ◌∷◌, length, slice_index_or, inl, inr, refl, ap, sym, ◌∙◌, arith, eqb, eqb-true}
use Rattle.std.proofs.lemmas.Bool.{and_parts}
use Rattle.syntax_tree.specs.declared.place.Place.{Place}
use Rattle.syntax.specs.declared.token.Token.{Token}
use Rattle.syntax.specs.Tokens.{StandsIn}
use Rattle.syntax.specs.Lex.{HasSpan, IsBefore, StandInOrder}
use Rattle.syntax.proofs.Places.{Lower, tokens-rise}
use Rattle.syntax.specs.Words.{Word, named, number, keyword, sign, tok, toks_of}
use Rattle.syntax_tree.specs.Parts.{same_place}
use Rattle.wellformed_law.proofs.WellformedNamesCounts.{one}
use Rattle.wellformed_law.proofs.Parts.{weigh, named_at}

not-one-place : (l m b c : ℕ) → Lower l m b c → l ≡ m → b ≡ c → ⊥
not-one-place l m b c (inl h) e f = omega arith
not-one-place l m b c (inr h) e f = let x = h.1 in omega arith

-- two tokens, the one before the other, stand at two places
two-places : (text : List ℕ) (t u : Token) → StandsIn text t → HasSpan text t → StandsIn text u → HasSpan text u → IsBefore t u → t.line ≡ u.line → t.col ≡ u.col → ⊥
two-places text t u st pt su pu order = not-one-place t.line u.line t.col u.col (tokens-rise text t u st pt su pu order)

-- ---- names among tokens

-- the token stands at the place
abbrev At : Place → Token → Type 0
At z t = (t.line ≡ z.line) × (t.col ≡ z.col)

stands-at : (z : Place) (t : Token) → same_place (record { line = t.line; col = t.col }) z ≡ true → At z t
stands-at z t h = let b = and_parts (eqb t.line z.line) (eqb t.col z.col) h in (eqb-true t.line z.line b.0, eqb-true t.col z.col b.1)

weighs-one : (z : Place) (word : Word) (p : Place) → weigh z word p ≤ one (same_place p z)
weighs-one z (named n) p = omega arith
weighs-one z (number n) p = omega arith
weighs-one z (keyword n) p = omega arith
weighs-one z (sign n) p = omega arith

weighs-none : (z : Place) (text : List ℕ) (t : Token) → ¬ At z t → weigh z (tok text t).word (tok text t).place ≡ 0
weighs-none z text t away = by (same_place (tok text t).place z) refl
  where
    by : (b : Bool) → same_place (tok text t).place z ≡ b → weigh z (tok text t).word (tok text t).place ≡ 0
    by true e = absurd (away (stands-at z t e))
    by false e = let x = weighs-one z (tok text t).word (tok text t).place in let y = ap one e in omega arith

none-named : (z : Place) (text : List ℕ) (ts : List Token) (d : Token) → ((j : ℕ) → j < length ts → ¬ At z (slice_index_or ts j d)) → named_at z (toks_of text ts) ≡ 0
none-named z text [] d away = refl
none-named z text (t ∷ ts) d away =
    let x = weighs-none z text t (away zero (omega arith)) in
    let y = none-named z text ts d (λ j below. away (suc j) (omega arith)) in
    omega arith

few-named : (z : Place) (text : List ℕ) (ts : List Token)
    → ((i j : ℕ) (d : Token) → i < j → j < length ts → At z (slice_index_or ts i d) → ¬ At z (slice_index_or ts j d)) → named_at z (toks_of text ts) ≤ 1
few-named z text [] apart = omega arith
few-named z text (t ∷ ts) apart = by (few-named z text ts (λ i j d low below. apart (suc i) (suc j) d (omega arith) (omega arith))) (same_place (tok text t).place z) refl
  where
    by : named_at z (toks_of text ts) ≤ 1 → (b : Bool) → same_place (tok text t).place z ≡ b → named_at z (toks_of text (t ∷ ts)) ≤ 1
    by few true e =
        let x = none-named z text ts t (λ j below. apart zero (suc j) t (omega arith) (omega arith) (stands-at z t e)) in
        let v = weighs-one z (tok text t).word (tok text t).place in
        let y = ap one e in omega arith
    by few false e =
        let v = weighs-one z (tok text t).word (tok text t).place in
        let y = ap one e in omega arith

-- at each place stands at most one name among the tokens of a text
pub one-named : (z : Place) (text : List ℕ) (toks : List Token) → StandInOrder text toks → named_at z (toks_of text toks) ≤ 1
one-named z text toks order = few-named z text toks (λ i j d low below first second.
    two-places text (slice_index_or toks i d) (slice_index_or toks j d) (order.stand i d (omega arith)) (order.spans i d (omega arith)) (order.stand j d below) (order.spans j d below)
    (order.order i j d low below) (first.0 ∙ sym second.0) (first.1 ∙ sym second.1))
