-- The tokens of two texts with the same words, one by one: a tree over the pairs of their places is
-- the tree of either.
use Rattle.std.proofs.Common.{◌≡◌, Bool, true, false, List, [], ◌∷◌, ◌⊎◌, inl, inr, refl, ap, sym, ◌∙◌, eqb, eqb-true}
use Rattle.std.proofs.lemmas.Bool.{and_parts, and_from, eq-eqb}
use Rattle.syntax_tree.specs.declared.place.Place.{Place}
use Rattle.syntax_tree.specs.Parts.{same_place}
use Rattle.syntax.specs.Words.{Tok, words_of}
use Rattle.printed_law.specs.Alike.{AreAlike}
use Rattle.printed_law.proofs.GrammarMoved.{moved_toks}
use Rattle.printed_law.proofs.TokenPlaces.{Away, StandApart}

-- a token of the one list stands at the one place, and that of the other with the same number at
-- the other
abbrev pub In : Place → Place → List (Tok Place) → List (Tok Place) → Type 0
In p q [] os = ⊥
In p q (t ∷ ts) [] = ⊥
In p q (t ∷ ts) (o ∷ os) = ((p ≡ t.place) × (q ≡ o.place)) ⊎ In p q ts os

pub record Pair (ts os : List (Tok Place)) : Type 0 where
  pub one : Place
  pub two : Place
  pub listed : In one two ts os

abbrev pub one_of : {ts os : List (Tok Place)} → Pair ts os → Place
one_of x = x.one

abbrev pub two_of : {ts os : List (Tok Place)} → Pair ts os → Place
two_of x = x.two

-- ---- two placings

pub same-true : (p q : Place) → same_place p q ≡ true → p ≡ q
same-true p q h =
    let both = and_parts (eqb p.line q.line) (eqb p.col q.col) h in
    let line : p.line ≡ q.line = eqb-true p.line q.line both.0 in
    let col : p.col ≡ q.col = eqb-true p.col q.col both.1 in
    λ i. record { line = line i; col = col i }

same-false : (p q : Place) → (p ≡ q → ⊥) → same_place p q ≡ false
same-false p q apart = by (same_place p q) refl
  where
    by : (c : Bool) → same_place p q ≡ c → same_place p q ≡ false
    by true e = absurd (apart (same-true p q e))
    by false e = e

pub itself : (p : Place) → same_place p p ≡ true
itself p = and_from _ _ (eq-eqb p.line p.line refl) (eq-eqb p.col p.col refl)

away-in : (p r s : Place) (ts os : List (Tok Place)) → Away p ts → In r s ts os → p ≡ r → ⊥
away-in p r s [] os away listed same = absurd listed
away-in p r s (t ∷ ts) [] away listed same = absurd listed
away-in p r s (t ∷ ts) (o ∷ os) away (inl first) same = away.0 (same ∙ first.0)
away-in p r s (t ∷ ts) (o ∷ os) away (inr listed) same = away-in p r s ts os away.1 listed same

away-in-other : (q r s : Place) (ts os : List (Tok Place)) → Away q os → In r s ts os → q ≡ s → ⊥
away-in-other q r s [] os away listed same = absurd listed
away-in-other q r s (t ∷ ts) [] away listed same = absurd listed
away-in-other q r s (t ∷ ts) (o ∷ os) away (inl first) same = away.0 (same ∙ first.1)
away-in-other q r s (t ∷ ts) (o ∷ os) away (inr listed) same = away-in-other q r s ts os away.1 listed same

in-alike : (ts os : List (Tok Place)) → StandApart ts → StandApart os → (p q r s : Place) → In p q ts os → In r s ts os → same_place p r ≡ same_place q s
in-alike [] os one two p q r s x y = absurd x
in-alike (t ∷ ts) [] one two p q r s x y = absurd x
in-alike (t ∷ ts) (o ∷ os) one two p q r s (inl x) (inl y) =
    let first : same_place p r ≡ true = ap (λ z. same_place z r) (x.0 ∙ sym y.0) ∙ itself r in
    let last : same_place q s ≡ true = ap (λ z. same_place z s) (x.1 ∙ sym y.1) ∙ itself s in
    first ∙ sym last
in-alike (t ∷ ts) (o ∷ os) one two p q r s (inl x) (inr y) =
    same-false p r (λ same. away-in t.place r s ts os one.0 y (sym x.0 ∙ same)) ∙ sym (same-false q s (λ same. away-in-other o.place r s ts os two.0 y (sym x.1 ∙ same)))
in-alike (t ∷ ts) (o ∷ os) one two p q r s (inr x) (inl y) =
    same-false p r (λ same. away-in t.place p q ts os one.0 x (sym (same ∙ y.0))) ∙ sym (same-false q s (λ same. away-in-other o.place p q ts os two.0 x (sym (same ∙ y.1))))
in-alike (t ∷ ts) (o ∷ os) one two p q r s (inr x) (inr y) = in-alike ts os one.1 two.1 p q r s x y

pub pairs-alike : (ts os : List (Tok Place)) → StandApart ts → StandApart os → AreAlike {X = Pair ts os} one_of two_of
pairs-alike ts os one two x y = in-alike ts os one two x.one x.two y.one y.two x.listed y.listed

-- ---- tokens at pairs of places

abbrev zipped : {Y : Type 0} (ts os : List (Tok Place)) → ((p q : Place) → In p q ts os → Y) → List (Tok Y)
zipped [] os k = []
zipped (t ∷ ts) [] k = []
zipped (t ∷ ts) (o ∷ os) k = record { word = t.word; place = k t.place o.place (inl (refl, refl)) } ∷ zipped ts os (λ p q listed. k p q (inr listed))

zipped-one : {Y : Type 0} (f : Y → Place) (ts os : List (Tok Place)) → words_of ts ≡ words_of os → (k : (p q : Place) → In p q ts os → Y) → ((p q : Place) (listed : In p q ts os) → f (k p q listed) ≡ p)
    → moved_toks f (zipped ts os k) ≡ ts
zipped-one f [] os same k is = refl
zipped-one f (t ∷ ts) [] same k is = cc
zipped-one f (t ∷ ts) (o ∷ os) same k is =
    let rest : words_of ts ≡ words_of os = cc in
    let more = zipped-one f ts os rest (λ p q listed. k p q (inr listed)) (λ p q listed. is p q (inr listed)) in
    λ i. record { word = t.word; place = is t.place o.place (inl (refl, refl)) i } ∷ more i

zipped-two : {Y : Type 0} (f : Y → Place) (ts os : List (Tok Place)) → words_of ts ≡ words_of os → (k : (p q : Place) → In p q ts os → Y) → ((p q : Place) (listed : In p q ts os) → f (k p q listed) ≡ q)
    → moved_toks f (zipped ts os k) ≡ os
zipped-two f [] [] same k is = refl
zipped-two f [] (o ∷ os) same k is = cc
zipped-two f (t ∷ ts) [] same k is = cc
zipped-two f (t ∷ ts) (o ∷ os) same k is =
    let rest : words_of ts ≡ words_of os = cc in
    let word : t.word ≡ o.word = cc in
    let more = zipped-two f ts os rest (λ p q listed. k p q (inr listed)) (λ p q listed. is p q (inr listed)) in
    λ i. record { word = word i; place = is t.place o.place (inl (refl, refl)) i } ∷ more i

pub both_toks : (ts os : List (Tok Place)) → List (Tok (Pair ts os))
both_toks ts os = zipped ts os (λ p q listed. record { one = p; two = q; listed = listed })

pub first-toks : (ts os : List (Tok Place)) → words_of ts ≡ words_of os → moved_toks one_of (both_toks ts os) ≡ ts
unfolding both_toks
first-toks ts os same = zipped-one one_of ts os same (λ p q listed. record { one = p; two = q; listed = listed }) (λ p q listed. refl)

pub second-toks : (ts os : List (Tok Place)) → words_of ts ≡ words_of os → moved_toks two_of (both_toks ts os) ≡ os
unfolding both_toks
second-toks ts os same = zipped-two two_of ts os same (λ p q listed. record { one = p; two = q; listed = listed }) (λ p q listed. refl)

zipped-words : {Y : Type 0} (ts os : List (Tok Place)) → words_of ts ≡ words_of os → (k : (p q : Place) → In p q ts os → Y) → words_of (zipped ts os k) ≡ words_of ts
zipped-words [] os same k = refl
zipped-words (t ∷ ts) [] same k = cc
zipped-words (t ∷ ts) (o ∷ os) same k =
    let rest : words_of ts ≡ words_of os = cc in
    let more = zipped-words ts os rest (λ p q listed. k p q (inr listed)) in
    λ i. t.word ∷ more i

pub both-words : (ts os : List (Tok Place)) → words_of ts ≡ words_of os → words_of (both_toks ts os) ≡ words_of ts
unfolding both_toks
both-words ts os same = zipped-words ts os same (λ p q listed. record { one = p; two = q; listed = listed })
