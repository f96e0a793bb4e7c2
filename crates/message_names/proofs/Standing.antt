-- Names that stand at a place: as many of one list as of the other.
use Rattle.std.proofs.Common.{◌≡◌, ◌≤◌, ℕ, ◌+◌, Bool, true, false, cond, List, [], ◌∷◌, Option, Some, None, inl, inr, IsSome, option_map, refl, ap, sym, ◌∙◌, eqb, eqb-true, arith}
use Rattle.std.specs.Prelude.{count_by}
use Rattle.std.proofs.lemmas.Bool.{and_parts, and_from, eq-eqb}
use Rattle.std.proofs.lemmas.List.Sums.{sum_by-cons}
use Rattle.syntax_tree.specs.Placed.{Prog}
use Rattle.syntax_tree.specs.Parts.{same_place}
use Rattle.syntax_tree.specs.declared.place.Place.{Place}
use Rattle.static_names.specs.Occurrences.{Occurrence, names}
use Rattle.static_names.specs.Rules.{Among, place_of}
use Rattle.message_names.specs.Laws.{ListsEachName, TellsOfFailures, TellsOfNames}
use Rattle.message_names.specs.Mentions.{Mention, mentions}
use Rattle.message_names.specs.Reach.{mention_at}
use Rattle.message_names.specs.Told.{name_sentence, sentence_of}
use Rattle.message_names.proofs.Counts.{of_told, of_rules, of-program}

-- one where the two places are one, else none
abbrev pub one : Bool → ℕ
one b = cond b 1 0

abbrev pub weight : Place → Place → ℕ
weight q p = one (same_place p q)

pub same-true : (p q : Place) → same_place p q ≡ true → p ≡ q
same-true p q h =
    let both = and_parts (eqb p.line q.line) (eqb p.col q.col) h in
    let line : p.line ≡ q.line = eqb-true p.line q.line both.0 in
    let col : p.col ≡ q.col = eqb-true p.col q.col both.1 in
    λ i. record { line = line i; col = col i }

pub itself : (p : Place) → same_place p p ≡ true
itself p = and_from _ _ (eq-eqb p.line p.line refl) (eq-eqb p.col p.col refl)

pub here-one : (p q : Place) → p ≡ q → weight q p ≡ 1
here-one p q e = ap (λ r. one (same_place r q)) e ∙ ap one (itself q)

-- ---- counted

pub count-told : (q : Place) (ms : List Mention) → count_by (λ m. same_place m.place q) ms ≡ of_told (weight q) ms
count-told q [] = refl
count-told q (m ∷ ms) = sum_by-cons (λ x. cond (same_place x.place q) 1 0) m ms ∙ ap (λ n. one (same_place m.place q) + n) (count-told q ms)

pub count-rules : (q : Place) (os : List Occurrence) → count_by (λ o. same_place (place_of o) q) os ≡ of_rules (weight q) os
count-rules q [] = refl
count-rules q (o ∷ os) = sum_by-cons (λ x. cond (same_place (place_of x) q) 1 0) o os ∙ ap (λ n. one (same_place (place_of o) q) + n) (count-rules q os)

pub lists-each : ListsEachName
lists-each g q = count-told q (mentions g) ∙ sym (of-program (weight q) g) ∙ sym (count-rules q (names g))

-- ---- found

found : (q : Place) (ms : List Mention) → 1 ≤ of_told (weight q) ms → IsSome (mention_at q ms)
found q [] some = absurd (omega (arith, some))
found q (m ∷ ms) some = by (same_place m.place q) refl (found q ms)
  where
    by : (b : Bool) → same_place m.place q ≡ b → (1 ≤ of_told (weight q) ms → IsSome (mention_at q ms)) → IsSome (cond b (Some m) (mention_at q ms))
    by true e later = refl
    by false e later = later (let x = ap one e in omega (arith, some))

there : (q : Place) (ms : List Mention) → IsSome (mention_at q ms) → 1 ≤ of_told (weight q) ms
there q [] h = cc
there q (m ∷ ms) h = by (same_place m.place q) refl (there q ms) h
  where
    by : (b : Bool) → same_place m.place q ≡ b → (IsSome (mention_at q ms) → 1 ≤ of_told (weight q) ms) → IsSome (cond b (Some m) (mention_at q ms)) → 1 ≤ of_told (weight q) (m ∷ ms)
    by true e later some = let x = ap one e in omega arith
    by false e later some = let y = later some in omega arith

-- some name of the rules stands at the place
abbrev At : Place → Occurrence → Type 0
At q o = (place_of o ≡ q) × (true ≡ true)

among : (q : Place) (os : List Occurrence) → 1 ≤ of_rules (weight q) os → Among (At q) os
among q [] some = absurd (omega (arith, some))
among q (o ∷ os) some = by (same_place (place_of o) q) refl (among q os)
  where
    by : (b : Bool) → same_place (place_of o) q ≡ b → (1 ≤ of_rules (weight q) os → Among (At q) os) → Among (At q) (o ∷ os)
    by true e later = inl (same-true (place_of o) q e, refl)
    by false e later = inr (later (let x = ap one e in omega (arith, some)))

pub counted : (q : Place) (T : Occurrence → Type 0) (os : List Occurrence) → Among (λ o. (place_of o ≡ q) × T o) os → 1 ≤ of_rules (weight q) os
counted q T [] a = elim a [ ]
counted q T (o ∷ os) (inl a) = let x = here-one (place_of o) q a.0 in omega arith
counted q T (o ∷ os) (inr a) = let x = counted q T os a in omega arith

-- ---- told

told : (g : Prog Place) (number : ℕ) (place : Place) → IsSome (mention_at place (mentions g)) → IsSome (name_sentence g number place)
unfolding name_sentence
told g number place h = by (mention_at place (mentions g)) h
  where
    by : (m : Option Mention) → IsSome m → IsSome (option_map (sentence_of number (mentions g)) m)
    by None some = some
    by (Some m) some = refl

stood : (g : Prog Place) (number : ℕ) (place : Place) → IsSome (name_sentence g number place) → IsSome (mention_at place (mentions g))
unfolding name_sentence
stood g number place h = by (mention_at place (mentions g)) h
  where
    by : (m : Option Mention) → IsSome (option_map (sentence_of number (mentions g)) m) → IsSome m
    by None some = some
    by (Some m) some = refl

pub tells-of : (g : Prog Place) (number : ℕ) (place : Place) (T : Occurrence → Type 0) → Among (λ o. (place_of o ≡ place) × T o) (names g) → IsSome (name_sentence g number place)
tells-of g number place T a =
    let x = counted place T (names g) a in
    let y = of-program (weight place) g in told g number place (found place (mentions g) (omega (arith, x, y)))

pub tells-of-names : TellsOfNames
tells-of-names g number place = (
  λ h.
      let x = there place (mentions g) (stood g number place h) in
      let y = of-program (weight place) g in among place (names g) (omega (arith, x, y)),
  tells-of g number place (λ o. true ≡ true),
)

pub tells-of-failures : TellsOfFailures
tells-of-failures g number place (inl f) = tells-of g number place _ f.1
tells-of-failures g number place (inr (inl f)) = tells-of g number place _ f.1
tells-of-failures g number place (inr (inr (inl f))) = tells-of g number place _ f.1
tells-of-failures g number place (inr (inr (inr f))) = tells-of g number place _ f.1
