-- The rules that fail are those that the names break.
use Rattle.std.proofs.Common.{◌≡◌, ℕ, List, [], ◌∷◌, Option, Some, None, Bool, true, false, not, if◌then◌else◌, ◌⊎◌, inl, inr, refl, ap, sym, ◌∙◌, true≢false}
use Rattle.syntax_tree.specs.Placed.{Prog}
use Rattle.syntax_tree.specs.declared.place.Place.{Place}
use Rattle.static_rule.specs.declared.violation.Violation.{Violation}
use Rattle.static_names.specs.Reach.{same, suits, or_else}
use Rattle.static_names.specs.Occurrences.{Occurrence, declares, closes, used, names, declared_at}
use Rattle.static_names.specs.Rules.{Among, place_of, undeclared, shadows, misused, misclosed, Fails, IsUse, NamesAt, UsedAt}
use Rattle.std.specs.Map.{lookup}
use Rattle.std.proofs.lemmas.Bool.{not-true}
use Rattle.static_names.specs.Findings.{Found, noted, same_key, key_of}
use Rattle.static_names.specs.Seen.{nothing}
use Rattle.static_names.specs.Resolved.{IsRead, IsNamed, IsResolved}
use Rattle.static_rule.specs.First.{IsFirst}
use Rattle.static_rule.proofs.Soonest.{not-before}
use Rattle.static_names.proofs.Notes.{fault_of, Breaks, Clean, Least, first_of_all, ties_of_all, tied-declared}

among-map : {P Q : Occurrence → Type 0} → ((o : Occurrence) → P o → Q o) → (os : List Occurrence) → Among P os → Among Q os
among-map f [] a = elim a [ ]
among-map f (o ∷ os) (inl a) = inl (f o a)
among-map f (o ∷ os) (inr a) = inr (among-map f os a)

undeclared-fault : (o : Occurrence) → undeclared o ≡ true → fault_of o ≡ Some 20
undeclared-fault (declares name place taken) h = absurd (true≢false (sym h))
undeclared-fault (closes name place opening) h = absurd (true≢false (sym h))
undeclared-fault (used name place want None) h = refl
undeclared-fault (used name place want (Some d)) h = absurd (true≢false (sym h))

shadows-fault : (o : Occurrence) → shadows o ≡ true → fault_of o ≡ Some 21
shadows-fault (declares name place taken) h = ap (λ b. if b then Some 21 else None) h
shadows-fault (closes name place opening) h = absurd (true≢false (sym h))
shadows-fault (used name place want means) h = absurd (true≢false (sym h))

misused-fault : (o : Occurrence) → misused o ≡ true → fault_of o ≡ Some 22
misused-fault (declares name place taken) h = absurd (true≢false (sym h))
misused-fault (closes name place opening) h = absurd (true≢false (sym h))
misused-fault (used name place want None) h = absurd (true≢false (sym h))
misused-fault (used name place want (Some d)) h = ap (λ b. if b then None else Some 22) (not-true (suits want d.kind) h)

misclosed-fault : (o : Occurrence) → misclosed o ≡ true → fault_of o ≡ Some 23
misclosed-fault (declares name place taken) h = absurd (true≢false (sym h))
misclosed-fault (closes name place opening) h = ap (λ b. if b then None else Some 23) (not-true (same name opening) h)
misclosed-fault (used name place want means) h = absurd (true≢false (sym h))

pub fails-breaks : (g : Prog Place) (m : ℕ) (p : Place) → Fails g m p → Among (Breaks m p) (names g)
fails-breaks g m p (inl h) = among-map (λ o a. (undeclared-fault o a.1 ∙ ap (λ n. Some n) (sym h.0), a.0)) (names g) h.1
fails-breaks g m p (inr (inl h)) = among-map (λ o a. (shadows-fault o a.1 ∙ ap (λ n. Some n) (sym h.0), a.0)) (names g) h.1
fails-breaks g m p (inr (inr (inl h))) = among-map (λ o a. (misused-fault o a.1 ∙ ap (λ n. Some n) (sym h.0), a.0)) (names g) h.1
fails-breaks g m p (inr (inr (inr h))) = among-map (λ o a. (misclosed-fault o a.1 ∙ ap (λ n. Some n) (sym h.0), a.0)) (names g) h.1

-- which rule a broken one is
abbrev pub Which : ℕ → Occurrence → Type 0
Which m o = ((m ≡ 20) × (undeclared o ≡ true)) ⊎ (((m ≡ 21) × (shadows o ≡ true)) ⊎ (((m ≡ 22) × (misused o ≡ true)) ⊎ ((m ≡ 23) × (misclosed o ≡ true))))

some-is : (m n : ℕ) → Some n ≡ Some m → m ≡ n
some-is m n e = cc

none-is : (m : ℕ) → None ≡ Some m → ⊥
none-is m e = cc

which : (o : Occurrence) (m : ℕ) → fault_of o ≡ Some m → Which m o
which (declares name place true) m h = inr (inl (some-is m 21 h, refl))
which (declares name place false) m h = absurd (none-is m h)
which (closes name place opening) m h = by (same name opening) refl
  where
    by : (b : Bool) → same name opening ≡ b → Which m (closes name place opening)
    by true e = absurd (none-is m (ap (λ b. if b then None else Some 23) (sym e) ∙ h))
    by false e = inr (inr (inr (some-is m 23 (ap (λ b. if b then None else Some 23) (sym e) ∙ h), ap not e)))
which (used name place want None) m h = inl (some-is m 20 h, refl)
which (used name place want (Some d)) m h = by (suits want d.kind) refl
  where
    by : (b : Bool) → suits want d.kind ≡ b → Which m (used name place want (Some d))
    by true e = absurd (none-is m (ap (λ b. if b then None else Some 22) (sym e) ∙ h))
    by false e = inr (inr (inl (some-is m 22 (ap (λ b. if b then None else Some 22) (sym e) ∙ h), ap not e)))

breaks-standing : (os : List Occurrence) (m : ℕ) (p : Place) → Among (Breaks m p) os
    → ((m ≡ 20) × Among (λ o. (place_of o ≡ p) × (undeclared o ≡ true)) os) ⊎ (((m ≡ 21) × Among (λ o. (place_of o ≡ p) × (shadows o ≡ true)) os) ⊎ (((m ≡ 22) × Among (λ o. (place_of o ≡ p) × (misused o ≡ true)) os) ⊎ ((m ≡ 23) × Among (λ o. (place_of o ≡ p) × (misclosed o ≡ true)) os)))
breaks-standing [] m p a = elim a [ ]
breaks-standing (o ∷ os) m p (inl a) = by (which o m a.0)
  where
    by : Which m o → ((m ≡ 20) × Among (λ x. (place_of x ≡ p) × (undeclared x ≡ true)) (o ∷ os)) ⊎ (((m ≡ 21) × Among (λ x. (place_of x ≡ p) × (shadows x ≡ true)) (o ∷ os)) ⊎ (((m ≡ 22) × Among (λ x. (place_of x ≡ p) × (misused x ≡ true)) (o ∷ os)) ⊎ ((m ≡ 23) × Among (λ x. (place_of x ≡ p) × (misclosed x ≡ true)) (o ∷ os))))
    by (inl w) = inl (w.0, inl (a.1, w.1))
    by (inr (inl w)) = inr (inl (w.0, inl (a.1, w.1)))
    by (inr (inr (inl w))) = inr (inr (inl (w.0, inl (a.1, w.1))))
    by (inr (inr (inr w))) = inr (inr (inr (w.0, inl (a.1, w.1))))
breaks-standing (o ∷ os) m p (inr rest) = by (breaks-standing os m p rest)
  where
    by : ((m ≡ 20) × Among (λ x. (place_of x ≡ p) × (undeclared x ≡ true)) os) ⊎ (((m ≡ 21) × Among (λ x. (place_of x ≡ p) × (shadows x ≡ true)) os) ⊎ (((m ≡ 22) × Among (λ x. (place_of x ≡ p) × (misused x ≡ true)) os) ⊎ ((m ≡ 23) × Among (λ x. (place_of x ≡ p) × (misclosed x ≡ true)) os)))
        → ((m ≡ 20) × Among (λ x. (place_of x ≡ p) × (undeclared x ≡ true)) (o ∷ os)) ⊎ (((m ≡ 21) × Among (λ x. (place_of x ≡ p) × (shadows x ≡ true)) (o ∷ os)) ⊎ (((m ≡ 22) × Among (λ x. (place_of x ≡ p) × (misused x ≡ true)) (o ∷ os)) ⊎ ((m ≡ 23) × Among (λ x. (place_of x ≡ p) × (misclosed x ≡ true)) (o ∷ os))))
    by (inl w) = inl (w.0, inr w.1)
    by (inr (inl w)) = inr (inl (w.0, inr w.1))
    by (inr (inr (inl w))) = inr (inr (inl (w.0, inr w.1)))
    by (inr (inr (inr w))) = inr (inr (inr (w.0, inr w.1)))

pub first-fault : (g : Prog Place) (f : Found) (b : Violation) → f ≡ noted nothing (names g) → f.first ≡ Some b → IsFirst (Fails g) b
first-fault g f b is e = record {
  broken = by least.from;
  none_before = λ m p h. not-before m p b (least.least m p (fails-breaks g m p h));
}
  where
    least : Least None (names g) b
    least = first_of_all (names g) nothing (Some b) (sym (ap (λ x. x.first) is) ∙ e)

    by : (None ≡ Some b) ⊎ Among (Breaks b.number b.place) (names g) → Fails g b.number b.place
    by (inl h) = absurd (none-some h)
      where
        none-some : None ≡ Some b → ⊥
        none-some h = cc
    by (inr a) = breaks-standing (names g) b.number b.place a

-- where no name breaks a rule, each use is right
fine-uses : (place : Place) (os : List Occurrence) → ((m : ℕ) (p : Place) → Among (Breaks m p) os → ⊥) → Among (λ o. (place_of o ≡ place) × IsUse o) os → Among (λ o. (place_of o ≡ place) × IsUse o × (fault_of o ≡ None)) os
fine-uses place [] none a = elim a [ ]
fine-uses place (o ∷ os) none (inr a) = inr (fine-uses place os (λ m p x. none m p (inr x)) a)
fine-uses place (o ∷ os) none (inl a) = by (fault_of o) refl
  where
    by : (w : Option ℕ) → fault_of o ≡ w → Among (λ x. (place_of x ≡ place) × IsUse x × (fault_of x ≡ None)) (o ∷ os)
    by None e = inl (a.0, a.1, e)
    by (Some m) e = absurd (none m (place_of o) (inl (e, refl)))

else-none : (x : Option Place) → or_else x None ≡ x
else-none (Some p) = refl
else-none None = refl

pub resolved : (g : Prog Place) (f : Found) → IsRead g → f ≡ noted nothing (names g) → f.first ≡ None → IsResolved g f.ties
resolved g f read is e = record { read = read; named = named; tied = tied; unused = unused; declared = declared }
  where
    clean : Clean None (names g)
    clean = first_of_all (names g) nothing None (sym (ap (λ x. x.first) is) ∙ e)

    named : IsNamed g
    named m p h = clean.clean m p (fails-breaks g m p h)

    ties-are : f.ties ≡ (noted nothing (names g)).ties
    ties-are = ap (λ x. x.ties) is

    tied : (place declared : Place) → lookup (same_key (key_of place)) f.ties ≡ Some declared → NamesAt g place declared
    tied place declared h = by ((ties_of_all (names g) nothing place).some declared (ap (lookup (same_key (key_of place))) (sym ties-are) ∙ h))
      where
        none-some : None ≡ Some declared → ⊥
        none-some h = cc

        by : NamesAt g place declared ⊎ (None ≡ Some declared) → NamesAt g place declared
        by (inl a) = a
        by (inr a) = absurd (none-some a)

    unused : (place : Place) → lookup (same_key (key_of place)) f.ties ≡ None → ¬ UsedAt g place
    unused place h u = ((ties_of_all (names g) nothing place).none (ap (lookup (same_key (key_of place))) (sym ties-are) ∙ h)).1 (fine-uses place (names g) clean.clean u)

    declared : (place : Place) → lookup (same_key (key_of place)) f.ties ≡ declared_at (names g) place
    declared place = ap (lookup (same_key (key_of place))) ties-are ∙ tied-declared (names g) nothing place clean.clean ∙ else-none (declared_at (names g) place)
