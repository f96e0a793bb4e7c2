-- Where at most one name stands at each place, and no rule for names fails, each use has its declaration.
use Rattle.std.proofs.Common.{◌≡◌, ℕ, zero, suc, ◌+◌, ◌<◌, ◌≤◌, Bool, true, false, not, if◌then◌else◌, List, [], ◌∷◌, length, slice_index_or, Option, Some, None, inl, inr, refl, ap, sym, ◌∙◌, subst, arith, true≢false, eq-eqb, eqb}
use Rattle.std.specs.Prelude.{◌&&◌, Contains}
use Rattle.syntax_tree.specs.Plain.{Name}
use Rattle.syntax_tree.specs.Placed.{Prog}
use Rattle.syntax_tree.specs.declared.place.Place.{Place}
use Rattle.static_names.specs.declared.kind.Declared.{Declared}
use Rattle.static_names.specs.declared.kind.NameUse.{NameUse}
use Rattle.syntax_tree.specs.Parts.{same_place}
use Rattle.static_names.specs.Reach.{suits, or_else}
use Rattle.static_names.specs.Occurrences.{Occurrence, declares, closes, used, names, declared_at}
use Rattle.static_names.specs.Rules.{Among, place_of, undeclared, shadows, misused, Stands}
use Rattle.static_names.specs.Resolved.{IsRead, IsNamed}
use Rattle.static_semantics.specs.Places.{StandApart, IsFound, NamesFound}
use Rattle.wellformed_law.proofs.WellformedNamesCounts.{one, standing, count-standing}

-- ---- what stands at a place

pub same-itself : (p : Place) → same_place p p ≡ true
same-itself p = ap (λ b. b && eqb p.col p.col) (eq-eqb p.line p.line refl) ∙ eq-eqb p.col p.col refl

unused : (b : Bool) (x : Option Place) (d : Place) (n : ℕ) → one b + n ≡ 0 → x ≡ None → or_else x (if b then Some d else None) ≡ None
unused true x d n h e = absurd (omega arith)
unused false x d n h e = ap (λ y. or_else y None) e

-- where no name stands at the place, none is used there
none-declared : (os : List Occurrence) (p : Place) → standing p os ≡ 0 → declared_at os p ≡ None
none-declared [] p h = refl
none-declared (declares name q taken ∷ os) p h = none-declared os p (omega arith)
none-declared (closes name q opening ∷ os) p h = none-declared os p (omega arith)
none-declared (used name q want None ∷ os) p h = none-declared os p (omega arith)
none-declared (used name q want (Some d) ∷ os) p h = unused (same_place q p) (declared_at os p) d.place (standing p os) h (none-declared os p (omega arith))

sole : (b : Bool) (x : Option Place) (d : Place) (n : ℕ) → b ≡ true → (n ≡ 0 → x ≡ None) → one b + n ≤ 1 → or_else x (if b then Some d else None) ≡ Some d
sole true x d n is none h = ap (λ y. or_else y (Some d)) (none (omega arith))
sole false x d n is none h = absurd (true≢false (sym is))

-- where a use is the only name at its place, the place has the declaration of that use
declared-there : (os : List Occurrence) (name : Name) (p : Place) (want : NameUse) (d : Declared) → Among (λ x. x ≡ used name p want (Some d)) os → standing p os ≤ 1 → declared_at os p ≡ Some d.place
declared-there [] name p want d a h = elim a [ ]
declared-there (x ∷ os) name p want d (inl e) h =
    subst (λ y. standing p (y ∷ os) ≤ 1 → declared_at (y ∷ os) p ≡ Some d.place) (sym e)
    (λ few. sole (same_place p p) (declared_at os p) d.place (standing p os) (same-itself p) (none-declared os p) few) h
declared-there (declares other q taken ∷ os) name p want d (inr a) h = declared-there os name p want d a (omega arith)
declared-there (closes other q opening ∷ os) name p want d (inr a) h = declared-there os name p want d a (omega arith)
declared-there (used other q as_what None ∷ os) name p want d (inr a) h = declared-there os name p want d a (omega arith)
declared-there (used other q as_what (Some e) ∷ os) name p want d (inr a) h =
    ap (λ y. or_else y (if same_place q p then Some e.place else None)) (declared-there os name p want d a (omega arith))

-- ---- names that are among others

among : (P : Occurrence → Type 0) (os : List Occurrence) (o : Occurrence) (k : ℕ) → k < length os → slice_index_or os k o ≡ o → P o → Among P os
among P [] o k below at holds = absurd (omega arith)
among P (x ∷ os) o zero below at holds = inl (subst P (sym at) holds)
among P (x ∷ os) o (suc k) below at holds = inr (among P os o k (omega arith) at holds)

stands : (test : Occurrence → Bool) (g : Prog Place) (o : Occurrence) → Contains (names g) o → test o ≡ true → Stands test g (place_of o)
stands test g o at holds = among (λ x. (place_of x ≡ place_of o) × (test x ≡ true)) (names g) o at.0 at.1 at.2 (refl, holds)

-- ---- each use and its declaration

is-true : (b : Bool) → ¬ (not b ≡ true) → b ≡ true
is-true true h = refl
is-true false h = absurd (h refl)

is-false : (b : Bool) → ¬ (b ≡ true) → b ≡ false
is-false true h = absurd (h refl)
is-false false h = refl

found : (g : Prog Place) → StandApart g → IsNamed g → (name : Name) (place : Place) (want : NameUse) (means : Option Declared) → Contains (names g) (used name place want means) → IsFound g place want means
found g apart named name place want None at = absurd (named 20 place (inl (refl, stands undeclared g (used name place want None) at refl)))
found g apart named name place want (Some d) at = record {
  declared = d;
  meant = refl;
  suited = is-true (suits want d.kind) (λ h. named 22 place (inr (inr (inl (refl, stands misused g (used name place want (Some d)) at h)))));
  found = declared-there (names g) name place want d (among (λ x. x ≡ used name place want (Some d)) (names g) (used name place want (Some d)) at.0 at.1 at.2 refl)
      (subst (λ n. n ≤ 1) (count-standing place (names g)) (apart place));
}

free : (g : Prog Place) → IsNamed g → (name : Name) (place : Place) (taken : Bool) → Contains (names g) (declares name place taken) → taken ≡ false
free g named name place taken at = is-false taken (λ h. named 21 place (inr (inl (refl, stands shadows g (declares name place taken) at h))))

pub names-are-found : ((g : Prog Place) → IsRead g → StandApart g) → (g : Prog Place) → IsRead g → IsNamed g → NamesFound g
names-are-found apart g read named = record { uses = found g (apart g read) named; free = free g named }
