-- Trying the rules on one part after the other finds the first failure.
use Rattle.std.proofs.Common.{◌≡◌, ◌<◌, ◌≤◌, ℕ, List, [], ◌∷◌, Option, Some, None, Bool, true, false, if◌then◌else◌, ◌⊎◌, inl, inr, refl, ap, sym, ◌∙◌, subst, arith}
use Rattle.std.proofs.lemmas.Bool.Decides.{nat_tests}
use Rattle.std.proofs.lemmas.Option.{same_Some, none-some}
use Rattle.syntax_tree.specs.declared.place.Place.{Place}
use Rattle.static_rule.specs.declared.violation.Violation.{Violation}
use Rattle.static_rule.specs.First.{Before, IsFirst, IsFirstOf, Either, comes_before, sooner}
use Rattle.static_rule.specs.Parts.{Rule, FailsOf, FailsAmong, blame, note, noted}

-- the first comes after the second, or is the same
abbrev pub NotBefore : Violation → Violation → Type 0
NotBefore x y = (y.place.line < x.place.line) ⊎ ((y.place.line ≡ x.place.line) × ((y.place.col < x.place.col) ⊎ ((y.place.col ≡ x.place.col) × (y.number ≤ x.number))))

pub not_before-refl : (x : Violation) → NotBefore x x
not_before-refl x = inr (refl, inr (refl, omega arith))

pub not_before-trans : (x y z : Violation) → NotBefore x y → NotBefore y z → NotBefore x z
not_before-trans x y z (inl a) (inl b) = inl (omega arith)
not_before-trans x y z (inl a) (inr b) = inl (let e = b.0 in omega arith)
not_before-trans x y z (inr a) (inl b) = inl (let e = a.0 in omega arith)
not_before-trans x y z (inr a) (inr b) = inr (b.0 ∙ a.0, columns a.1 b.1)
  where
    columns : (y.place.col < x.place.col) ⊎ ((y.place.col ≡ x.place.col) × (y.number ≤ x.number)) → (z.place.col < y.place.col) ⊎ ((z.place.col ≡ y.place.col) × (z.number ≤ y.number)) → (z.place.col < x.place.col) ⊎ ((z.place.col ≡ x.place.col) × (z.number ≤ x.number))
    columns (inl c) (inl d) = inl (omega arith)
    columns (inl c) (inr d) = inl (let e = d.0 in omega arith)
    columns (inr c) (inl d) = inl (let e = c.0 in omega arith)
    columns (inr c) (inr d) = inr (d.0 ∙ c.0, omega arith)

pub before-false : (x y : Violation) → comes_before x y ≡ false → NotBefore x y
before-false x y h = grind (arith, nat_tests)

pub before-true : (x y : Violation) → comes_before x y ≡ true → NotBefore y x
before-true x y h = grind (arith, nat_tests)

-- what does not come before is not before
pub not-before : (m : ℕ) (p : Place) (b : Violation) → NotBefore (record { number = m; place = p }) b → ¬ Before m p b.number b.place
not-before m p b (inl a) (inl d) = omega arith
not-before m p b (inl a) (inr (inl d)) = let e = d.0 in omega arith
not-before m p b (inl a) (inr (inr d)) = let e : p.line ≡ b.place.line = ap (λ q. q.line) d.0 in omega arith
not-before m p b (inr a) (inl d) = let e = a.0 in omega arith
not-before m p b (inr (e, inl a)) (inr (inl d)) = let f = d.1 in omega arith
not-before m p b (inr (e, inl a)) (inr (inr d)) = let f : p.col ≡ b.place.col = ap (λ q. q.col) d.0 in omega arith
not-before m p b (inr (e, inr a)) (inr (inl d)) = let f = d.1 in let h = a.0 in omega arith
not-before m p b (inr (e, inr a)) (inr (inr d)) = let f = d.1 in let h = a.1 in omega arith

-- and the other way about
after : (m : ℕ) (p : Place) (b : Violation) → ¬ Before m p b.number b.place → NotBefore (record { number = m; place = p }) b
after m p b h = by (comes_before (record { number = m; place = p }) b) refl
  where
    by : (t : Bool) → comes_before (record { number = m; place = p }) b ≡ t → NotBefore (record { number = m; place = p }) b
    by false e = before-false (record { number = m; place = p }) b e
    by true e = absurd (h (strictly e))
      where
        strictly : comes_before (record { number = m; place = p }) b ≡ true → Before m p b.number b.place
        strictly e = lines (grind (arith, nat_tests))
          where
            lines : (p.line < b.place.line) ⊎ ((p.line ≡ b.place.line) × ((p.col < b.place.col) ⊎ ((p.col ≡ b.place.col) × (m < b.number)))) → Before m p b.number b.place
            lines (inl l) = inl l
            lines (inr (l, inl c)) = inr (inl (l, c))
            lines (inr (l, inr c)) = inr (inr ((λ i. record { line = l i; col = c.0 i }), c.1))

-- it fails, and nothing that fails comes before it
record Least (fails : ℕ → Place → Type 0) (b : Violation) : Type 0 where
  from : fails b.number b.place
  least : (m : ℕ) (p : Place) → fails m p → NotBefore (record { number = m; place = p }) b

least-is : (fails : ℕ → Place → Type 0) (b : Violation) → Least fails b → IsFirst fails b
least-is fails b l = record { broken = l.from; none_before = λ m p h. not-before m p b (l.least m p h) }

is-least : (fails : ℕ → Place → Type 0) (b : Violation) → IsFirst fails b → Least fails b
is-least fails b f = record { from = f.broken; least = λ m p h. after m p b (f.none_before m p h) }

-- the first of the failures of two rules
pub both : (f g : ℕ → Place → Type 0) (x y : Option Violation) → IsFirstOf f x → IsFirstOf g y → IsFirstOf (Either f g) (sooner x y)
both f g None None h k = none
  where
    none : (m : ℕ) (p : Place) → ¬ Either f g m p
    none m p (inl a) = h m p a
    none m p (inr a) = k m p a
both f g None (Some c) h k = record { broken = inr k.broken; none_before = before }
  where
    before : (m : ℕ) (p : Place) → Either f g m p → ¬ Before m p c.number c.place
    before m p (inl a) = absurd (h m p a)
    before m p (inr a) = k.none_before m p a
both f g (Some b) None h k = record { broken = inl h.broken; none_before = before }
  where
    before : (m : ℕ) (p : Place) → Either f g m p → ¬ Before m p b.number b.place
    before m p (inl a) = h.none_before m p a
    before m p (inr a) = absurd (k m p a)
both f g (Some b) (Some c) h k = by (comes_before b c) refl
  where
    l : Least f b
    l = is-least f b h

    r : Least g c
    r = is-least g c k

    by : (t : Bool) → comes_before b c ≡ t → IsFirstOf (Either f g) (if t then Some b else Some c)
    by true e = least-is (Either f g) b (record { from = inl l.from; least = least })
      where
        least : (m : ℕ) (p : Place) → Either f g m p → NotBefore (record { number = m; place = p }) b
        least m p (inl a) = l.least m p a
        least m p (inr a) = not_before-trans (record { number = m; place = p }) c b (r.least m p a) (before-true b c e)
    by false e = least-is (Either f g) c (record { from = inr r.from; least = least })
      where
        least : (m : ℕ) (p : Place) → Either f g m p → NotBefore (record { number = m; place = p }) c
        least m p (inl a) = not_before-trans (record { number = m; place = p }) b c (l.least m p a) (before-false b c e)
        least m p (inr a) = r.least m p a

-- failures that are the same have the same first
pub same : (f g : ℕ → Place → Type 0) (x : Option Violation) → ((m : ℕ) (p : Place) → f m p → g m p) → ((m : ℕ) (p : Place) → g m p → f m p) → IsFirstOf f x → IsFirstOf g x
same f g None to back h = λ m p a. h m p (back m p a)
same f g (Some b) to back h = record { broken = to b.number b.place h.broken; none_before = λ m p a. h.none_before m p (back m p a) }

blamed : {X : Type 0} (f : ℕ → Place → Type 0) (r : Rule X) (x : X) (first : Option Violation) → IsFirstOf f first → IsFirstOf (Either (λ n p. (r.number ≡ n) × (r.fails x ≡ Some p)) f) (blame first r.number (r.fails x))
blamed f r x first h = by (r.fails x) refl
  where
    by : (w : Option Place) → r.fails x ≡ w → IsFirstOf (Either (λ n p. (r.number ≡ n) × (r.fails x ≡ Some p)) f) (blame first r.number w)
    by None e = same f (Either (λ n p. (r.number ≡ n) × (r.fails x ≡ Some p)) f) first (λ m p a. inr a) back h
      where
        back : (m : ℕ) (p : Place) → Either (λ n p. (r.number ≡ n) × (r.fails x ≡ Some p)) f m p → f m p
        back m p (inl a) = absurd (none-some p (sym e ∙ a.1))
        back m p (inr a) = a
    by (Some q) e = both (λ n p. (r.number ≡ n) × (r.fails x ≡ Some p)) f (Some (record { number = r.number; place = q })) first only h
      where
        only : IsFirst (λ n p. (r.number ≡ n) × (r.fails x ≡ Some p)) (record { number = r.number; place = q })
        only = least-is (λ n p. (r.number ≡ n) × (r.fails x ≡ Some p)) (record { number = r.number; place = q }) (record { from = (refl, e); least = least })
          where
            least : (m : ℕ) (p : Place) → (r.number ≡ m) × (r.fails x ≡ Some p) → NotBefore (record { number = m; place = p }) (record { number = r.number; place = q })
            least m p a = subst (λ b. NotBefore b (record { number = r.number; place = q })) (λ i. record { number = a.0 i; place = same_Some q p (sym e ∙ a.1) i }) (not_before-refl (record { number = r.number; place = q }))

-- all rules tried on one part
rules : {X : Type 0} (f : ℕ → Place → Type 0) (rs : List (Rule X)) (x : X) (first : Option Violation) → IsFirstOf f first → IsFirstOf (Either (FailsOf rs x) f) (note rs first x)
rules f [] x first h = same f (Either (FailsOf [] x) f) first (λ m p a. inr a) back h
  where
    back : (m : ℕ) (p : Place) → Either (FailsOf [] x) f m p → f m p
    back m p (inl a) = absurd a
    back m p (inr a) = a
rules f (r ∷ rs) x first h =
    same (Either (FailsOf rs x) (Either (λ n p. (r.number ≡ n) × (r.fails x ≡ Some p)) f)) (Either (FailsOf (r ∷ rs) x) f) (note rs (blame first r.number (r.fails x)) x) to back
    (rules (Either (λ n p. (r.number ≡ n) × (r.fails x ≡ Some p)) f) rs x (blame first r.number (r.fails x)) (blamed f r x first h))
  where
    to : (m : ℕ) (p : Place) → Either (FailsOf rs x) (Either (λ n p. (r.number ≡ n) × (r.fails x ≡ Some p)) f) m p → Either (FailsOf (r ∷ rs) x) f m p
    to m p (inl a) = inl (inr a)
    to m p (inr (inl a)) = inl (inl a)
    to m p (inr (inr a)) = inr a

    back : (m : ℕ) (p : Place) → Either (FailsOf (r ∷ rs) x) f m p → Either (FailsOf rs x) (Either (λ n p. (r.number ≡ n) × (r.fails x ≡ Some p)) f) m p
    back m p (inl (inl a)) = inr (inl a)
    back m p (inl (inr a)) = inl a
    back m p (inr a) = inr (inr a)

parts : {X : Type 0} (f : ℕ → Place → Type 0) (rs : List (Rule X)) (xs : List X) (first : Option Violation) → IsFirstOf f first → IsFirstOf (Either (FailsAmong rs xs) f) (noted rs first xs)
parts f rs [] first h = same f (Either (FailsAmong rs []) f) first (λ m p a. inr a) back h
  where
    back : (m : ℕ) (p : Place) → Either (FailsAmong rs []) f m p → f m p
    back m p (inl a) = absurd a
    back m p (inr a) = a
parts f rs (x ∷ xs) first h =
    same (Either (FailsAmong rs xs) (Either (FailsOf rs x) f)) (Either (FailsAmong rs (x ∷ xs)) f) (noted rs (note rs first x) xs) to back
    (parts (Either (FailsOf rs x) f) rs xs (note rs first x) (rules f rs x first h))
  where
    to : (m : ℕ) (p : Place) → Either (FailsAmong rs xs) (Either (FailsOf rs x) f) m p → Either (FailsAmong rs (x ∷ xs)) f m p
    to m p (inl a) = inl (inr a)
    to m p (inr (inl a)) = inl (inl a)
    to m p (inr (inr a)) = inr a

    back : (m : ℕ) (p : Place) → Either (FailsAmong rs (x ∷ xs)) f m p → Either (FailsAmong rs xs) (Either (FailsOf rs x) f) m p
    back m p (inl (inl a)) = inr (inl a)
    back m p (inl (inr a)) = inl a
    back m p (inr a) = inr (inr a)

-- going through all parts once finds the first failure among them
pub noted-is-first : {X : Type 0} (rs : List (Rule X)) (xs : List X) → IsFirstOf (FailsAmong rs xs) (noted rs None xs)
noted-is-first rs xs = same (Either (FailsAmong rs xs) (λ m p. ⊥)) (FailsAmong rs xs) (noted rs None xs) to (λ m p a. inl a) (parts (λ m p. ⊥) rs xs None (λ m p a. a))
  where
    to : (m : ℕ) (p : Place) → Either (FailsAmong rs xs) (λ m p. ⊥) m p → FailsAmong rs xs m p
    to m p (inl a) = a
    to m p (inr a) = absurd a
