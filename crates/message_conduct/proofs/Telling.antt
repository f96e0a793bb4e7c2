-- There is a sentence exactly where one of the two rules fails.
use Rattle.std.proofs.Common.{◌≡◌, ◌⊎◌, inl, inr, ℕ, Bool, true, false, cond, List, [], ◌∷◌, Option, Some, None, option_map, refl, sym, ap, ◌∙◌, subst, if◌then◌else◌, arith}
use Rattle.std.specs.Prelude.{◌↔◌}
use Rattle.std.specs.Option.{is_some, option_or}
use Rattle.std.proofs.lemmas.Bool.Decides.{nat_tests}
use Rattle.std.proofs.lemmas.Option.{cond_some}
use Rattle.syntax_tree.specs.Placed.{Prog}
use Rattle.syntax_tree.specs.Parts.{routines, same_place}
use Rattle.syntax_tree.specs.declared.place.Place.{Place}
use Rattle.static_rule.specs.Parts.{FailsOf, FailsAmong}
use Rattle.static_declarations.specs.Things.{named_at}
use Rattle.static_declarations.specs.Parts.{Part, parts}
use Rattle.static_types.specs.Conduct.{misplaced, misdirected}
use Rattle.static_types.specs.Rules.{statement_rules, StatementFails}
use Rattle.message_conduct.specs.Faults.{Fault, conduct_fault, direction_fault}
use Rattle.message_conduct.specs.Sentences.{sentence}
use Rattle.message_conduct.specs.Conduct.{part_place, fault_at, first_fault, conduct_sentence}
use Rattle.message_conduct.proofs.Found.{finds-misplaced, finds-misdirected}

-- ---- places

same-refl : (p : Place) → same_place p p ≡ true
same-refl p = grind (arith, nat_tests)

same-is : (p q : Place) → same_place p q ≡ true → p ≡ q
same-is p q is =
    let l : p.line ≡ q.line = grind (arith, nat_tests) in
    let c : p.col ≡ q.col = grind (arith, nat_tests) in
    λ i. record { line = l i; col = c i }

-- ---- choices

cond-true : {X : Type 0} (b : Bool) (x : Option X) → is_some (cond b x None) ≡ true → (b ≡ true) × (is_some x ≡ true)
cond-true true x is = (refl, is)
cond-true false x is = cc

one-or : {X : Type 0} (x y : Option X) → is_some (option_or x y) ≡ true → (is_some x ≡ true) ⊎ (is_some y ≡ true)
one-or None y is = inr is
one-or (Some x) y is = inl refl

or-one : {X : Type 0} (x y : Option X) → is_some x ≡ true → is_some (option_or x y) ≡ true
or-one None y is = cc
or-one (Some x) y is = refl

or-other : {X : Type 0} (x y : Option X) → is_some y ≡ true → is_some (option_or x y) ≡ true
or-other None y is = is
or-other (Some x) y is = refl

some-map : {X Y : Type 0} (f : X → Y) (x : Option X) → is_some (option_map f x) ≡ is_some x
some-map f None = refl
some-map f (Some x) = refl

-- ---- one part: a rule fails of it at a place exactly where something is found of it there

module _ (fails : Part → Option Place) (wrong : Part → Option Fault) (finds : (x : Part) → fails x ≡ (if is_some (wrong x) then Some (part_place x) else None)) (p : Place) (x : Part) where
  abbrev there : Bool
  there = is_some (if same_place (part_place x) p then wrong x else None)

  part-found : fails x ≡ Some p → there ≡ true
  part-found is =
      let found = cond_some (is_some (wrong x)) (part_place x) p (sym (finds x) ∙ is) in
      ap (λ q. is_some (if same_place q p then wrong x else None)) found.1
      ∙ ap (λ b. is_some (if b then wrong x else None)) (same-refl p) ∙ found.0

  part-fails : there ≡ true → fails x ≡ Some p
  part-fails is =
      let found = cond-true (same_place (part_place x) p) (wrong x) is in
      finds x ∙ ap (λ b. if b then Some (part_place x) else None) found.1 ∙ ap Some (same-is (part_place x) p found.0)

-- ---- the list of rules

module _ (g : Prog Place) (p : Place) (x : Part) where
  misplaced-of : FailsOf (statement_rules g) x 34 p → misplaced (named_at g) x ≡ Some p
  unfolding statement_rules
  misplaced-of (inl h) = absurd (let e = h.0 in omega arith)
  misplaced-of (inr (inl h)) = absurd (let e = h.0 in omega arith)
  misplaced-of (inr (inr (inl h))) = absurd (let e = h.0 in omega arith)
  misplaced-of (inr (inr (inr (inl h)))) = absurd (let e = h.0 in omega arith)
  misplaced-of (inr (inr (inr (inr (inl h))))) = h.1
  misplaced-of (inr (inr (inr (inr (inr (inl h)))))) = absurd (let e = h.0 in omega arith)
  misplaced-of (inr (inr (inr (inr (inr (inr (inl h))))))) = absurd (let e = h.0 in omega arith)
  misplaced-of (inr (inr (inr (inr (inr (inr (inr (inl h)))))))) = absurd (let e = h.0 in omega arith)
  misplaced-of (inr (inr (inr (inr (inr (inr (inr (inr none)))))))) = elim none [ ]

  of-misplaced : misplaced (named_at g) x ≡ Some p → FailsOf (statement_rules g) x 34 p
  unfolding statement_rules
  of-misplaced is = inr (inr (inr (inr (inl (refl, is)))))

  misdirected-of : FailsOf (statement_rules g) x 38 p → misdirected (named_at g) x ≡ Some p
  unfolding statement_rules
  misdirected-of (inl h) = absurd (let e = h.0 in omega arith)
  misdirected-of (inr (inl h)) = absurd (let e = h.0 in omega arith)
  misdirected-of (inr (inr (inl h))) = absurd (let e = h.0 in omega arith)
  misdirected-of (inr (inr (inr (inl h)))) = absurd (let e = h.0 in omega arith)
  misdirected-of (inr (inr (inr (inr (inl h))))) = absurd (let e = h.0 in omega arith)
  misdirected-of (inr (inr (inr (inr (inr (inl h)))))) = h.1
  misdirected-of (inr (inr (inr (inr (inr (inr (inl h))))))) = absurd (let e = h.0 in omega arith)
  misdirected-of (inr (inr (inr (inr (inr (inr (inr (inl h)))))))) = absurd (let e = h.0 in omega arith)
  misdirected-of (inr (inr (inr (inr (inr (inr (inr (inr none)))))))) = elim none [ ]

  of-misdirected : misdirected (named_at g) x ≡ Some p → FailsOf (statement_rules g) x 38 p
  unfolding statement_rules
  of-misdirected is = inr (inr (inr (inr (inr (inl (refl, is))))))

-- ---- all parts

module _ (g : Prog Place) (n : ℕ) (p : Place) (to : (x : Part) → FailsOf (statement_rules g) x n p → is_some (fault_at (named_at g) (record { number = n; place = p }) x) ≡ true) where
  some-found : (xs : List Part) → FailsAmong (statement_rules g) xs n p → is_some (first_fault (named_at g) (record { number = n; place = p }) xs) ≡ true
  some-found [] none = elim none [ ]
  some-found (x ∷ xs) (inl one) = or-one (fault_at (named_at g) (record { number = n; place = p }) x) _ (to x one)
  some-found (x ∷ xs) (inr more) = or-other (fault_at (named_at g) (record { number = n; place = p }) x) _ (some-found xs more)

module _ (g : Prog Place) (n : ℕ) (p : Place) (back : (x : Part) → is_some (fault_at (named_at g) (record { number = n; place = p }) x) ≡ true → FailsOf (statement_rules g) x n p) where
  some-fails : (xs : List Part) → is_some (first_fault (named_at g) (record { number = n; place = p }) xs) ≡ true → FailsAmong (statement_rules g) xs n p
  some-fails [] is = cc
  some-fails (x ∷ xs) is = by (one-or (fault_at (named_at g) (record { number = n; place = p }) x) _ is) (some-fails xs)
    where
      by : (is_some (fault_at (named_at g) (record { number = n; place = p }) x) ≡ true) ⊎ (is_some (first_fault (named_at g) (record { number = n; place = p }) xs) ≡ true) → (is_some (first_fault (named_at g) (record { number = n; place = p }) xs) ≡ true → FailsAmong (statement_rules g) xs n p) → FailsAmong (statement_rules g) (x ∷ xs) n p
      by (inl one) others = inl (back x one)
      by (inr more) others = inr (others more)

-- ---- whole programs

told : (g : Prog Place) (n : ℕ) (p : Place) → is_some (conduct_sentence g n p) ≡ is_some (first_fault (named_at g) (record { number = n; place = p }) (parts g))
unfolding conduct_sentence
told g n p = some-map (sentence (routines g.decls)) (first_fault (named_at g) (record { number = n; place = p }) (parts g))

of-34 : (g : Prog Place) (p : Place) → StatementFails g 34 p ↔ (is_some (conduct_sentence g 34 p) ≡ true)
of-34 g p =
    let named = named_at g in
    let finds = finds-misplaced named in (
      (λ f. told g 34 p ∙ some-found g 34 p (λ x h. part-found (misplaced named) (conduct_fault named) finds p x (misplaced-of g p x h)) (parts g) f),
      (λ is. some-fails g 34 p (λ x h. of-misplaced g p x (part-fails (misplaced named) (conduct_fault named) finds p x h)) (parts g) (sym (told g 34 p) ∙ is)),
    )

of-38 : (g : Prog Place) (p : Place) → StatementFails g 38 p ↔ (is_some (conduct_sentence g 38 p) ≡ true)
of-38 g p =
    let named = named_at g in
    let finds = finds-misdirected named in (
      (λ f. told g 38 p ∙ some-found g 38 p (λ x h. part-found (misdirected named) (direction_fault named) finds p x (misdirected-of g p x h)) (parts g) f),
      (λ is. some-fails g 38 p (λ x h. of-misdirected g p x (part-fails (misdirected named) (direction_fault named) finds p x h)) (parts g) (sym (told g 38 p) ∙ is)),
    )

pub tells-each : (g : Prog Place) (n : ℕ) (p : Place) → ((n ≡ 34) ⊎ (n ≡ 38)) → (StatementFails g n p ↔ (is_some (conduct_sentence g n p) ≡ true))
tells-each g n p (inl is) = subst (λ k. StatementFails g k p ↔ (is_some (conduct_sentence g k p) ≡ true)) (sym is) (of-34 g p)
tells-each g n p (inr is) = subst (λ k. StatementFails g k p ↔ (is_some (conduct_sentence g k p) ≡ true)) (sym is) (of-38 g p)
