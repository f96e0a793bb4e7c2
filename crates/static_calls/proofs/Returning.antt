-- The first of the routines that come back, as one after the other is asked.
use Rattle.std.proofs.Common.{◌≡◌, ℕ, ◌⊎◌, inl, inr, List, [], ◌∷◌, ◌++◌, Option, Some, None, refl, ap, sym, ◌∙◌, subst, arith, if◌then◌else◌, Bool, true, false}
use Rattle.std.specs.Prelude.{Contains}
use Rattle.std.proofs.lemmas.List.Elements.{Contains-append_left, Contains-append_right, Contains-push_cases}
use Rattle.syntax_tree.specs.Placed.{Routine}
use Rattle.syntax_tree.specs.declared.place.Place.{Place}
use Rattle.static_rule.specs.declared.violation.Violation.{Violation}
use Rattle.static_rule.specs.First.{Before, IsFirst, IsFirstOf, Either, comes_before, sooner}
use Rattle.static_rule.proofs.Soonest.{both, same}
use Rattle.static_names.specs.Findings.{Key}
use Rattle.static_calls.specs.Graph.{Graph}
use Rattle.static_calls.specs.Tables.{ComesBack, OneComesBack}

-- the sooner of two failures is one of them
pub sooner-cases : (b : Violation) (first : Option Violation) → (sooner (Some b) first ≡ Some b) ⊎ (sooner (Some b) first ≡ first)
sooner-cases b None = inl refl
sooner-cases b (Some c) = by (comes_before b c)
  where
    by : (t : Bool) → ((if t then Some b else Some c) ≡ Some b) ⊎ ((if t then Some b else Some c) ≡ Some c)
    by true = inl refl
    by false = inr refl

module _ (keys : List Key) (g : Graph) (rs : List (Routine Place)) (r : Routine Place) where
  abbrev pub broken : Violation
  broken = record { number = 31; place = r.place }

  to : (m : ℕ) (p : Place) → Either (OneComesBack keys g (r ∷ [])) (OneComesBack keys g rs) m p → OneComesBack keys g (rs ++ r ∷ []) m p
  to m p (inl o) = record { is_rule = o.is_rule; one = o.one; listed = Contains-append_right rs (r ∷ []) o.one o.listed; is = o.is; round = o.round }
  to m p (inr o) = record { is_rule = o.is_rule; one = o.one; listed = Contains-append_left rs (r ∷ []) o.one o.listed; is = o.is; round = o.round }

  back : (m : ℕ) (p : Place) → OneComesBack keys g (rs ++ r ∷ []) m p → Either (OneComesBack keys g (r ∷ [])) (OneComesBack keys g rs) m p
  back m p o = by (Contains-push_cases rs r o.one o.listed)
    where
      by : Contains rs o.one ⊎ (r ≡ o.one) → Either (OneComesBack keys g (r ∷ [])) (OneComesBack keys g rs) m p
      by (inl before) = inr (record { is_rule = o.is_rule; one = o.one; listed = before; is = o.is; round = o.round })
      by (inr last) = inl (record { is_rule = o.is_rule; one = o.one; listed = (0, omega arith, last); is = o.is; round = o.round })

  -- it is the last that comes back
  last-is : (one : Routine Place) → Contains (r ∷ []) one → r ≡ one
  last-is one h = by (Contains-push_cases [] r one h)
    where
      by : Contains [] one ⊎ (r ≡ one) → r ≡ one
      by (inl none) = absurd (omega (arith, none.1))
      by (inr is) = is

  last-back : (m : ℕ) (p : Place) → OneComesBack keys g (r ∷ []) m p → ComesBack keys g r
  last-back m p o = subst (ComesBack keys g) (sym (last-is o.one o.listed)) o.round

  last-first : ComesBack keys g r → IsFirst (OneComesBack keys g (r ∷ [])) broken
  last-first back = record { broken = record { is_rule = refl; one = r; listed = (0, omega arith, refl); is = refl; round = back }; none_before = none }
    where
      none : (m : ℕ) (p : Place) → OneComesBack keys g (r ∷ []) m p → ¬ Before m p 31 r.place
      none m p o = by
        where
          there : r.place ≡ p
          there = ap (λ (q : Routine Place). q.place) (last-is o.one o.listed) ∙ o.is

          by : ¬ Before m p 31 r.place
          by (inl above) = let e : r.place.line ≡ p.line = ap (λ (q : Place). q.line) there in omega arith
          by (inr (inl left)) = let e : r.place.col ≡ p.col = ap (λ (q : Place). q.col) there in let l = left.1 in omega arith
          by (inr (inr less)) = let e = o.is_rule in let l = less.1 in omega arith

  beside : (first : Option Violation) → ComesBack keys g r → IsFirstOf (OneComesBack keys g rs) first → IsFirstOf (Either (OneComesBack keys g (r ∷ [])) (OneComesBack keys g rs)) (sooner (Some broken) first)
  beside first back h = both (OneComesBack keys g (r ∷ [])) (OneComesBack keys g rs) (Some broken) first (last-first back) h

  -- one more comes back, and first
  pub one-more : (first : Option Violation) → ComesBack keys g r → sooner (Some broken) first ≡ Some broken → IsFirstOf (OneComesBack keys g rs) first → IsFirstOf (OneComesBack keys g (rs ++ r ∷ [])) (Some broken)
  one-more first comes e h =
      same (Either (OneComesBack keys g (r ∷ [])) (OneComesBack keys g rs)) (OneComesBack keys g (rs ++ r ∷ [])) (Some broken) to back
      (subst (IsFirstOf (Either (OneComesBack keys g (r ∷ [])) (OneComesBack keys g rs))) e (beside first comes h))

  -- one more does not come back
  pub none-more : (first : Option Violation) → ¬ ComesBack keys g r → IsFirstOf (OneComesBack keys g rs) first → IsFirstOf (OneComesBack keys g (rs ++ r ∷ [])) first
  none-more first never h = same (OneComesBack keys g rs) (OneComesBack keys g (rs ++ r ∷ [])) first (λ m p o. to m p (inr o)) (λ m p o. by m p (back m p o)) h
    where
      by : (m : ℕ) (p : Place) → Either (OneComesBack keys g (r ∷ [])) (OneComesBack keys g rs) m p → OneComesBack keys g rs m p
      by m p (inl last) = absurd (never (last-back m p last))
      by m p (inr before) = before

  -- whether one more comes back or not, it is not the first
  pub later-more : (first : Option Violation) → sooner (Some broken) first ≡ first → IsFirstOf (OneComesBack keys g rs) first → IsFirstOf (OneComesBack keys g (rs ++ r ∷ [])) first
  later-more None e h = absurd (cc)
  later-more (Some c) e h = record { broken = to c.number c.place (inr h.broken); none_before = λ m p o. by m p (back m p o) }
    where
      by : (m : ℕ) (p : Place) → Either (OneComesBack keys g (r ∷ [])) (OneComesBack keys g rs) m p → ¬ Before m p c.number c.place
      by m p (inl last) =
          let f : IsFirstOf (Either (OneComesBack keys g (r ∷ [])) (OneComesBack keys g rs)) (Some c) = subst (IsFirstOf (Either (OneComesBack keys g (r ∷ [])) (OneComesBack keys g rs))) e (beside (Some c) (last-back m p last) h) in
          f.none_before m p (inl last)
      by m p (inr before) = h.none_before m p before

  -- it is not the first, if it comes back
  pub not-first-more : (first : Option Violation) → ¬ (sooner (Some broken) first ≡ Some broken) → IsFirstOf (OneComesBack keys g rs) first → IsFirstOf (OneComesBack keys g (rs ++ r ∷ [])) first
  not-first-more first later h = by (sooner-cases broken first)
    where
      by : (sooner (Some broken) first ≡ Some broken) ⊎ (sooner (Some broken) first ≡ first) → IsFirstOf (OneComesBack keys g (rs ++ r ∷ [])) first
      by (inl e) = absurd (later e)
      by (inr e) = later-more first e h
