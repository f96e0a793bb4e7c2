-- The first tick at which there is something, of two kinds together.
use Rattle.std.specs.Prelude.{◌≡◌, ℕ, ◌≤◌, ◌<◌, List, [], ◌∷◌, ◌++◌, Option, Some, None, min}
use Rattle.std.proofs.Common.{refl, sym, ◌∙◌, ap, inl, inr, arith, subst}
use Rattle.std.proofs.lemmas.Bool.{cases_lt}
use Rattle.base.specs.declared.event.Event.{Event}
use Rattle.replay_due_events.specs.NextDue.{First, sooner}

none_of_both : (a b : List Event) → a ≡ [] → b ≡ [] → a ++ b ≡ []
none_of_both a b p q = ap (λ l. l ++ b) p ∙ q

first_of_both : (a b : List Event) → (a ≡ [] → ⊥) → a ++ b ≡ [] → ⊥
first_of_both [] b some e = some refl
first_of_both (x ∷ a) b some e = absurd cc

second_of_both : (a b : List Event) → (b ≡ [] → ⊥) → a ++ b ≡ [] → ⊥
second_of_both [] b some e = some e
second_of_both (x ∷ a) b some e = absurd cc

pub first_none : (from : ℕ) → First (λ u. []) from None
first_none from = λ u low. refl

pub first_both : (f h : ℕ → List Event) (from : ℕ) (a b : Option ℕ) → First f from a → First h from b → First (λ u. f u ++ h u) from (sooner a b)
first_both f h from None None p q = λ u low. none_of_both (f u) (h u) (p u low) (q u low)
first_both f h from None (Some n) p q = (q.0, (λ e. second_of_both (f n) (h n) q.1 e), (λ u low high. none_of_both (f u) (h u) (p u low) (q.2 u low high)))
first_both f h from (Some m) None p q = (p.0, (λ e. first_of_both (f m) (h m) p.1 e), (λ u low high. none_of_both (f u) (h u) (p.2 u low high) (q u low)))
first_both f h from (Some m) (Some n) p q =
    elim (cases_lt m n) [
      | inl lt ↦
          let is : m ≡ min m n = omega arith in (
            omega (arith, p.0, q.0),
            subst (λ k. f k ++ h k ≡ [] → ⊥) is (λ e. first_of_both (f m) (h m) p.1 e),
            (λ u low high. none_of_both (f u) (h u) (p.2 u low (omega arith)) (q.2 u low (omega arith))),
          )
      | inr ge ↦
          let is : n ≡ min m n = omega arith in (
            omega (arith, p.0, q.0),
            subst (λ k. f k ++ h k ≡ [] → ⊥) is (λ e. second_of_both (f n) (h n) q.1 e),
            (λ u low high. none_of_both (f u) (h u) (p.2 u low (omega arith)) (q.2 u low (omega arith))),
          )
    ]

-- a later start, where there is nothing before
pub first_later : (f : ℕ → List Event) (from later : ℕ) (o : Option ℕ) → from ≤ later → ((u : ℕ) → from ≤ u → u < later → f u ≡ []) → First f later o → First f from o
first_later f from later None le none h = λ u low. elim (cases_lt u later) [ inl lt ↦ none u low lt | inr ge ↦ h u ge ]
first_later f from later (Some n) le none h = (omega (arith, h.0), h.1, (λ u low high. elim (cases_lt u later) [ inl lt ↦ none u low lt | inr ge ↦ h.2 u ge high ]))

-- the same things
pub first_same : (f h : ℕ → List Event) (from : ℕ) (o : Option ℕ) → ((u : ℕ) → from ≤ u → f u ≡ h u) → First f from o → First h from o
first_same f h from None same p = λ u low. sym (same u low) ∙ p u low
first_same f h from (Some n) same p = (p.0, (λ e. p.1 (same n p.0 ∙ e)), (λ u low high. sym (same u low) ∙ p.2 u low high))
