-- The number that the rule for wait statements has.
use Rattle.std.proofs.Common.{◌≡◌, ℕ, List, [], ◌∷◌, inl, inr, sym, subst}
use Rattle.syntax_tree.specs.Placed.{Prog}
use Rattle.syntax_tree.specs.declared.place.Place.{Place}
use Rattle.static_rule.specs.First.{IsFirst}
use Rattle.static_rule.specs.Parts.{FailsAmong, FailsOf}
use Rattle.static_rule.specs.declared.violation.Violation.{Violation}
use Rattle.static_declarations.specs.Parts.{Part, parts}
use Rattle.command_due.specs.Waits.{wait_rules, IsFirstWait, WaitFails}

of_part : (x : Part) (number : ℕ) (place : Place) → FailsOf wait_rules x number place → number ≡ 48
unfolding wait_rules
of_part x number place (inl h) = sym h.0
of_part x number place (inr h) = absurd h

among : (xs : List Part) (number : ℕ) (place : Place) → FailsAmong wait_rules xs number place → number ≡ 48
among [] number place h = absurd h
among (x ∷ xs) number place (inl h) = of_part x number place h
among (x ∷ xs) number place (inr h) = among xs number place h

pub first_is_wait : (g : Prog Place) (b : Violation) → IsFirst (WaitFails g) b → IsFirstWait g b.place
first_is_wait g b first = subst (λ (n : ℕ). IsFirst (WaitFails g) (record { number = n; place = b.place })) (among (parts g) b.number b.place first.broken) first
