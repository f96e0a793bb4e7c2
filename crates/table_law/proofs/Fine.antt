-- Names that no rule refuses.
use Rattle.std.proofs.Common.{◌≡◌, Bool, true, false, List, [], ◌∷◌, Some, None, inl, inr}
use Rattle.std.specs.Prelude.{not}
use Rattle.syntax_tree.specs.declared.place.Place.{Place}
use Rattle.syntax_tree.specs.Placed.{Prog}
use Rattle.static_names.specs.Reach.{same, suits}
use Rattle.static_names.specs.Occurrences.{Occurrence, declares, closes, used, names}
use Rattle.static_names.specs.Rules.{Among, place_of, undeclared, shadows, misused, misclosed}
use Rattle.static_names.specs.Resolved.{IsNamed}

abbrev pub is_fine : Occurrence → Bool
is_fine (declares name place taken) = not taken
is_fine (closes name place opening) = same name opening
is_fine (used name place want None) = false
is_fine (used name place want (Some d)) = suits want d.kind

abbrev pub Fine : List Occurrence → Type 0
Fine [] = Unit {0}
Fine (o ∷ os) = (is_fine o ≡ true) × Fine os

turned : (b : Bool) → b ≡ true → not b ≡ true → ⊥
turned true one other = cc
turned false one other = cc

declared : (o : Occurrence) → is_fine o ≡ true → undeclared o ≡ true → ⊥
declared (used name place want None) fine fails = cc
declared (used name place want (Some d)) fine fails = cc
declared (declares name place taken) fine fails = cc
declared (closes name place opening) fine fails = cc

not_taken : (o : Occurrence) → is_fine o ≡ true → shadows o ≡ true → ⊥
not_taken (used name place want means) fine fails = cc
not_taken (declares name place taken) fine fails = turned taken fails fine
not_taken (closes name place opening) fine fails = cc

suited : (o : Occurrence) → is_fine o ≡ true → misused o ≡ true → ⊥
suited (used name place want None) fine fails = cc
suited (used name place want (Some d)) fine fails = turned (suits want d.kind) fine fails
suited (declares name place taken) fine fails = cc
suited (closes name place opening) fine fails = cc

closed : (o : Occurrence) → is_fine o ≡ true → misclosed o ≡ true → ⊥
closed (used name place want means) fine fails = cc
closed (declares name place taken) fine fails = cc
closed (closes name place opening) fine fails = turned (same name opening) fine fails

none_stands : (test : Occurrence → Bool) → ((o : Occurrence) → is_fine o ≡ true → test o ≡ true → ⊥) → (os : List Occurrence) → Fine os → (place : Place)
    → ¬ Among (λ o. (place_of o ≡ place) × (test o ≡ true)) os
none_stands test never [] fine place among = among
none_stands test never (o ∷ os) fine place (inl here) = never o fine.0 here.1
none_stands test never (o ∷ os) fine place (inr more) = none_stands test never os fine.1 place more

pub named : (g : Prog Place) → Fine (names g) → IsNamed g
named g fine number place (inl fails) = none_stands undeclared declared (names g) fine place fails.1
named g fine number place (inr (inl fails)) = none_stands shadows not_taken (names g) fine place fails.1
named g fine number place (inr (inr (inl fails))) = none_stands misused suited (names g) fine place fails.1
named g fine number place (inr (inr (inr fails))) = none_stands misclosed closed (names g) fine place fails.1
