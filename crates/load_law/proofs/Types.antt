-- Of a tree that is read and that is the load's apart from places, none of the three rules fails.
use Rattle.std.proofs.Common.{◌≡◌, ℕ, suc, ◌⊎◌, inl, inr, List, [], ◌∷◌, refl, ap, ◌∙◌, arith}
use Rattle.std.specs.Prelude.{Contains, option_map}
use Rattle.syntax_tree.specs.Placed.{Prog}
use Rattle.syntax_tree.specs.declared.place.Place.{Place}
use Rattle.syntax_tree.specs.Bare.{bare}
use Rattle.static_rule.specs.Parts.{FailsOf, FailsAmong}
use Rattle.static_names.specs.Occurrences.{Occurrence, declares, closes, used, names}
use Rattle.static_declarations.specs.Things.{thing_at, named_at}
use Rattle.static_declarations.specs.Parts.{Part, parts}
use Rattle.static_types.specs.Rules.{statement_rules, StatementFails}
use Rattle.load.specs.Program.{load_program}
use Rattle.static_semantics.specs.Places.{NamesFound}
use Rattle.static_semantics.specs.Things.{ThingsKnown, things}
use Rattle.load_law.proofs.Given.{Each, Found, Known, Good}
use Rattle.load_law.proofs.Programs.{load_keeps}
use Rattle.load_text_law.proofs.Numbers.{refuted}

each_of : {X : Type 0} (P : X → Type 0) (xs : List X) → ((x : X) → Contains xs x → P x) → Each P xs
each_of P [] f = tt
each_of P (x ∷ xs) f = (f x (0, omega arith, refl), each_of P xs (λ y at. f y (suc at.0, let below = at.1 in omega arith, at.2)))

found_of : (g : Prog Place) → NamesFound g → (o : Occurrence) → Contains (names g) o → Found (named_at g) (thing_at g) o
found_of g known (declares name place taken) at = tt
found_of g known (closes name place opening) at = tt
found_of g known (used name place want means) at =
    let it = known.uses name place want means at in
    record { declared = it.declared; meant = it.meant; is = ap (λ o. option_map (thing_at g) o) it.found }

all_good : (key count : ℕ) (g : Prog Place) → NamesFound g → ThingsKnown g → bare g ≡ load_program key count → Each (Good (named_at g) (thing_at g)) (parts g)
all_good key count g names_known things_known same = load_keeps (named_at g) (thing_at g) key count g same
    (each_of (Found (named_at g) (thing_at g)) (names g) (found_of g names_known))
    (each_of (Known (named_at g) (thing_at g)) (things g) (λ x at. things_known.declared x.0 x.1 at))

-- ---- the rules by their numbers

abbrev OneOfThree : ℕ → Type 0
OneOfThree number = (number ≡ 30) ⊎ ((number ≡ 34) ⊎ (number ≡ 38))

other_number : (number n : ℕ) → n ≡ number → OneOfThree number → OneOfThree n
other_number number n same (inl is) = inl (same ∙ is)
other_number number n same (inr (inl is)) = inr (inl (same ∙ is))
other_number number n same (inr (inr is)) = inr (inr (same ∙ is))

no_32 : ¬ OneOfThree 32
no_32 (inl is) = omega arith
no_32 (inr (inl is)) = omega arith
no_32 (inr (inr is)) = omega arith

no_33 : ¬ OneOfThree 33
no_33 (inl is) = omega arith
no_33 (inr (inl is)) = omega arith
no_33 (inr (inr is)) = omega arith

no_39 : ¬ OneOfThree 39
no_39 (inl is) = omega arith
no_39 (inr (inl is)) = omega arith
no_39 (inr (inr is)) = omega arith

no_45 : ¬ OneOfThree 45
no_45 (inl is) = omega arith
no_45 (inr (inl is)) = omega arith
no_45 (inr (inr is)) = omega arith

none_of : (g : Prog Place) (x : Part) → Good (named_at g) (thing_at g) x → (number : ℕ) (place : Place) → OneOfThree number → ¬ FailsOf (statement_rules g) x number place
unfolding statement_rules
none_of g x good number place three (inl e) = refuted _ place good.typed e.1
none_of g x good number place three (inr (inl e)) = no_32 (other_number number 32 e.0 three)
none_of g x good number place three (inr (inr (inl e))) = no_32 (other_number number 32 e.0 three)
none_of g x good number place three (inr (inr (inr (inl e)))) = no_33 (other_number number 33 e.0 three)
none_of g x good number place three (inr (inr (inr (inr (inl e))))) = refuted _ place good.placed e.1
none_of g x good number place three (inr (inr (inr (inr (inr (inl e)))))) = refuted _ place good.directed e.1
none_of g x good number place three (inr (inr (inr (inr (inr (inr (inl e))))))) = no_39 (other_number number 39 e.0 three)
none_of g x good number place three (inr (inr (inr (inr (inr (inr (inr (inl e)))))))) = no_45 (other_number number 45 e.0 three)
none_of g x good number place three (inr (inr (inr (inr (inr (inr (inr (inr impossible)))))))) = impossible

none_among : (g : Prog Place) (xs : List Part) → Each (Good (named_at g) (thing_at g)) xs → (number : ℕ) (place : Place) → OneOfThree number → ¬ FailsAmong (statement_rules g) xs number place
none_among g [] all number place three fails = fails
none_among g (x ∷ xs) all number place three (inl here) = none_of g x all.0 number place three here
none_among g (x ∷ xs) all number place three (inr more) = none_among g xs all.1 number place three more

pub types_kept : (key count : ℕ) (g : Prog Place) → NamesFound g → ThingsKnown g → bare g ≡ load_program key count → (number : ℕ) (place : Place) → OneOfThree number → ¬ StatementFails g number place
types_kept key count g names_known things_known same number place three = none_among g (parts g) (all_good key count g names_known things_known same) number place three
