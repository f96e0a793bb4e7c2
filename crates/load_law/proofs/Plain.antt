-- Parts without names.
use Rattle.std.proofs.Common.{◌≡◌, ℕ, true, List, [], ◌∷◌, Option, None, map, ap, sym, ◌∙◌, subst}
use Rattle.std.proofs.lemmas.Cmp.{nat_list_eq_equiv}
use Rattle.syntax_tree.specs.Plain.{Name}
use Rattle.syntax_tree.specs.declared.place.Place.{Place}
use Rattle.syntax_tree.specs.Placed.{Constant, Scalar, int, boolean, subrange, Kind, scalar, array, Activation, periodic, at_event}
use Rattle.syntax_tree.specs.Bare.{bare_constant, bare_scalar, bare_kind, bare_activation}
use Rattle.static_names.specs.Reach.{same, Site}
use Rattle.static_names.specs.Occurrences.{Occurrence, constant_names, constants_names, scalar_names, kind_names, optional_names, activation_names}
use Rattle.load.specs.Program.{of_number}
use Rattle.load_text_law.proofs.Shapes.{one_of, none_there}
use Rattle.load_law.proofs.Fine.{Fine}
use Rattle.load_law.proofs.LoadNamesStatements.{constant_right, constant_fine}

pub same_self : (x y : Name) → x ≡ y → same x y ≡ true
same_self x y is = ap (same x) (sym is) ∙ nat_list_eq_equiv.refl x

pub number_fine : (here : Site) (c : Constant Place) (n : ℕ) (more : List Occurrence) → bare_constant c ≡ of_number n → Fine more → Fine (constant_names here c more)
number_fine here c n more is fine = constant_fine here c more (ap constant_right is) fine

pub numbers_fine : (here : Site) (cs : List (Constant Place)) (n : ℕ) (more : List Occurrence) → map bare_constant cs ≡ of_number n ∷ [] → Fine more → Fine (constants_names here cs more)
numbers_fine here cs n more is fine =
    let it = one_of bare_constant cs (of_number n) is in
    subst (λ ds. Fine (constants_names here ds more)) (sym it.is) (number_fine here it.one n more it.like fine)

pub scalar_fine : (here : Site) (s : Scalar Place) (more : List Occurrence) → bare_scalar s ≡ int → Fine more → Fine (scalar_names here s more)
scalar_fine here int more is fine = fine
scalar_fine here boolean more is fine = fine
scalar_fine here (subrange low high) more is fine = absurd cc

pub kind_fine : (here : Site) (k : Kind Place) (more : List Occurrence) → bare_kind k ≡ scalar int → Fine more → Fine (kind_names here k more)
kind_fine here (scalar s) more is fine = let inner : bare_scalar s ≡ int = cc in scalar_fine here s more inner fine
kind_fine here (array low high s) more is fine = absurd cc

pub activation_fine : (here : Site) (a : Activation Place) (f : ℕ) (more : List Occurrence) → bare_activation a ≡ periodic (of_number f) None None → Fine more → Fine (activation_names here a more)
activation_fine here (periodic c dl fs) f more is fine =
    let frame : bare_constant c ≡ of_number f = cc in
    let no_deadline = none_there bare_constant dl cc in
    let no_first = none_there bare_constant fs cc in
    let others = λ (o q : Option (Constant Place)). optional_names (constant_names here) o (optional_names (constant_names here) q more) in
    number_fine here c f (others dl fs) frame
    (subst (λ o. Fine (others o fs)) (sym no_deadline) (subst (λ q. Fine (others None q)) (sym no_first) fine))
activation_fine here (at_event e p c dl) f more is fine = absurd cc
