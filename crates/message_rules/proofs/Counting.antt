-- The findings of counts, where the places of all things are known.
use Rattle.std.proofs.Common.{◌≡◌, ◌++◌, List, [], ◌∷◌, map, Option, refl, sym, ap, ◌∙◌}
use Rattle.syntax_tree.specs.Placed.{Prog}
use Rattle.syntax_tree.specs.declared.place.Place.{Place}
use Rattle.syntax_tree.specs.Parts.{processes}
use Rattle.static_rule.specs.declared.violation.Violation.{Violation}
use Rattle.static_numbers.specs.Counts.{at_none}
use Rattle.static_numbers.specs.Places.{Places, places_of}
use Rattle.message_rules.specs.declared.fault.Fault.{Fault}
use Rattle.message_rules.specs.Findings.{count_findings}
use Rattle.message_rules.specs.Seen.{after, Looked, kind_findings, other_findings}
use Rattle.message_rules.proofs.Walks.{after-nothing}

none-map : {X Y : Type 0} (place : Place) (f : X → Y) (xs : List X) → at_none place (map f xs) ≡ at_none place xs
none-map place f [] = refl
none-map place f (x ∷ xs) = refl

joined : (g : Prog Place) → kind_findings g.place (places_of g) ++ (other_findings g (places_of g) ++ []) ≡ count_findings g
joined g = rw (none-map g.place (λ p. p.place) (processes g.decls)) refl

pub counted : (g : Prog Place) (broken : Violation) (start middle end : Option Fault) (place : Place) (all : Places) → place ≡ g.place → all ≡ places_of g
    → Looked broken start (kind_findings place all) middle → Looked broken middle (other_findings g all) end → end ≡ after broken start (count_findings g)
counted g broken start middle end place all at is kinds others =
    sym (after-nothing broken end) ∙ others [] ∙ kinds (other_findings g all ++ [])
    ∙ (λ i. after broken start (kind_findings (at i) (is i) ++ (other_findings g (is i) ++ [])))
    ∙ ap (after broken start) (joined g)
