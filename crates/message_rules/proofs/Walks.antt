-- What is known, at the end of some parts.
use Rattle.std.proofs.Common.{◌≡◌, ◌++◌, Bool, true, false, cond, List, [], ◌∷◌, Option, Some, None, find, option_map, refl, sym, ap, ◌∙◌}
use Rattle.std.specs.Option.{option_or}
use Rattle.static_rule.specs.declared.violation.Violation.{Violation}
use Rattle.message_rules.specs.declared.fault.Fault.{Fault}
use Rattle.message_rules.specs.Findings.{Finding, first_wrong, is_asked}
use Rattle.message_rules.specs.Seen.{after, left}

pub or-nothing : {X : Type 0} (x : Option X) → option_or x None ≡ x
or-nothing None = refl
or-nothing (Some x) = refl

pub after-nothing : (broken : Violation) (known : Option Fault) → after broken known [] ≡ known
unfolding after
after-nothing broken known = or-nothing known

pub left-nothing : {B : Type 0} (of : B → List Finding) (broken : Violation) (known : Option Fault) → left of broken known [] ≡ known
unfolding left
left-nothing of broken known = after-nothing broken known

append-one : (broken : Violation) (asked : Bool) (x : Finding) (xs ys : List Finding) → first_wrong broken (xs ++ ys) ≡ option_or (first_wrong broken xs) (first_wrong broken ys)
    → option_map (λ f. f.wrong) (cond asked (Some x) (find (is_asked broken) (xs ++ ys))) ≡ option_or (option_map (λ f. f.wrong) (cond asked (Some x) (find (is_asked broken) xs))) (first_wrong broken ys)
append-one broken true x xs ys more = refl
append-one broken false x xs ys more = more

first-append : (broken : Violation) (xs ys : List Finding) → first_wrong broken (xs ++ ys) ≡ option_or (first_wrong broken xs) (first_wrong broken ys)
first-append broken [] ys = refl
first-append broken (x ∷ xs) ys = append-one broken (is_asked broken x) x xs ys (first-append broken xs ys)

or-assoc : {X : Type 0} (x y z : Option X) → option_or (option_or x y) z ≡ option_or x (option_or y z)
or-assoc None y z = refl
or-assoc (Some x) y z = refl

-- what is known once some findings and then others are looked through
pub both : (broken : Violation) (known : Option Fault) (xs ys : List Finding) (f g : Option Fault) → f ≡ after broken known xs → g ≡ after broken f ys → g ≡ after broken known (xs ++ ys)
unfolding after
both broken known xs ys f g one other =
    other ∙ ap (λ k. option_or k (first_wrong broken ys)) one ∙ or-assoc known (first_wrong broken xs) (first_wrong broken ys)
    ∙ ap (option_or known) (sym (first-append broken xs ys))
