-- Parts that stand at another place than the one that is asked for.
use Rattle.std.proofs.Common.{◌≡◌, Bool, true, false, ◌&&◌, ◌||◌, ◌==◌, cond, List, ◌∷◌, Option, Some, None, find, option_map, nat_eq, refl, sym, ap, ◌∙◌, if◌then◌else◌}
use Rattle.std.specs.Option.{option_or}
use Rattle.syntax_tree.specs.Placed.{constant_of, placed_constant, Prog}
use Rattle.syntax_tree.specs.declared.expr.Constant as code_constant
use Rattle.syntax_tree.specs.declared.expr.Value as code_value
use Rattle.syntax_tree.specs.declared.expr.Value.TheVariants as value_is
use Rattle.syntax_tree.specs.declared.place.Place.{Place}
use Rattle.syntax_tree.specs.Parts.{same_place, processes}
use Rattle.static_rule.specs.declared.violation.Violation.{Violation}
use Rattle.static_names.specs.Occurrences.{names, declared_at}
use Rattle.static_declarations.specs.Values.{Worth, constant_place, is_within}
use Rattle.static_numbers.specs.Processes.{is_at, users, Handled, has_value}
use Rattle.message_rules.specs.declared.fault.Fault.{Fault}
use Rattle.message_rules.specs.Findings.{Finding, first_wrong, is_asked, event_findings, handled_findings}
use Rattle.message_rules.specs.Seen.{after, left}

never : (asked : Bool) → (asked && false) ≡ false
never true = refl
never false = refl

-- a finding that fails elsewhere, if at all, says nothing
passed : (broken : Violation) (f : Finding) (fs : List Finding) → is_at broken.place f.fails ≡ false → first_wrong broken (f ∷ fs) ≡ first_wrong broken fs
passed broken f fs elsewhere =
    ap (λ b. option_map (λ f. f.wrong) (cond b (Some f) (find (is_asked broken) fs))) (ap (λ b. (f.number == broken.number) && b) elsewhere ∙ never (f.number == broken.number))

passed_both : (broken : Violation) (f g : Finding) (fs : List Finding) → is_at broken.place f.fails ≡ false → is_at broken.place g.fails ≡ false → first_wrong broken (f ∷ g ∷ fs) ≡ first_wrong broken fs
passed_both broken f g fs one other = passed broken f (g ∷ fs) one ∙ passed broken g fs other

-- what holds fails nowhere, and what does not fails where the part stands
unless : (holds : Bool) (place at : Place) → same_place at place ≡ false → is_at place (if holds then None else Some at) ≡ false
unless true place at other = refl
unless false place at other = other

if_not : (fails : Bool) (place at : Place) → same_place at place ≡ false → is_at place (if fails then Some at else None) ≡ false
if_not true place at other = other
if_not false place at other = refl

pub other-event : (g : Prog Place) (broken : Violation) (known : Option Fault) (e : Place) (es : List Place) → same_place e broken.place ≡ false
    → left (event_findings g) broken known es ≡ left (event_findings g) broken known (e ∷ es)
unfolding left after
other-event g broken known e es other =
    ap (option_or known) (sym (passed broken _ _ (unless (nat_eq (users (declared_at (names g)) e (processes g.decls)) 1) broken.place e other)))

pub other-number : (worth : Worth) (broken : Violation) (known : Option Fault) (h : Handled) (hs : List Handled) → same_place (constant_place h.number) broken.place ≡ false
    → left (handled_findings worth) broken known hs ≡ left (handled_findings worth) broken known (h ∷ hs)
unfolding left after
other-number worth broken known h hs other =
    ap (option_or known)
    (sym (passed_both broken _ _ _
    (if_not (has_value worth (worth h.number) h.before) broken.place (constant_place h.number) other)
    (unless (is_within 1 4 (worth h.number) || is_within 10 999 (worth h.number)) broken.place (constant_place h.number) other)))

-- the place of a constant is where its first token stands
at_first : (p : Place) (minus : Bool) (v : code_value.Value) (q : Place) → constant_place (constant_of p minus v q) ≡ p
at_first p minus (value_is.Literal n) q = refl
at_first p minus (value_is.Name name) q = refl

pub number-place : (c : code_constant.Constant) → constant_place (placed_constant c) ≡ c.place
number-place c = at_first c.place c.minus c.value c.value_place
