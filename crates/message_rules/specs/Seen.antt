-- What contracts see of what is known to be wrong while the findings are looked through.
use Rattle.std.specs.Prelude.{◌≡◌, List, [], ◌∷◌, ◌++◌, map, Option}
use Rattle.std.specs.Option.{option_or}
use Rattle.std.specs.List.{flat_map}
use Rattle.syntax_tree.specs.Placed.{placed_constant, Prog}
use Rattle.syntax_tree.specs.declared.expr.Constant as code_constant
use Rattle.syntax_tree.specs.declared.place.Place.{Place}
use Rattle.static_rule.specs.declared.violation.Violation.{Violation}
use Rattle.static_declarations.specs.Values.{value}
use Rattle.static_numbers.specs.Processes.{Handled}
use Rattle.static_numbers.specs.Counts.{at_none, one_too_many, words, too_many_words}
use Rattle.static_numbers.specs.Places.{Places}
use Rattle.static_numbers.specs.Seen.{held, Visited}
use Rattle.message_rules.specs.declared.fault.Fault.{Fault}
use Rattle.message_rules.specs.declared.fault.Fault.TheVariants as fault_is
use Rattle.message_rules.specs.declared.fault.Counted.TheVariants as counted_is
use Rattle.message_rules.specs.Findings.{Finding, first_wrong}

-- what is known to be wrong, once these findings are looked through too
unfoldable pub after : Violation → Option Fault → List Finding → Option Fault
after broken known fs = option_or known (first_wrong broken fs)

-- once these findings are looked through, what was known is what is known now
abbrev pub Looked : Violation → Option Fault → List Finding → Option Fault → Type 0
Looked broken old fs new = (more : List Finding) → after broken new more ≡ after broken old (fs ++ more)

-- what is known, once the findings of these parts are looked through too
unfoldable pub left : {X : Type 0} → (X → List Finding) → Violation → Option Fault → List X → Option Fault
left of broken known xs = after broken known (flat_map of xs)

-- once the findings of one more piece of a tree are looked through, which gives its parts
abbrev pub LookedAt : {X : Type 0} → (X → List Finding) → Violation → Option Fault → (List X → List X) → Option Fault → Type 0
LookedAt of broken = Visited (left of broken)

-- a number of a handler and those before it
abbrev pub handled_of : List code_constant.Constant → code_constant.Constant → Handled
handled_of before number = record { before = map placed_constant before; number = placed_constant number }

-- ---- counts, where the places of all things are known

abbrev pub kind_findings : Place → Places → List Finding
kind_findings place all =
    record { number = 40; fails = at_none place all.processes; wrong = fault_is.NoProcess }
    ∷ record { number = 40; fails = one_too_many 64 all.processes; wrong = fault_is.OneTooMany counted_is.Process }
    ∷ record { number = 40; fails = one_too_many 64 all.monitors; wrong = fault_is.OneTooMany counted_is.Monitor }
    ∷ record { number = 40; fails = one_too_many 64 all.devices; wrong = fault_is.OneTooMany counted_is.Device }
    ∷ record { number = 40; fails = one_too_many 64 all.events; wrong = fault_is.OneTooMany counted_is.Event }
    ∷ []

abbrev pub other_findings : Prog Place → Places → List Finding
other_findings g all =
    record { number = 41; fails = one_too_many 256 all.conditions; wrong = fault_is.OneTooMany counted_is.Condition }
    ∷ record { number = 42; fails = one_too_many 512 all.routines; wrong = fault_is.OneTooMany counted_is.Routine }
    ∷ record { number = 43; fails = too_many_words (value g) g; wrong = fault_is.VariableWords (held (words (value g) g.decls)) }
    ∷ []
