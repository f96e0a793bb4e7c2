-- What is said of a program where a rule for what may stand where, or for the direction of devices,
-- fails.
use Rattle.std.specs.Prelude.{ℕ, List, [], ◌∷◌, Option, None, option_map, if◌then◌else◌}
use Rattle.std.specs.Option.{option_or}
use Rattle.syntax_tree.specs.Placed.{Prog}
use Rattle.syntax_tree.specs.Parts.{routines, same_place}
use Rattle.syntax_tree.specs.declared.place.Place.{Place}
use Rattle.static_rule.specs.declared.violation.Violation.{Violation}
use Rattle.static_declarations.specs.Things.{named_at}
use Rattle.static_declarations.specs.Parts.{Part, statement, answer, stmt_place, parts}
use Rattle.static_types.specs.Sorts.{Named}
use Rattle.message_conduct.specs.Faults.{Fault, part_fault}
use Rattle.message_conduct.specs.Sentences.{sentence}

-- a result stands at its function's name
abbrev pub part_place : Part → Place
part_place (statement here s) = stmt_place s
part_place (answer name s e) = name

-- what is wrong with a part by the rule with that number, if it stands at that place
abbrev pub fault_at : Named → Violation → Part → Option Fault
fault_at named broken x = if same_place (part_place x) broken.place then part_fault named broken.number x else None

-- the first that is wrong so with these parts
abbrev pub first_fault : Named → Violation → List Part → Option Fault
first_fault named broken [] = None
first_fault named broken (x ∷ xs) = option_or (fault_at named broken x) (first_fault named broken xs)

-- what is said of the first statement or result where the rule with that number fails at that
-- place; nothing where none does
unfoldable pub conduct_sentence : Prog Place → (number : ℕ) → Place → Option (List ℕ)
conduct_sentence g number place = option_map (sentence (routines g.decls)) (first_fault (named_at g) (record { number = number; place = place }) (parts g))
