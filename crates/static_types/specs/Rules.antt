-- The rules for statements and results, by number.
use Rattle.std.specs.Prelude.{ℕ, List, [], ◌∷◌}
use Rattle.syntax_tree.specs.Placed.{Prog}
use Rattle.syntax_tree.specs.declared.place.Place.{Place}
use Rattle.static_rule.specs.Parts.{Rule, FailsAmong}
use Rattle.static_declarations.specs.Things.{named_at}
use Rattle.static_declarations.specs.Values.{value}
use Rattle.static_declarations.specs.Parts.{Part, parts}
use Rattle.static_types.specs.Types.{mistyped}
use Rattle.static_types.specs.Conduct.{misplaced, misdirected}
use Rattle.static_types.specs.Numbers.{crossed_loop, endless_loop, long_loop, bad_number, bad_limit}

unfoldable pub statement_rules : Prog Place → List (Rule Part)
statement_rules g =
    record { number = 30; fails = mistyped (named_at g) }
    ∷ record { number = 32; fails = crossed_loop (value g) }
    ∷ record { number = 32; fails = endless_loop (value g) }
    ∷ record { number = 33; fails = long_loop (value g) }
    ∷ record { number = 34; fails = misplaced (named_at g) }
    ∷ record { number = 38; fails = misdirected (named_at g) }
    ∷ record { number = 39; fails = bad_number (value g) }
    ∷ record { number = 45; fails = bad_limit (value g) }
    ∷ []

-- a rule for statements fails at a place of the program
abbrev pub StatementFails : Prog Place → ℕ → Place → Type 0
StatementFails g = FailsAmong (statement_rules g) (parts g)
