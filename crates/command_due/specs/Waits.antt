-- The wait statements of a program, as a rule that fails at each of them: under earliest deadline
-- first no process waits.
use Rattle.std.specs.Prelude.{ℕ, List, [], ◌∷◌, Option, Some, None}
use Rattle.syntax_tree.specs.declared.place.Place.{Place}
use Rattle.syntax_tree.specs.Placed.{Stmt, wait, Prog}
use Rattle.static_rule.specs.First.{IsFirst}
use Rattle.static_rule.specs.Parts.{Rule, FailsAmong}
use Rattle.static_declarations.specs.Parts.{Part, statement, answer, parts}

-- the place of a statement that waits itself, which is that of its first token
abbrev pub wait_place : Stmt Place → Option Place
wait_place (wait p cond q limit number) = Some p
wait_place _ = None

-- the result of a function does not wait
abbrev pub part_wait_place : Part → Option Place
part_wait_place (statement here s) = wait_place s
part_wait_place (answer name s e) = None

unfoldable pub wait_rules : List (Rule Part)
wait_rules = record { number = 48; fails = part_wait_place } ∷ []

-- a wait statement stands at the place; the number of the rule is 48
abbrev pub WaitFails : Prog Place → ℕ → Place → Type 0
WaitFails g = FailsAmong wait_rules (parts g)

-- no statement of the program waits
abbrev pub HasNoWait : Prog Place → Type 0
HasNoWait g = (number : ℕ) (place : Place) → ¬ WaitFails g number place

-- the first one that waits stands at the place
abbrev pub IsFirstWait : Prog Place → Place → Type 0
IsFirstWait g place = IsFirst (WaitFails g) (record { number = 48; place = place })

-- it is the place of the first one, if there is any
abbrev pub IsFirstWaitOf : Prog Place → Option Place → Type 0
IsFirstWaitOf g None = HasNoWait g
IsFirstWaitOf g (Some place) = IsFirstWait g place
