-- Statements that take so many ticks, as a program of a table has them: loops and assignments.
use Rattle.std.specs.Prelude.{ℕ, zero, suc, ◌+◌, ◌-◌, ◌*◌, ◌/◌, ◌%◌, ◌==◌, false, List, [], ◌∷◌, ◌++◌, codes, nat_le, if◌then◌else◌}
use Rattle.syntax_tree.specs.Plain.{Name}
use Rattle.syntax_tree.specs.Placed.{Constant, literal_constant, Expr, literal, variable, minus, whole, Stmt, assign, loop, Stmts, no_stmts, stmts}

-- trees without places
abbrev pub Nowhere : Type 0
Nowhere = Unit {0}

abbrev pub of_number : ℕ → Constant Nowhere
of_number n = literal_constant tt false n tt

-- statement after statement
abbrev pub in_turn : List (Stmt Nowhere) → Stmts Nowhere
in_turn [] = no_stmts
in_turn (s ∷ more) = stmts s (in_turn more)

-- the names of the variable and of the loops, behind each of which stands one tail
abbrev pub of_x : (tail : Name) → Name
of_x tail = codes "x" ++ tail

-- x := e
abbrev pub set_x : (tail : Name) → Expr Nowhere → Stmt Nowhere
set_x tail e = assign (whole tt (of_x tail)) e

-- x := 0, which takes 3 ticks; x := x, which takes 4; x := - 1, which takes 5
abbrev pub three : (tail : Name) → Stmt Nowhere
three tail = set_x tail (literal tt 0)

abbrev pub four : (tail : Name) → Stmt Nowhere
four tail = set_x tail (variable tt (of_x tail))

abbrev pub five : (tail : Name) → Stmt Nowhere
five tail = set_x tail (minus tt (literal tt 1))

-- for v : 1 .. turns do body end for
abbrev pub turns_of : (v : Name) → (turns : ℕ) → List (Stmt Nowhere) → Stmt Nowhere
turns_of v turns body = loop tt v tt (of_number 1) (of_number turns) (in_turn body)

-- so many turns with nothing in them, which take 5 ticks and 10 for each turn
abbrev pub short_turns : (tail : Name) → (turns : ℕ) → Stmt Nowhere
short_turns tail turns = turns_of (codes "i" ++ tail) turns []

-- so many turns with 1000 turns in each, which take 5 ticks and 10015 for each turn
abbrev pub long_turns : (tail : Name) → (turns : ℕ) → Stmt Nowhere
long_turns tail turns = turns_of (codes "i" ++ tail) turns (turns_of (codes "j" ++ tail) 1000 [] ∷ [])

abbrev pub threes : (tail : Name) → (count : ℕ) → List (Stmt Nowhere)
threes tail zero = []
threes tail (suc count) = three tail ∷ threes tail count

-- n ticks by assignments, where n is 0, or 3 or more
unfoldable pub spend_by_assignments : (tail : Name) → (n : ℕ) → List (Stmt Nowhere)
spend_by_assignments tail n =
    if n % 3 == 1 then four tail ∷ threes tail ((n - 4) / 3)
    else (if n % 3 == 2 then five tail ∷ threes tail ((n - 5) / 3) else threes tail (n / 3))

-- n ticks by a loop and by assignments, which take 3 to 12 ticks behind the loop
unfoldable pub spend_by_loop : (tail : Name) → (n : ℕ) → List (Stmt Nowhere)
spend_by_loop tail n =
    if nat_le 18 n
    then (let turns = (n - 8) / 10 in short_turns tail turns ∷ spend_by_assignments tail (n - 5 - 10 * turns))
    else spend_by_assignments tail n

-- n ticks, where n is 0, or 3 or more
unfoldable pub spend : (tail : Name) → (n : ℕ) → List (Stmt Nowhere)
spend tail n =
    if nat_le 10023 n
    then (let turns = (n - 8) / 10015 in long_turns tail turns ∷ spend_by_loop tail (n - 5 - 10015 * turns))
    else spend_by_loop tail n
