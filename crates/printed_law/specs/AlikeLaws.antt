-- The laws of rules over trees with other places. A tree has positions, which are numbered, and two
-- placings say where each of them stands.
use Rattle.std.specs.Prelude.{◌≡◌, ℕ}
use Rattle.syntax_tree.specs.declared.place.Place.{Place}
use Rattle.syntax_tree.specs.Placed.{Prog, plain}
use Rattle.syntax_tree.specs.Bare.{bare}
use Rattle.static_names.specs.Resolved.{IsRead}
use Rattle.static_names.specs.Rules as names
use Rattle.static_types.specs.Rules.{StatementFails}
use Rattle.static_numbers.specs.Rules.{LimitFails}
use Rattle.static_calls.specs.Reaching.{ReachFails}
use Rattle.static_semantics.specs.Static.{IsChecked}
use Rattle.printed_law.specs.Moved.{moved}
use Rattle.printed_law.specs.Alike.{AreAlike, Stays}

-- where a rule fails of the tree at a place, this is that of a position, and the rule fails at the
-- other place of that position of the tree with the other places; so it does the other way round
-- too, since either placing may be the first
abbrev pub FailsAlike : (Prog Place → ℕ → Place → Type 0) → Type 0
FailsAlike Fails =
    (a b : ℕ → Place) → AreAlike a b → (tree : Prog ℕ) (number : ℕ) (place : Place) → Fails (moved a tree) number place
    → Stays a b place (Fails (moved b tree) number)

-- The law: the program is the same, whatever the places.
abbrev pub ProgramsStay : Type 0
ProgramsStay = (a : ℕ → Place) (tree : Prog ℕ) → plain (moved a tree) ≡ plain tree

-- The laws: rules for names, for statements, for declarations and for calls fail alike.
abbrev pub NamesFailAlike : Type 0
NamesFailAlike = FailsAlike names.Fails

abbrev pub StatementsFailAlike : Type 0
StatementsFailAlike = FailsAlike StatementFails

abbrev pub LimitsFailAlike : Type 0
LimitsFailAlike = FailsAlike LimitFails

abbrev pub CallsFailAlike : Type 0
CallsFailAlike = FailsAlike ReachFails

-- The law: of two trees that are read and are the same apart from places, one keeps to all rules
-- where the other does.
abbrev pub TreesAreCheckedAlike : Type 0
TreesAreCheckedAlike = (g h : Prog Place) → IsRead g → IsRead h → bare g ≡ bare h → IsChecked g → IsChecked h
