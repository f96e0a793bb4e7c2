-- What is said of what is wrong.
use Rattle.std.specs.Prelude.{ℕ, ℤ, List, [], ◌∷◌, ◌++◌, codes, decimal, if◌then◌else◌}
use Rattle.std.specs.Fmt.{signed_decimal}
use Rattle.message_text.specs.Words.{quoted}
use Rattle.syntax_tree.specs.Plain.{Name}
use Rattle.syntax_tree.specs.Placed.{Decl, constant, device, event, routine, monitor, process}
use Rattle.syntax_tree.specs.Parts.{same_place}
use Rattle.syntax_tree.specs.declared.place.Place.{Place}
use Rattle.message_rules.specs.declared.fault.Counted.{Counted}
use Rattle.message_rules.specs.declared.fault.Counted.TheVariants as counted_is
use Rattle.message_rules.specs.declared.fault.Quantity.{Quantity}
use Rattle.message_rules.specs.declared.fault.Quantity.TheVariants as quantity_is
use Rattle.message_rules.specs.declared.fault.Fault.{Fault}
use Rattle.message_rules.specs.declared.fault.Fault.TheVariants as fault_is

-- the name of the event that is declared at the place
abbrev pub event_name : Place → List (Decl Place) → Name
event_name place [] = []
event_name place (constant name p c ∷ ds) = event_name place ds
event_name place (device name p is_out ∷ ds) = event_name place ds
event_name place (event name p ∷ ds) = if same_place p place then name else event_name place ds
event_name place (routine r ∷ ds) = event_name place ds
event_name place (monitor m ∷ ds) = event_name place ds
event_name place (process p ∷ ds) = event_name place ds

-- a number among some words
abbrev pub number_among : (before : List ℕ) (number : ℤ) (behind : List ℕ) → List ℕ
number_among before number behind = before ++ (signed_decimal number ++ behind)

-- two numbers among some words
abbrev pub numbers_among : (before : List ℕ) (one : ℤ) (middle : List ℕ) (other : ℤ) (behind : List ℕ) → List ℕ
numbers_among before one middle other behind = before ++ (signed_decimal one ++ (middle ++ (signed_decimal other ++ behind)))

-- a count among some words
abbrev pub count_among : (before : List ℕ) (count : ℕ) (behind : List ℕ) → List ℕ
count_among before count behind = before ++ (decimal count ++ behind)

-- a name and a count among some words
abbrev pub name_among : (before name middle : List ℕ) (count : ℕ) (behind : List ℕ) → List ℕ
name_among before name middle count behind = before ++ (quoted name ++ count_among middle count behind)

-- there is one thing of a kind too many
abbrev pub one_too_many : Counted → List ℕ
one_too_many counted_is.Process = codes "this is process number 65; 64 are the most"
one_too_many counted_is.Monitor = codes "this is monitor number 65; 64 are the most"
one_too_many counted_is.Device = codes "this is device number 65; 64 are the most"
one_too_many counted_is.Event = codes "this is event number 65; 64 are the most"
one_too_many counted_is.Condition = codes "this is condition number 257; 256 are the most"
one_too_many counted_is.Routine = codes "this is routine number 513; 512 are the most"

-- the words around a number
pub record Around : Type 0 where
  pub before : List ℕ
  pub behind : List ℕ

-- what is said of a number that is wrong by itself
abbrev pub around : Quantity → Around
around quantity_is.Elements = record { before = codes "the array has "; behind = codes " elements; 65536 are the most" }
around quantity_is.Turns = record { before = codes "the loop has "; behind = codes " turns; 1000000 are the most" }
around quantity_is.Frame = record { before = codes "the frame is "; behind = codes "; it may be 10 to 1000000000" }
around quantity_is.FirstActivation = record { before = codes "the first activation is "; behind = codes "; it may be 0 to 1000000000" }
around quantity_is.RaisedNumber = record { before = codes "the exception's number is "; behind = codes "; it may be 10 to 999" }
around quantity_is.HandlerNumber = record { before = codes "the handler's number is "; behind = codes "; it may be 1 to 4 or 10 to 999" }
around quantity_is.ListedNumber = record { before = codes "the handler lists "; behind = codes " twice" }
around quantity_is.WaitLimit = record { before = codes "the limit of a wait is "; behind = codes "; it may be 1 to 1000000000" }

abbrev pub crossed_bounds : (low high : ℤ) → List ℕ
crossed_bounds low high = numbers_among (codes "the lower bound ") low (codes " is above the upper bound ") high []

abbrev pub wrong_deadline : (ticks frame : ℤ) → List ℕ
wrong_deadline ticks frame = numbers_among (codes "the deadline is ") ticks (codes "; it may be 10 to ") frame (codes ", its frame")

-- what is said of what is wrong among these declarations
abbrev pub sentence : List (Decl Place) → Fault → List ℕ
sentence ds (fault_is.Number of value) = number_among (around of).before value (around of).behind
sentence ds (fault_is.CrossedBounds low high) = crossed_bounds low high
sentence ds fault_is.EndlessLoop = codes "the upper bound of a loop is 2147483647; it may be up to 2147483646"
sentence ds (fault_is.Deadline ticks frame) = wrong_deadline ticks frame
sentence ds (fault_is.EventUse place processes) = name_among (codes "the event ") (event_name place ds) (codes " starts ") processes (codes " processes; one is wanted")
sentence ds fault_is.NoProcess = codes "the program has no process"
sentence ds (fault_is.OneTooMany counted) = one_too_many counted
sentence ds (fault_is.VariableWords words) = count_among (codes "the variables take ") words (codes " words; 1048576 are the most")
