-- What is due of `why`.
use Rattle.std.specs.Prelude.{◌≡◌, ℕ, List}
use Rattle.syntax_tree.specs.declared.place.Place.{Place}
use Rattle.syntax_tree.specs.Placed.{Prog, plain}
use Rattle.sched_program.specs.Tasks.{IsInTime, IsNotInTime}
use Rattle.sched_program.specs.Levels.{IsWhyText}
use Rattle.command_due.specs.Source.{IsWritten, IsTextFault, fault_line}
use Rattle.command_due.specs.CommandsDue.{Outcome, told}

-- the line of the text's fault; else its bounds taken apart, with status 3 where the program is not
-- in time
pub data IsWhyDue (over : ℕ) (text : List ℕ) (outcome : Outcome) : Type 0 where
  why_faulty : (number : ℕ) (place : Place) → IsTextFault text number place → outcome ≡ told 2 (fault_line number place) → IsWhyDue over text outcome
  why_late : (tree : Prog Place) (parts : List ℕ) → IsWritten text tree → IsNotInTime (plain tree) over → IsWhyText (plain tree) over parts
      → outcome ≡ told 3 parts → IsWhyDue over text outcome
  why_in_time : (tree : Prog Place) (parts : List ℕ) → IsWritten text tree → IsInTime (plain tree) over → IsWhyText (plain tree) over parts
      → outcome ≡ told 0 parts → IsWhyDue over text outcome
