-- What is due of `fit`.
use Rattle.std.specs.Prelude.{◌≡◌, ℕ, List}
use Rattle.syntax_tree.specs.declared.place.Place.{Place}
use Rattle.syntax_tree.specs.Placed.{Prog, plain}
use Rattle.sched_program.specs.Fits.{IsFitText}
use Rattle.command_due.specs.Source.{IsWritten, IsTextFault, fault_line}
use Rattle.command_due.specs.CommandsDue.{Outcome, told}

-- the line of the text's fault; else what fits of its program, in time or not
pub data IsFitDue (over : ℕ) (text : List ℕ) (outcome : Outcome) : Type 0 where
  fit_faulty : (number : ℕ) (place : Place) → IsTextFault text number place → outcome ≡ told 2 (fault_line number place) → IsFitDue over text outcome
  fitted : (tree : Prog Place) (fits : List ℕ) → IsWritten text tree → IsFitText (plain tree) over fits → outcome ≡ told 0 fits → IsFitDue over text outcome
