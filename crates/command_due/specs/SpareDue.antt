-- What is due of `slack`.
use Rattle.std.specs.Prelude.{◌≡◌, ℕ, List}
use Rattle.image.specs.Named.{NamedImage}
use Rattle.sched_table.specs.Report.{report_text}
use Rattle.command_due.specs.Source.{IsTimelyText}
use Rattle.command_due.specs.CommandsDue.{Outcome, told, IsRefused}
use Rattle.command_due.specs.Lines.{IsSlackText}

-- refused as for `check`; of a program that is timely, the lines of its image
pub data IsSlackDue (over : ℕ) (text : List ℕ) (outcome : Outcome) : Type 0 where
  slack_refused : IsRefused report_text over text outcome → IsSlackDue over text outcome
  slack_told : (n : NamedImage) (lines : List ℕ) → IsTimelyText over text n → IsSlackText n lines → outcome ≡ told 0 lines → IsSlackDue over text outcome
