-- What a person is told of a command that is refused.
use Rattle.std.specs.Prelude.{◌≡◌, ℕ, List}
use Rattle.outside.specs.Outside.{Outside, Appends}
use Rattle.command_words.specs.Calls.{Call}
use Rattle.command_due.specs.CommandsDue.{Outcome}
use Rattle.command_answers.specs.Files.{IsDue}
use Rattle.command_refusals.specs.Refusals.{IsToldOf}

-- the message tells what is due of the call and was put
pub record IsToldRight (call : Call) (before now : Outside) (answer : ℕ) (message : List ℕ) : Type 0 where
  pub outcome : Outcome
  pub due : IsDue call before.files.held outcome
  pub is : answer ≡ outcome.status
  pub put : Appends before.out.taken now.out.taken outcome.text
  pub told : IsToldOf call before.files.held outcome message
