-- What a call has told a person at its end.
use Rattle.std.specs.Prelude.{ℕ, Bool, List, String}
use Rattle.std.specs.Bool.{OnTrue}
use Rattle.std.specs.Global.{Global}
use Rattle.outside.specs.Outside.{Outside, SinkState}
use Rattle.command_words.specs.Calls.{Call}
use Rattle.command_words.specs.Words.{IsCommand}
use Rattle.command_answers.specs.declared.status.Status.{Status}
use Rattle.command_answers.specs.Acts.{number_of}
use Rattle.command.specs.Told.{HasTold, IsRefusal}
use Rattle.command.specs.Explained.{IsToldRight}

-- the message of the status was put, and of a command that is refused it tells what is due
pub record HasInformed (tells : Bool) (words : List (String Global)) (before now : Outside) (answer : Status) (err err' : SinkState) : Type 0 where
  pub refusal : List ℕ
  pub told : HasTold words refusal answer err err'
  pub right : (call : Call) → IsCommand words call → OnTrue tells (IsRefusal answer → IsToldRight call before now (number_of answer) refusal)
