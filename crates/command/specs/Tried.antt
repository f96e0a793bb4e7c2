-- Which files words let a call read and write: each of them once at most, in the order of the steps;
-- and which of them ended it.
use Rattle.std.specs.Prelude.{◌≡◌, ◌∷◌, ℕ, List, [], String}
use Rattle.std.specs.Global.{Global}
use Rattle.command_words.specs.Calls.{Call, Load}
use Rattle.command_words.specs.Words.{IsCommand, IsMake}
use Rattle.outside.specs.Outside.{Outside}
use Rattle.command_answers.specs.declared.status.Status.{Status}
use Rattle.command_answers.specs.Causes.{HasCause}
use Rattle.command_answers.specs.Files.{listed, sources_of, target_of}
use Rattle.command_answers.specs.Tried.{HasTried, HasTriedTarget}

-- of a command the first ones of its files were read, with status 0 all; of other words none
pub record HasRead (words : List (String Global)) (before now : List (List ℕ)) (status : ℕ) : Type 0 where
  pub command : (call : Call) → IsCommand words call → HasTried (sources_of call) before now status
  pub other : ((call : Call) → ¬ IsCommand words call) → now ≡ before

-- of a command its file was written, with status 0, 7 or 8, or none; of `make` first that of the
-- program and then that of the script, with status 0 both; of other words none
pub record HasWritten (words : List (String Global)) (before now : List (List ℕ)) (status : ℕ) : Type 0 where
  pub command : (call : Call) → IsCommand words call → HasTriedTarget (target_of call) before now status
  pub load : (load : Load) → IsMake words load → HasTried (load.program ∷ load.script ∷ []) before now status
  pub other : ((call : Call) → ¬ IsCommand words call) → ((load : Load) → ¬ IsMake words load) → now ≡ before

-- a file that ended the call is one that the words let it read, or write
pub record HasEnded (words : List (String Global)) (before now : Outside) (status : Status) : Type 0 where
  pub command : (call : Call) → IsCommand words call → HasCause (sources_of call) (listed (target_of call)) before now status
  pub load : (load : Load) → IsMake words load → HasCause [] (load.program ∷ load.script ∷ []) before now status
  pub other : ((call : Call) → ¬ IsCommand words call) → ((load : Load) → ¬ IsMake words load) → HasCause [] [] before now status
