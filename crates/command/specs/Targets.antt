-- Files that no call writes.
use Rattle.std.specs.Prelude.{◌≢◌, List, ℕ, String, Some}
use Rattle.std.specs.Global.{Global}
use Rattle.command_words.specs.Calls.{Call, Load}
use Rattle.command_words.specs.Words.{IsCommand, IsMake}
use Rattle.command_answers.specs.Files.{target_of}

-- the words are no command that writes the file of this name, and no load with it
pub record IsNoTarget (words : List (String Global)) (name : List ℕ) : Type 0 where
  pub command : (call : Call) → IsCommand words call → target_of call ≢ Some name
  pub program : (load : Load) → IsMake words load → name ≢ load.program
  pub script : (load : Load) → IsMake words load → name ≢ load.script
