-- What is done once the program is stored.
use Rattle.std.specs.Prelude.{◌≡◌, ◌≢◌, ◌⊎◌, ℕ, Bool, Some}
use Rattle.std.specs.Bool.{OnTrue}
use Rattle.outside.specs.Outside.{Outside, AllStay, OthersStay, Appends, AppendsFront}
use Rattle.command_words.specs.Calls.{Load}
use Rattle.load.specs.Script.{script_text}
use Rattle.command.specs.Made.{ScriptFailed, PutFailed}
use Rattle.command.specs.declared.summing.LoadTexts.{LoadTexts}

-- the script stands in its file
abbrev pub HasScript : Load → Outside → Type 0
HasScript load now = now.files.held load.script ≡ Some (script_text load.key load.count)

-- the script was stored, and then the line put, as far as the status says
pub record GoesOn (tells : Bool) (load : Load) (texts : LoadTexts) (before now : Outside) (status : ℕ) : Type 0 where
  pub range : (status ≡ 0) ⊎ ((status ≡ 7) ⊎ (status ≡ 8))
  pub line : status ≡ 0 → Appends before.out.taken now.out.taken texts.summary
  pub stored : OnTrue tells (status ≡ 0 → HasScript load now)
  pub unwritten : status ≡ 7 → ScriptFailed load before now ⊎ PutFailed before now
  pub cut : OnTrue tells (status ≡ 7 →
      (ScriptFailed load before now × (now.out.taken ≡ before.out.taken))
      ⊎ (PutFailed before now × HasScript load now × AppendsFront before.out.taken now.out.taken texts.summary))
  pub nothing : status ≡ 8 → now.out.taken ≡ before.out.taken
  pub kept : status ≡ 8 → AllStay before.files.held now.files.held
  pub quiet : status ≢ 7 → now.out.faults ≡ before.out.faults
  pub others : OthersStay before.files.held now.files.held load.script
