-- What a call of `make` did, by the status that it answers. What is said of bytes is said where the
-- files tell theirs.
use Rattle.std.specs.Prelude.{◌≡◌, ◌≢◌, ◌⊎◌, ℕ, Bool, List, Some}
use Rattle.std.specs.Bool.{OnTrue}
use Rattle.outside.specs.Outside.{Outside, AllStay, OthersStay, Appends, AppendsFront, Rose}
use Rattle.command_answers.specs.Files.{Held}
use Rattle.command_words.specs.Calls.{Load}
use Rattle.load.specs.Program.{program_text}
use Rattle.load.specs.Script.{script_text}
use Rattle.command.specs.Due.{IsSummary}

-- the program is stored; no other file has changed
pub record HasProgram (load : Load) (held held' : Held) : Type 0 where
  pub program : held' load.program ≡ Some (program_text load.key load.count)
  pub others : OthersStay held held' load.program

-- both texts are stored, first the program and then the script: where both have one name, the
-- script stands there
pub record HasTexts (load : Load) (held' : Held) : Type 0 where
  pub program : load.program ≢ load.script → held' load.program ≡ Some (program_text load.key load.count)
  pub script : held' load.script ≡ Some (script_text load.key load.count)

-- no file has changed but these two
abbrev pub KeepsOthers : Load → (held held' : Held) → Type 0
KeepsOthers load held held' = (name : List ℕ) → name ≢ load.program → name ≢ load.script → held' name ≡ held name

abbrev pub ProgramFailed : Load → (before now : Outside) → Type 0
ProgramFailed load before now = Rose (before.files.write_faults load.program) (now.files.write_faults load.program)

abbrev pub ScriptFailed : Load → (before now : Outside) → Type 0
ScriptFailed load before now = Rose (before.files.write_faults load.script) (now.files.write_faults load.script)

abbrev pub PutFailed : (before now : Outside) → Type 0
PutFailed before now = Rose before.out.faults now.out.faults

-- the write of the program failed, and no other file has changed; or that of the script did, once
-- the program was stored; or the put did, once both were, behind a front of the line
pub data IsCutBy (load : Load) (line : List ℕ) (before now : Outside) : Type 0 where
  no_program : ProgramFailed load before now → OthersStay before.files.held now.files.held load.program
      → now.out.taken ≡ before.out.taken → IsCutBy load line before now
  no_script : ScriptFailed load before now
      → (load.program ≢ load.script → now.files.held load.program ≡ Some (program_text load.key load.count))
      → now.out.taken ≡ before.out.taken → IsCutBy load line before now
  no_line : PutFailed before now → HasTexts load now.files.held → AppendsFront before.out.taken now.out.taken line → IsCutBy load line before now

-- What a call of `make` did.
pub record Made (tells : Bool) (load : Load) (before now : Outside) (status : ℕ) : Type 0 where
  pub range : (status ≡ 0) ⊎ ((status ≡ 7) ⊎ (status ≡ 8))
  -- 0: both texts are stored, and the line was put
  pub line : status ≡ 0 → (line : List ℕ) × IsSummary load.key load.count line × Appends before.out.taken now.out.taken line
  pub stored : OnTrue tells (status ≡ 0 → HasTexts load now.files.held)
  -- 7: a write or the put failed, and what comes before was done
  pub unwritten : status ≡ 7 → ProgramFailed load before now ⊎ (ScriptFailed load before now ⊎ PutFailed before now)
  pub cut : OnTrue tells (status ≡ 7 → (line : List ℕ) × IsSummary load.key load.count line × IsCutBy load line before now)
  -- 8: nothing was put; no file has changed, or that of the program alone, which is stored
  pub nothing : status ≡ 8 → now.out.taken ≡ before.out.taken
  pub kept : OnTrue tells (status ≡ 8 → AllStay before.files.held now.files.held ⊎ HasProgram load before.files.held now.files.held)
  -- with a status but 7 the sink's count of faults is what it was
  pub quiet : status ≢ 7 → now.out.faults ≡ before.out.faults
  pub others : KeepsOthers load before.files.held now.files.held
