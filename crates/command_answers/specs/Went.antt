-- What a call did, by the status that it answers. What is said of bytes is said where the files,
-- and of what was put where the sink, tell theirs.
use Rattle.std.specs.Prelude.{◌≡◌, ◌≢◌, ◌<◌, ◌≤◌, ◌⊎◌, ℕ, Bool, List, [], Option, Some, None, IsSomeAnd, codes}
use Rattle.std.specs.Bool.{OnTrue}
use Rattle.outside.specs.Outside.{Outside, Rose, AllStay, Appends, AppendsFront}
use Rattle.command_words.specs.Calls.{Call}
use Rattle.command_due.specs.CommandsDue.{Outcome}
use Rattle.command_answers.specs.Files.{Held, IsDue, ReachesScript, ReachesLog, source_of, script_of, log_file_of, target_of}

-- the bytes stand under the name
abbrev pub IsStored : Held → List ℕ → List ℕ → Type 0
IsStored held bytes name = held name ≡ Some bytes

-- the bytes that are due, if any are, stand in the file that is written; where none are, no file
-- has changed
abbrev pub Stores : Option (List ℕ) → Option (List ℕ) → (held held' : Held) → Type 0
Stores None target held held' = AllStay held held'
Stores (Some bytes) target held held' = IsSomeAnd target (IsStored held' bytes)

-- what is due was done whole: its status is the answer, its text was put, its image is stored
pub record IsWhole (call : Call) (before now : Outside) (status : ℕ) : Type 0 where
  pub outcome : Outcome
  pub due : IsDue call before.files.held outcome
  pub is : status ≡ outcome.status
  pub put : Appends before.out.taken now.out.taken outcome.text
  pub stored : Stores outcome.image (target_of call) before.files.held now.files.held

-- a write to the file failed
abbrev pub WriteFailed : Call → (before now : Outside) → Type 0
WriteFailed call before now = IsSomeAnd (target_of call) (λ name. Rose (before.files.write_faults name) (now.files.write_faults name))

-- a put failed
abbrev pub PutFailed : (before now : Outside) → Type 0
PutFailed before now = Rose before.out.faults now.out.faults

-- the text that is due is not empty, where the sink tells what it takes
abbrev pub HasText : Option (List ℕ) → List ℕ → Type 0
HasText (Some taken) text = text ≢ []
HasText None text = Unit {0}

-- what is due was cut off: an image was to be stored, its write failed, and nothing was put; or a
-- put failed behind a front of a text that is not empty, and the image that is due is stored
pub record IsCut (call : Call) (before now : Outside) : Type 0 where
  pub outcome : Outcome
  pub due : IsDue call before.files.held outcome
  pub front : AppendsFront before.out.taken now.out.taken outcome.text
  pub cause :
      (((bytes : List ℕ) × (outcome.image ≡ Some bytes)) × WriteFailed call before now × (now.out.taken ≡ before.out.taken))
      ⊎ (PutFailed before now × Stores outcome.image (target_of call) before.files.held now.files.held × HasText before.out.taken outcome.text)

abbrev pub SourceFailed : Call → (before now : Outside) → Type 0
SourceFailed call before now = Rose (before.files.read_faults (source_of call)) (now.files.read_faults (source_of call))

abbrev pub ScriptFailed : Call → (before now : Outside) → Type 0
ScriptFailed call before now = IsSomeAnd (script_of call) (λ name. Rose (before.files.read_faults name) (now.files.read_faults name))

abbrev pub LogFailed : Call → (before now : Outside) → Type 0
LogFailed call before now = IsSomeAnd (log_file_of call) (λ name. Rose (before.files.read_faults name) (now.files.read_faults name))

-- a read failed: the first one, or that of the script or of the log where this was reached
abbrev pub ReadFailed : Bool → Call → (before now : Outside) → Type 0
ReadFailed tells call before now =
    SourceFailed call before now
    ⊎ (ScriptFailed call before now × OnTrue tells (ReachesScript call before.files.held))
    ⊎ (LogFailed call before now × OnTrue tells (ReachesLog call before.files.held))

-- the status is not 6, 7 or 8
abbrev pub IsAnswer : ℕ → Type 0
IsAnswer status = (status ≢ 6) × (status ≢ 7) × (status ≢ 8)

-- What a call did.
pub record Went (tells : Bool) (call : Call) (before now : Outside) (status : ℕ) : Type 0 where
  pub range : status ≤ 9
  pub is_command : status ≢ 1
  -- 0, 2, 3, 4, 5 and 9: what is due was done whole
  pub whole : OnTrue tells (IsAnswer status → IsWhole call before now status)
  -- 6: a read failed
  pub unread : status ≡ 6 → ReadFailed tells call before now
  -- 7: the write or a put failed, and what is due was done up to there
  pub unwritten : status ≡ 7 → WriteFailed call before now ⊎ PutFailed before now
  pub cut : OnTrue tells (status ≡ 7 → IsCut call before now)
  -- 6 and 8: nothing was put
  pub nothing : (status ≡ 6) ⊎ (status ≡ 8) → now.out.taken ≡ before.out.taken
  -- with a status but 7 the sink's count of faults is what it was
  pub quiet : status ≢ 7 → now.out.faults ≡ before.out.faults
  -- no file changes but the one that is written, and this only with 0 and 7
  pub others : (name : List ℕ) → target_of call ≢ Some name → now.files.held name ≡ before.files.held name
  pub stays : 0 < status → status ≢ 7 → AllStay before.files.held now.files.held

-- where no failure is counted, what is due is done whole, or the status is 8
abbrev pub Completes : Call → (before now : Outside) → (status : ℕ) → Type 0
Completes call before now status =
    ¬ SourceFailed call before now → ¬ ScriptFailed call before now → ¬ LogFailed call before now → ¬ WriteFailed call before now → ¬ PutFailed before now
    → (status ≡ 8) ⊎ IsWhole call before now status

-- words that are no command: the usage is put, or its put failed; no file changes
pub record IsUsage (before now : Outside) (status : ℕ) : Type 0 where
  pub answer :
      ((status ≡ 1) × Appends before.out.taken now.out.taken (codes "usage\n"))
      ⊎ ((status ≡ 7) × PutFailed before now × AppendsFront before.out.taken now.out.taken (codes "usage\n"))
  pub quiet : status ≢ 7 → now.out.faults ≡ before.out.faults
  pub stays : AllStay before.files.held now.files.held
