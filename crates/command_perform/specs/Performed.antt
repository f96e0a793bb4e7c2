-- What has been done of an act.
use Rattle.std.specs.Prelude.{◌≡◌, ◌≢◌, ◌⊎◌, ℕ, Bool, List, [], ◌∷◌, Option, Some, None}
use Rattle.std.specs.Bool.{OnTrue}
use Rattle.outside.specs.Outside.{Outside, Rose, AllStay, OthersStay, Appends, AppendsFront, IsAddedAtMost}
use Rattle.command_answers.specs.declared.act.Store.{Store}
use Rattle.command_answers.specs.declared.act.PreparedCall.{PreparedCall}
use Rattle.command_answers.specs.Files.{Held}
use Rattle.command_answers.specs.Acts.{number_of, outcome_of}

-- what is to be stored stands in its file; without such, no file has changed
abbrev pub StoresIt : Bool → Option Store → (held held' : Held) → Type 0
StoresIt tells None held held' = AllStay held held'
StoresIt tells (Some s) held held' = OnTrue tells (held' s.name.now ≡ Some s.bytes.items)

-- no other file has changed
abbrev pub OthersKept : Option Store → (held held' : Held) → Type 0
OthersKept None held held' = AllStay held held'
OthersKept (Some s) held held' = OthersStay held held' s.name.now

-- the write failed
abbrev pub StoreFailed : Option Store → (before now : Outside) → Type 0
StoreFailed None before now = ⊥
StoreFailed (Some s) before now = Rose (before.files.write_faults s.name.now) (now.files.write_faults s.name.now)

-- the file that it is to stand in, if there is one
abbrev pub targets : Option Store → List (List ℕ)
targets None = []
targets (Some s) = s.name.now ∷ []

-- its file, if there is one, was written once at most, and no other
abbrev pub WritesIt : Option Store → (before now : List (List ℕ)) → Type 0
WritesIt None before now = now ≡ before
WritesIt (Some s) before now = IsAddedAtMost before now s.name.now

pub record Performed (tells : Bool) (act : PreparedCall) (before now : Outside) (status : ℕ) : Type 0 where
  -- the status of the act, or 7 or 8
  pub range : (status ≡ number_of act.status) ⊎ ((status ≡ 7) ⊎ (status ≡ 8))
  pub whole : status ≢ 7 → status ≢ 8 → Appends before.out.taken now.out.taken (outcome_of act).text
  pub stored : status ≢ 7 → status ≢ 8 → StoresIt tells act.store before.files.held now.files.held
  -- 7: the write failed, and nothing was put; or a put failed behind a front of the text, which is
  -- not empty, and what is to be stored is stored
  pub front : status ≡ 7 → AppendsFront before.out.taken now.out.taken (outcome_of act).text
  pub cause : status ≡ 7 → (StoreFailed act.store before now × (now.out.taken ≡ before.out.taken))
      ⊎ (Rose before.out.faults now.out.faults × StoresIt tells act.store before.files.held now.files.held × ((outcome_of act).text ≢ []))
  -- 8: nothing was put, and no file has changed
  pub nothing : status ≡ 8 → now.out.taken ≡ before.out.taken
  pub kept : status ≡ 8 → AllStay before.files.held now.files.held
  -- a failed put always gives 7
  pub quiet : status ≢ 7 → now.out.faults ≡ before.out.faults
  pub others : OthersKept act.store before.files.held now.files.held
  -- no file was read
  pub unread : now.files.reads ≡ before.files.reads
  pub written : WritesIt act.store before.files.writes now.files.writes
