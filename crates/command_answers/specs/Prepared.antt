-- What the answers of `prepare` mean.
use Rattle.std.specs.Prelude.{◌≡◌, ◌≢◌, ◌⊎◌, ℕ, Bool, List, Some, Result, Ok, Err, IfSome}
use Rattle.std.specs.Bool.{OnTrue}
use Rattle.outside.specs.Outside.{FilesState, Rose}
use Rattle.command_words.specs.Calls.{Call}
use Rattle.command_answers.specs.declared.act.PreparedCall.{PreparedCall}
use Rattle.command_answers.specs.Files.{Held, IsDue, ReachesScript, ReachesLog, source_of, script_of, log_file_of}
use Rattle.command_answers.specs.Acts.{number_of, outcome_of, IsAtTarget, CanRun}
use Rattle.command_answers.specs.Went.{IsAnswer}
use Rattle.command_answers.specs.declared.prepare_error.PrepareError.{PrepareError}
use Rattle.command_answers.specs.declared.prepare_error.PrepareError.TheVariants as unready

-- the act comes to what is due of the call
pub record IsPrepared (tells : Bool) (call : Call) (before : FilesState) (act : PreparedCall) : Type 0 where
  pub due : OnTrue tells (IsDue call before.held (outcome_of act))
  pub at : IsAtTarget call act.store
  -- an image is stored with status 0 alone
  pub stored : IfSome act.store (λ s. number_of act.status ≡ 0)
  pub runs : IfSome act.run CanRun
  pub answered : IsAnswer (number_of act.status)
  pub is_command : number_of act.status ≢ 1

-- the read of a file failed
abbrev pub Failed : (before now : FilesState) → List ℕ → Type 0
Failed before now name = Rose (before.read_faults name) (now.read_faults name)

-- why the file of this name could not be read
abbrev pub IsReadError : List ℕ → (before now : FilesState) → PrepareError → Type 0
IsReadError name before now (unready.Unread failed) = (failed.now ≡ name) × Failed before now name
IsReadError name before now (unready.Memory _) = Unit {0}

-- the file of this name is read: it is the first, or that of the script or of the log where this
-- was reached
abbrev pub IsReached : Bool → Call → Held → List ℕ → Type 0
IsReached tells call held name =
    (name ≡ source_of call)
    ⊎ ((script_of call ≡ Some name) × OnTrue tells (ReachesScript call held))
    ⊎ ((log_file_of call ≡ Some name) × OnTrue tells (ReachesLog call held))

-- want of memory says nothing of the files
abbrev pub Prepares : Bool → Call → (before now : FilesState) → Result PreparedCall PrepareError → Type 0
Prepares tells call before now (Ok act) = IsPrepared tells call before act
Prepares tells call before now (Err (unready.Unread name)) = Failed before now name.now × IsReached tells call before.held name.now
Prepares tells call before now (Err (unready.Memory _)) = Unit {0}
