-- What is due by what files hold, and reads that failed.
use Rattle.std.proofs.Common.{◌≡◌, ◌≤◌, ℕ, List, Option, Some, None, Bool, true, false, Err, inl, inr, sym, subst, arith}
use Rattle.std.specs.Prelude.{IsSomeAnd}
use Rattle.std.specs.Bool.{OnTrue}
use Rattle.outside.specs.Outside.{FilesState, NoneFell, Rose}
use Rattle.command_words.specs.Calls.{Call}
use Rattle.command_answers.specs.declared.act.PreparedCall.{PreparedCall}
use Rattle.command_answers.specs.Files.{IsDue, ReachesScript, script_of, source_of, target_of}
use Rattle.command_answers.specs.Acts.{outcome_of}
use Rattle.command_answers.specs.Acting.{CanBeDone}
use Rattle.command_answers.specs.Prepared.{Failed, IsPrepared, IsReadError, Prepares}
use Rattle.command_answers.specs.declared.prepare_error.PrepareError.{PrepareError}
use Rattle.command_answers.specs.declared.prepare_error.PrepareError.TheVariants as unready

-- ---- what a file holds

pub of_held : (tells : Bool) (held : Option (List ℕ)) (P Q : List ℕ → Type 0) → OnTrue tells (IsSomeAnd held P) → ((text : List ℕ) → P text → Q text) → OnTrue tells (IsSomeAnd held Q)
of_held true (Some text) P Q is then = then text is
of_held true None P Q is then = absurd is
of_held false held P Q is then = tt

-- ---- acts

pub acted : (tells : Bool) (call : Call) (before : FilesState) (act : PreparedCall) → CanBeDone (target_of call) act → OnTrue tells (IsDue call before.held (outcome_of act)) → IsPrepared tells call before act
acted tells call before act can due = record { due = due; at = can.at; stored = can.stored; runs = can.runs; answered = can.answered; is_command = can.is_command }

-- ---- reads that failed

pub rose_since : (before mid now : ℕ) → before ≤ mid → Rose mid now → Rose before now
rose_since before mid now le rose = omega (arith, le, rose)

module _ (tells : Bool) (call : Call) (name : List ℕ) where
  -- the first file could not be read
  pub first_unread : (before now : FilesState) (why : PrepareError) → name ≡ source_of call → IsReadError name before now why → Prepares tells call before now (Err why)
  first_unread before now (unready.Unread failed) is (at, rose) = (subst (Failed before now) (sym at) rose, inl (subst (λ n. n ≡ source_of call) (sym at) is))
  first_unread before now (unready.Memory _) is error = tt

  module _ (before mid now : FilesState) (fell : NoneFell before.read_faults mid.read_faults) where
    since : Failed mid now name → Failed before now name
    since rose = rose_since (before.read_faults name) (mid.read_faults name) (now.read_faults name) (fell name) rose

    -- that of the script could not, behind those before
    pub script_unread : (why : PrepareError) → script_of call ≡ Some name → OnTrue tells (ReachesScript call before.held) → IsReadError name mid now why
        → Prepares tells call before now (Err why)
    script_unread (unready.Unread failed) is reached (at, rose) =
        (subst (Failed before now) (sym at) (since rose), inr (inl (subst (λ n. script_of call ≡ Some n) (sym at) is, reached)))
    script_unread (unready.Memory _) is reached error = tt
