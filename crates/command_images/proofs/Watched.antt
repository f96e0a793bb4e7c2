-- What is due of a run that is watched, by what files hold.
use Rattle.std.proofs.Common.{◌≡◌, ◌≢◌, ℕ, List, Option, Some, None, Bool, true, false, ◌⊎◌, Ok, Err, inl, inr, refl, subst}
use Rattle.std.specs.Prelude.{Result, IfErr, IfOk, IsSomeAnd}
use Rattle.std.specs.Bool.{OnTrue}
use Rattle.out_of_memory.specs.Refused.{refused}
use Rattle.image.specs.declared.raw.RawImage.{RawImage}
use Rattle.image.specs.Named.{NamedImage}
use Rattle.image.specs.Raw.{named_of}
use Rattle.outside.specs.Outside.{FilesState, AllStay, NoneFell}
use Rattle.script.specs.declared.fault.ScriptFault.{ScriptFault}
use Rattle.script.specs.declared.fault.ScriptFault.TheVariants as script_fault
use Rattle.script.specs.declared.script.Script.{Script}
use Rattle.script.specs.Faults.{IsFault}
use Rattle.script.specs.Scripts.{IsScript}
use Rattle.command_words.specs.Calls as call
use Rattle.command_words.specs.declared.stop.Breakpoint.{Breakpoint}
use Rattle.command_due.specs.Script.{script_fault_line}
use Rattle.command_due.specs.CommandsDue.{Outcome, IsImageFile, IsImageRefused}
use Rattle.command_due.specs.StopDue.{IsWatchDue, watch_refused, watch_bad_script, watched}
use Rattle.command_answers.specs.declared.act.PreparedCall.{PreparedCall}
use Rattle.command_answers.specs.declared.status.Status.TheVariants as status
use Rattle.command_answers.specs.Acts.{outcome_of}
use Rattle.command_answers.specs.declared.prepare_error.PrepareError.{PrepareError}
use Rattle.command_answers.specs.Acting.{IsQuiet, puts}
use Rattle.command_answers.specs.Prepared.{IsReadError, Prepares}
use Rattle.command_answers.proofs.Coming.{put_comes_to}
use Rattle.command_answers.proofs.Held.{acted, of_held, script_unread}
use Rattle.image_loaded.specs.Shape.{AreOfValid}
use Rattle.command_images.proofs.Files.{image_file}
use Rattle.command_images.specs.Watched.{IsSeenDue, IsTold, misspelled, seen}

-- ---- scripts

pub seen_over : {E : Type 0} (stop : Breakpoint) (n : NamedImage) (script : Script) (P : List ℕ → Type 0) (made : Result PreparedCall E)
    → ((text : List ℕ) → P text → IsScript n.names text script.lines script.end) → IfOk made (λ act. IsTold stop n script (outcome_of act))
    → IfOk made (λ act. (text : List ℕ) → P text → IsSeenDue stop n text (outcome_of act))
seen_over stop n script P (Ok act) is_script is = λ text p. seen script.lines script.end (is_script text p) is
seen_over stop n script P (Err e) is_script is = tt

pub bad_seen : {E : Type 0} (stop : Breakpoint) (n : NamedImage) (why : ScriptFault) (P : List ℕ → Type 0) (made : Result PreparedCall E)
    → ((text : List ℕ) → P text → (why ≡ script_fault.Memory refused) ⊎ IsFault n.names text why)
    → IfOk made (λ act. act ≡ puts status.Script (script_fault_line why)) → IfOk made (λ act. why ≢ script_fault.Memory refused)
    → IfOk made (λ act. (text : List ℕ) → P text → IsSeenDue stop n text (outcome_of act))
bad_seen stop n why P (Ok act) answer is other = λ text p. elim (answer text p) [
  | inl memory ↦ absurd (other memory)
  | inr found ↦ misspelled why (record { is = found; is_fault = other }) (put_comes_to status.Script (script_fault_line why) act is)
]
bad_seen stop n why P (Err e) answer is other = tt

-- ---- `watch`

watch_over : (stop : Breakpoint) (bytes other : List ℕ) (n : NamedImage) (outcome : Outcome) → AreOfValid bytes n → IsSeenDue stop n other outcome → IsWatchDue stop (Some bytes) (Some other) outcome
watch_over stop bytes other n outcome file due = by (subst (λ (x : NamedImage). IsSeenDue stop x other outcome) file.file.image due) where
  by : IsSeenDue stop (named_of file.file.raw) other outcome → IsWatchDue stop (Some bytes) (Some other) outcome
  by (misspelled fault wrong is) = watch_bad_script bytes other file.file.raw fault refl (image_file bytes n file) refl wrong is
  by (seen lines end script is) = watched bytes other file.file.raw lines end is.0 refl (image_file bytes n file) refl script is.1 is.2

watch_due : (tells : Bool) (stop : Breakpoint) (held script mid : Option (List ℕ)) (P : List ℕ → Type 0) (n : NamedImage) (outcome : Outcome)
    → OnTrue tells (IsSomeAnd held P) → ((bytes : List ℕ) → P bytes → AreOfValid bytes n)
    → OnTrue tells (IsSomeAnd mid (λ other. IsSeenDue stop n other outcome)) → mid ≡ script → OnTrue tells (IsWatchDue stop held script outcome)
watch_due true stop (Some bytes) script mid P n outcome is loads due stays = by script (subst (λ (o : Option (List ℕ)). IsSomeAnd o (λ other. IsSeenDue stop n other outcome)) stays due)
  where
    by : (o : Option (List ℕ)) → IsSomeAnd o (λ other. IsSeenDue stop n other outcome) → IsWatchDue stop (Some bytes) o outcome
    by (Some other) due = watch_over stop bytes other n outcome (loads bytes is) due
    by None due = absurd due
watch_due true stop None script mid P n outcome is loads due stays = absurd is
watch_due false stop held script mid P n outcome is loads due stays = tt

pub watch_stops : (tells : Bool) (stop : Breakpoint) (held script : Option (List ℕ)) (P : List ℕ → Type 0) (outcome : Outcome)
    → OnTrue tells (IsSomeAnd held P) → ((bytes : List ℕ) → P bytes → IsImageRefused bytes outcome) → OnTrue tells (IsWatchDue stop held script outcome)
watch_stops true stop (Some bytes) script P outcome is refused = watch_refused bytes refl (refused bytes is)
watch_stops true stop None script P outcome is refused = absurd is
watch_stops false stop held script P outcome is refused = tt

pub watch_prepares : (tells : Bool) (image script : List ℕ) (stop : Breakpoint) (before mid now : FilesState) (P : List ℕ → Type 0) (n : NamedImage) (result : Result PreparedCall PrepareError)
    → OnTrue tells (IsSomeAnd (before.held image) P) → ((bytes : List ℕ) → P bytes → AreOfValid bytes n) → AllStay before.held mid.held → NoneFell before.read_faults mid.read_faults
    → IfOk result (λ act. OnTrue tells (IsSomeAnd (mid.held script) (λ other. IsSeenDue stop n other (outcome_of act)))) → IfOk result IsQuiet
    → IfErr result (IsReadError script mid now) → Prepares tells (call.watch image script stop) before now result
watch_prepares tells image script stop before mid now P n (Ok act) is loads stays fell due quiet failed =
    acted tells (call.watch image script stop) before act (quiet None)
    (watch_due tells stop (before.held image) (before.held script) (mid.held script) P n (outcome_of act) is loads due (stays script))
watch_prepares tells image script stop before mid now P n (Err why) is loads stays fell due quiet failed =
    script_unread tells (call.watch image script stop) script before mid now fell why refl
    (of_held tells (before.held image) P (λ bytes. (r : RawImage) × IsImageFile bytes r) is (λ bytes p. ((loads bytes p).file.raw, image_file bytes n (loads bytes p)))) failed
