-- What is due of images, by what files hold.
use Rattle.std.proofs.Common.{◌≡◌, ℕ, List, Option, Some, None, Bool, true, false, Ok, Err, refl, subst}
use Rattle.std.specs.Prelude.{Result, IfErr, IfOk, IsSomeAnd}
use Rattle.std.specs.Bool.{OnTrue}
use Rattle.image.specs.declared.raw.RawImage.{RawImage}
use Rattle.image.specs.Named.{NamedImage}
use Rattle.image.specs.Raw.{named_of}
use Rattle.outside.specs.Outside.{FilesState, AllStay, NoneFell}
use Rattle.command_words.specs.Calls as call
use Rattle.command_due.specs.CommandsDue.{Outcome, IsImageFile, IsImageRefused, IsRunDue, run_refused, run_bad_script, ran}
use Rattle.command_answers.specs.declared.act.PreparedCall.{PreparedCall}
use Rattle.command_answers.specs.Acts.{outcome_of}
use Rattle.command_answers.specs.declared.prepare_error.PrepareError.{PrepareError}
use Rattle.command_answers.specs.Acting.{CanBeDone}
use Rattle.command_answers.specs.Prepared.{IsReadError, Prepares}
use Rattle.command_answers.specs.Scripted as scripted
use Rattle.image_loaded.specs.Shape.{AreOfValid}
use Rattle.command_images.specs.Scripted.{IsImageRunDue}
use Rattle.command_images.proofs.Files.{image_file}
use Rattle.command_answers.proofs.Held.{of_held, acted, script_unread}

-- ---- `run`

run_over : (bytes other : List ℕ) (n : NamedImage) (outcome : Outcome) → AreOfValid bytes n → IsImageRunDue n other outcome → IsRunDue (Some bytes) (Some other) outcome
run_over bytes other n outcome file due = by (subst (λ (x : NamedImage). IsImageRunDue x other outcome) file.file.image due) where
  by : IsImageRunDue (named_of file.file.raw) other outcome → IsRunDue (Some bytes) (Some other) outcome
  by (scripted.misspelled fault wrong is) = run_bad_script bytes other file.file.raw fault refl (image_file bytes n file) refl wrong is
  by (scripted.is_run lines end script is) = ran bytes other file.file.raw lines end refl (image_file bytes n file) refl script is

run_due : (tells : Bool) (held script mid : Option (List ℕ)) (P : List ℕ → Type 0) (n : NamedImage) (outcome : Outcome)
    → OnTrue tells (IsSomeAnd held P) → ((bytes : List ℕ) → P bytes → AreOfValid bytes n)
    → OnTrue tells (IsSomeAnd mid (λ other. IsImageRunDue n other outcome)) → mid ≡ script → OnTrue tells (IsRunDue held script outcome)
run_due true (Some bytes) script mid P n outcome is loads due stays = by script (subst (λ (o : Option (List ℕ)). IsSomeAnd o (λ other. IsImageRunDue n other outcome)) stays due)
  where
    by : (o : Option (List ℕ)) → IsSomeAnd o (λ other. IsImageRunDue n other outcome) → IsRunDue (Some bytes) o outcome
    by (Some other) due = run_over bytes other n outcome (loads bytes is) due
    by None due = absurd due
run_due true None script mid P n outcome is loads due stays = absurd is
run_due false held script mid P n outcome is loads due stays = tt

pub run_stops : (tells : Bool) (held script : Option (List ℕ)) (P : List ℕ → Type 0) (outcome : Outcome)
    → OnTrue tells (IsSomeAnd held P) → ((bytes : List ℕ) → P bytes → IsImageRefused bytes outcome) → OnTrue tells (IsRunDue held script outcome)
run_stops true (Some bytes) script P outcome is refused = run_refused bytes refl (refused bytes is)
run_stops true None script P outcome is refused = absurd is
run_stops false held script P outcome is refused = tt

pub run_prepares : (tells : Bool) (image script : List ℕ) (before mid now : FilesState) (P : List ℕ → Type 0) (n : NamedImage) (result : Result PreparedCall PrepareError)
    → OnTrue tells (IsSomeAnd (before.held image) P) → ((bytes : List ℕ) → P bytes → AreOfValid bytes n) → AllStay before.held mid.held → NoneFell before.read_faults mid.read_faults
    → IfOk result (λ act. OnTrue tells (IsSomeAnd (mid.held script) (λ other. IsImageRunDue n other (outcome_of act)))) → IfOk result (CanBeDone None)
    → IfErr result (IsReadError script mid now) → Prepares tells (call.run image script) before now result
run_prepares tells image script before mid now P n (Ok act) is loads stays fell due can failed =
    acted tells (call.run image script) before act can
    (run_due tells (before.held image) (before.held script) (mid.held script) P n (outcome_of act) is loads due (stays script))
run_prepares tells image script before mid now P n (Err why) is loads stays fell due can failed =
    script_unread tells (call.run image script) script before mid now fell why refl
    (of_held tells (before.held image) P (λ bytes. (r : RawImage) × IsImageFile bytes r) is (λ bytes p. ((loads bytes p).file.raw, image_file bytes n (loads bytes p)))) failed
