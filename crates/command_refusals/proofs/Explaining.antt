-- What is told of a call, by what is told of what its files hold.
use Rattle.std.proofs.Common.{◌≡◌, ℕ, List, Option, Some, None, Bool, true, false, inl, inr, sym, subst}
use Rattle.std.specs.Prelude.{IsSomeAnd}
use Rattle.std.specs.Bool.{OnTrue}
use Rattle.image.specs.declared.names.ImageNames.{ImageNames}
use Rattle.command_due.specs.CommandsDue.{Outcome, told}
use Rattle.command_answers.specs.declared.act.PreparedCall.{PreparedCall}
use Rattle.command_answers.specs.declared.status.Status.{Status}
use Rattle.command_answers.specs.Acting.{puts}
use Rattle.command_answers.specs.Acts.{number_of, outcome_of}
use Rattle.command_answers.proofs.Coming.{put_comes_to}
use Rattle.command_refusals.specs.Refusals.{IsLaterTold, IsScriptedTold}
use Rattle.command_refusals.specs.Told.{IsScriptTold}

-- what holds of a line that is put holds of what the act comes to
pub of_line : (P : Outcome → Type 0) (status : Status) (line : List ℕ) (act : PreparedCall) → act ≡ puts status line → P (told (number_of status) line) → P (outcome_of act)
of_line P status line act is holds = subst P (sym (put_comes_to status line act is)) holds

-- ---- the file that is read first

pub explained : (tells : Bool) (held : Option (List ℕ)) (P Q : List ℕ → Type 0) (R : Type 0) → OnTrue tells (IsSomeAnd held P) → ((text : List ℕ) → P text → R → Q text)
    → OnTrue tells (R → IsSomeAnd held Q)
explained true (Some text) P Q R is then = λ r. then text is r
explained true None P Q R is then = absurd is
explained false held P Q R is then = tt

-- ---- of a call that reads a script

module _ (Told : List ℕ → Type 0) (Names : List ℕ → ImageNames → Type 0) (file : List ℕ) (outcome : Outcome) (message : List ℕ) where
  -- the source is told
  pub explained_source : (tells : Bool) (source script : Option (List ℕ)) (P : List ℕ → Type 0) (R : Type 0) → OnTrue tells (IsSomeAnd source P) → ((text : List ℕ) → P text → R → Told text)
      → OnTrue tells (R → IsScriptedTold Told Names file source script outcome message)
  explained_source true (Some text) script P R is then = λ r. inl (then text is r)
  explained_source true None script P R is then = absurd is
  explained_source false source script P R is then = tt

  of_script : (script : Option (List ℕ)) (names : ImageNames) (bytes : List ℕ) (R : Type 0) → Names bytes names → IsSomeAnd script (λ text. R → IsScriptTold names file text outcome message) → R
      → IsLaterTold Names (λ n text. IsScriptTold n file text outcome message) bytes script
  of_script (Some text) names bytes R are then r = (names, are, then r)
  of_script None names bytes R are then r = absurd then

  -- the script is, which stands as it did
  pub explained_script : (tells : Bool) (source script mid : Option (List ℕ)) (P : List ℕ → Type 0) (names : ImageNames) (R : Type 0) → OnTrue tells (IsSomeAnd source P)
      → ((text : List ℕ) → P text → Names text names) → OnTrue tells (IsSomeAnd mid (λ text. R → IsScriptTold names file text outcome message)) → mid ≡ script
      → OnTrue tells (R → IsScriptedTold Told Names file source script outcome message)
  explained_script true (Some text) script mid P names R is are then same =
      λ r. inr (of_script script names text R (are text is) (subst (λ (o : Option (List ℕ)). IsSomeAnd o (λ t. R → IsScriptTold names file t outcome message)) same then) r)
  explained_script true None script mid P names R is are then same = absurd is
  explained_script false source script mid P names R is are then same = tt
