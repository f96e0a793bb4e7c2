-- Which names a call has read, and which it has written. A read or a write that failed is among them.
use Rattle.std.specs.Prelude.{◌≡◌, ◌≢◌, ◌<◌, ◌⊎◌, ◌++◌, ℕ, List, take, Option, Result, Ok, Err, IsSomeAnd}
use Rattle.outside.specs.Outside.{IsAdded}
use Rattle.command_answers.specs.declared.act.PreparedCall.{PreparedCall}
use Rattle.command_answers.specs.declared.prepare_error.PrepareError.{PrepareError}
use Rattle.command_answers.specs.declared.prepare_error.PrepareError.TheVariants as unready
use Rattle.command_answers.specs.Acts.{number_of}

-- The first ones of these names were tried, in their order, each once, and no other: all of them
-- with status 0, and one at least with every status but 8.
pub record HasTried (names : List (List ℕ)) (before now : List (List ℕ)) (status : ℕ) : Type 0 where
  pub count : ℕ
  pub is : now ≡ before ++ take count names
  pub all : status ≡ 0 → now ≡ before ++ names
  pub some : status ≢ 8 → 0 < count

-- no more was tried, and the status is not 0; or the first ones of these were
abbrev pub MayHaveTried : (names : List (List ℕ)) → (before now : List (List ℕ)) → (status : ℕ) → Type 0
MayHaveTried names before now status = ((now ≡ before) × (status ≢ 0)) ⊎ HasTried names before now status

-- the file that is written, if any is, was tried once, with status 0, 7 or 8; or no file was
abbrev pub HasTriedTarget : Option (List ℕ) → (before now : List (List ℕ)) → (status : ℕ) → Type 0
HasTriedTarget target before now status =
    (now ≡ before)
    ⊎ (IsSomeAnd target (IsAdded before now) × ((status ≡ 0) ⊎ ((status ≡ 7) ⊎ (status ≡ 8))))

-- the status of a call that cannot be prepared
abbrev pub error_status : PrepareError → ℕ
error_status (unready.Unread name) = 6
error_status (unready.Memory _) = 8

-- the status of a call when all is read and judged, if nothing fails from here on
abbrev pub status_of : Result PreparedCall PrepareError → ℕ
status_of (Ok act) = number_of act.status
status_of (Err why) = error_status why
