-- Where a turn ends.
use Rattle.std.specs.Prelude.{◌≡◌, ◌<◌, ◌+◌, ◌⊎◌, ℕ, Option, Some, None, slice_get, min}
use Rattle.machine_semantics.specs.Image.{Image, Script}
use Rattle.machine_semantics.specs.State.{Job, Thread, Ready, State}
use Rattle.machine_semantics.specs.Tick.{pick}
use Rattle.machine_semantics.specs.Run.{state_at}
use Rattle.vm_stretch.specs.Quiet.{IsQuiet}
use Rattle.vm_stretch.specs.RowLaws.{begun}
use Rattle.vm_stretch.specs.Stretch.{left, place_of}

-- tick v is due: a start event, a time-out or a line of the script falls on it
abbrev pub IsDue : Image → Script → ℕ → Type 0
IsDue image script v = IsQuiet image script v (state_at image script v) → ⊥

-- the last burn tick, or the last tick of the instruction, of the process that is picked at tick t
-- is the tick before v
pub record IsDone (image : Image) (script : Script) (t v : ℕ) : Type 0 where
  pub k : ℕ
  pub job : Job
  pub picked : place_of (pick image (begun image script t).threads) ≡ Some k
  pub ready : slice_get (begun image script t).threads k ≡ Some (Ready job)
  pub last : t + left image job ≡ v

-- a turn that begins at tick t and may go on to `limit` goes no further than tick v
abbrev pub EndsAt : Image → Script → ℕ → ℕ → ℕ → Type 0
EndsAt image script limit t v = (v ≡ limit) ⊎ (IsDue image script v ⊎ IsDone image script t v)

-- the turn that begins at tick t ends at the least such tick after t
pub record IsTurnEnd (image : Image) (script : Script) (limit t u : ℕ) : Type 0 where
  pub after : t < u
  pub ends : EndsAt image script limit t u
  pub least : (v : ℕ) → t < v → v < u → EndsAt image script limit t v → ⊥

-- ---- how many ticks a turn takes where so many are clear

-- no more than are left of what the process is at, if it is ready
abbrev pub lasts_thread : Image → ℕ → Option Thread → ℕ
lasts_thread image most (Some (Ready job)) = min most (left image job)
lasts_thread image most thread = most

-- no more than are left of what the process is at that is picked, if one is
abbrev pub lasts_picked : Image → State → ℕ → Option ℕ → ℕ
lasts_picked image s most None = most
lasts_picked image s most (Some k) = lasts_thread image most (slice_get s.threads k)

abbrev pub lasts : Image → State → ℕ → ℕ
lasts image s most = lasts_picked image s most (place_of (pick image s.threads))
