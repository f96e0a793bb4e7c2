-- Ticks at once in a run under earliest deadline first.
use Rattle.std.specs.Prelude.{◌≡◌, ◌≤◌, ◌+◌, ◌++◌, ℕ, false, List, Option}
use Rattle.base.specs.declared.event.Event.{Event}
use Rattle.machine_semantics.specs.Image.{Image, Script}
use Rattle.machine_semantics.specs.State.{State}
use Rattle.machine_semantics.specs.Starts.{starts}
use Rattle.machine_semantics.specs.Tick.{Ticked}
use Rattle.vm_stretch.specs.Stretch.{FitsIn, pass}
use Rattle.vm_stretch.specs.Quiet.{AreQuiet}
use Rattle.edf_semantics.specs.Choice.{Mark}
use Rattle.edf_semantics.specs.Run.{begin_some, chosen_at, events_from, marks_during, state_at, tick}

-- the state of the run at tick t after its start events, the marks then, and who runs in it
abbrev pub begun : Image → Script → ℕ → State
begun image script t = (starts image script t (state_at image script t).state).state

abbrev pub marked : Image → Script → ℕ → List Mark
marked image script t = marks_during image script t (state_at image script t)

abbrev pub chosen : Image → Script → ℕ → Option ℕ
chosen image script t = chosen_at image script t (state_at image script t)

-- the start events of tick t
abbrev pub started : Image → Script → ℕ → List Event
started image script t = (starts image script t (state_at image script t).state).events

-- no tick is stuck
abbrev pub IsUnstuck : Image → Script → Type 0
IsUnstuck image script = (u : ℕ) → (tick image script u (state_at image script u)).stuck ≡ false

-- n ticks from tick t on may be taken at once: they are no more than are left of what the process
-- is at that is chosen, and nothing starts after the first of them
pub record IsTurn (image : Image) (script : Script) (t n : ℕ) : Type 0 where
  pub some : 1 ≤ n
  pub fits : FitsIn image n (begun image script t) (chosen image script t)
  pub quiet : AreQuiet image script t n (begun image script t)

-- what they come to at once
abbrev pub turn : Image → Script → ℕ → ℕ → Ticked
turn image script t n = pass image t n (begun image script t) (chosen image script t)

-- they come to the same one by one
pub record IsTaken (image : Image) (script : Script) (t n : ℕ) : Type 0 where
  pub free : (turn image script t n).stuck ≡ false
  pub state : state_at image script (t + n) ≡ record { state = (turn image script t n).state; marks = begin_some (chosen image script t) (marked image script t) }
  pub events : (m : ℕ) → events_from image script (n + m) t (state_at image script t)
      ≡ (started image script t ++ (turn image script t n).events) ++ events_from image script m (t + n) (state_at image script (t + n))

-- The law: in a run of which no tick is stuck, they do.
abbrev pub TurnStaysInRun : Type 0
TurnStaysInRun = (image : Image) (script : Script) → IsUnstuck image script → (t n : ℕ) → IsTurn image script t n → IsTaken image script t n
