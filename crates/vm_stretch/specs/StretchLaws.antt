-- What is proved of ticks that pass at once.
use Rattle.std.specs.Prelude.{◌≡◌, ◌≤◌, ◌+◌, ◌-◌, ◌++◌, ℕ, zero, suc, false, List}
use Rattle.base.specs.declared.event.Event.{Event}
use Rattle.machine_semantics.specs.Image.{Image, Script}
use Rattle.machine_semantics.specs.State.{State}
use Rattle.machine_semantics.specs.Starts.{starts, unchanged}
use Rattle.machine_semantics.specs.Tick.{Ticked, pick, tick}
use Rattle.machine_semantics.specs.Run.{state_at, events_from}
use Rattle.vm_stretch.specs.Stretch.{FitsIn, pass, place_of}
use Rattle.vm_stretch.specs.Quiet.{AreQuiet, IsQuiet}

-- The law: a quiet tick has no start event, and starts nothing.
abbrev pub QuietStartsNothing : Type 0
QuietStartsNothing = (image : Image) (script : Script) (u : ℕ) (s : State) → IsQuiet image script u s → starts image script u s ≡ unchanged s

-- the state after n ticks from tick t on
abbrev pub state_from : Image → Script → ℕ → ℕ → State → State
state_from image script zero t s = s
state_from image script (suc n) t s = state_from image script n (t + 1) (tick image script t s).state

-- the ticks at once of a turn of n ticks from tick t on, after the start events of t
abbrev pub turn : Image → Script → ℕ → ℕ → State → Ticked
turn image script t n s = pass image t n (starts image script t s).state (place_of (pick image (starts image script t s).state.threads))

-- the state after the turn
abbrev pub turned : Image → Script → ℕ → ℕ → State → State
turned image script t n s = (turn image script t n s).state

-- its events
abbrev pub turn_events : Image → Script → ℕ → ℕ → State → List Event
turn_events image script t n s = (starts image script t s).events ++ (turn image script t n s).events

-- n ticks from tick t on may pass at once: they are no more than are left of what the process is at
-- that is picked, and nothing starts after the first of them
pub record IsTurn (image : Image) (script : Script) (t n : ℕ) (s : State) : Type 0 where
  pub some : 1 ≤ n
  pub fits : FitsIn image n (starts image script t s).state (place_of (pick image (starts image script t s).state.threads))
  pub quiet : AreQuiet image script t n (starts image script t s).state

-- The law: they are stuck exactly where the last of them is stuck, after the others one by one.
abbrev pub TurnIsStuck : Type 0
TurnIsStuck = (image : Image) (script : Script) (t n : ℕ) (s : State) → IsTurn image script t (suc n) s
    → (tick image script (t + n) (state_from image script n t s)).stuck ≡ (turn image script t (suc n) s).stuck

-- The law: where they are not stuck they leave the state that they leave one by one.
abbrev pub TurnKeepsState : Type 0
TurnKeepsState = (image : Image) (script : Script) (t n : ℕ) (s : State) → IsTurn image script t n s → (turn image script t n s).stuck ≡ false
    → state_from image script n t s ≡ turned image script t n s

-- The law: and they have the same events, before those of the m ticks after them.
abbrev pub TurnKeepsEvents : Type 0
TurnKeepsEvents = (image : Image) (script : Script) (t n m : ℕ) (s : State) → IsTurn image script t n s → (turn image script t n s).stuck ≡ false
    → events_from image script (n + m) t s ≡ turn_events image script t n s ++ events_from image script m (t + n) (turned image script t n s)

-- the turn of n ticks from tick t on in the run
abbrev pub IsTurnOfRun : Image → Script → ℕ → ℕ → Type 0
IsTurnOfRun image script t n = IsTurn image script t n (state_at image script t)

-- The law: in a run of which no tick is stuck, a turn is not stuck, and the state before tick t + n
-- is that after it.
abbrev pub TurnStaysInRun : Type 0
TurnStaysInRun = (image : Image) (script : Script) → ((u : ℕ) → (tick image script u (state_at image script u)).stuck ≡ false) → (t n : ℕ) → IsTurnOfRun image script t n
    → ((turn image script t n (state_at image script t)).stuck ≡ false) × (state_at image script (t + n) ≡ turned image script t n (state_at image script t))
