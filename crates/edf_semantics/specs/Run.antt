-- The machine with this choice: the same start events, instructions and effects.
use Rattle.std.specs.Prelude.{◌+◌, ◌++◌, ℕ, zero, suc, Bool, true, false, List, [], ◌∷◌, Option, Some, None, map}
use Rattle.base.specs.declared.event.Event.{Event}
use Rattle.machine_semantics.specs.Image.{Image, Process, Script}
use Rattle.machine_semantics.specs.State.{Thread, Idle, Ready, Waiting, State}
use Rattle.machine_semantics.specs.Starts.{starts}
use Rattle.machine_semantics.specs.Tick.{Candidate, run_picked}
use Rattle.machine_semantics.specs.Run.{at_start}
use Rattle.edf_semantics.specs.Choice.{Mark, choose}

-- a state with a mark of each process
pub record Marked : Type 0 where
  pub state : State
  pub marks : List Mark

-- after the start events of tick t: old is the thread before them, new after them
abbrev pub mark_of : ℕ → (old new : Thread) → Mark → Mark
mark_of t Idle (Ready job) m = record { release = t; begun = false }
mark_of t Idle Idle m = m
mark_of t Idle (Waiting condition due number job) m = m
mark_of t (Ready job) new m = m
mark_of t (Waiting condition due number job) new m = m

abbrev pub marks_of : ℕ → (olds news : List Thread) → List Mark → List Mark
marks_of t [] news ms = []
marks_of t (o ∷ olds) [] ms = []
marks_of t (o ∷ olds) (n ∷ news) [] = []
marks_of t (o ∷ olds) (n ∷ news) (m ∷ ms) = mark_of t o n m ∷ marks_of t olds news ms

-- process k has had a tick
abbrev pub begin : ℕ → List Mark → List Mark
begin k [] = []
begin zero (m ∷ ms) = record { release = m.release; begun = true } ∷ ms
begin (suc k) (m ∷ ms) = m ∷ begin k ms

abbrev pub begin_some : Option ℕ → List Mark → List Mark
begin_some None ms = ms
begin_some (Some k) ms = begin k ms

-- what the tick of a process takes of a candidate is its place
abbrev pub candidate : Option ℕ → Option Candidate
candidate None = None
candidate (Some k) = Some (record { place = k; rank = 0; outside = 0 })

-- the marks after the start events of a tick, and who runs in it
abbrev pub marks_during : Image → Script → ℕ → Marked → List Mark
marks_during image script t s = marks_of t s.state.threads (starts image script t s.state).state.threads s.marks

abbrev pub chosen_at : Image → Script → ℕ → Marked → Option ℕ
chosen_at image script t s = choose image (starts image script t s.state).state.threads (marks_during image script t s)

-- the state after a tick, its events in order, whether its instruction was stuck, and whether there
-- was an overrun
pub record Passed : Type 0 where
  pub state : Marked
  pub events : List Event
  pub stuck : Bool
  pub overrun : Bool

-- tick t
unfoldable pub tick : Image → Script → ℕ → Marked → Passed
tick image script t s =
    let started = starts image script t s.state in
    let after = run_picked image t started.state (candidate (chosen_at image script t s)) in
    record {
      state = record { state = after.state; marks = begin_some (chosen_at image script t s) (marks_during image script t s) };
      events = started.events ++ after.events;
      stuck = after.stuck;
      overrun = started.overrun;
    }

abbrev pub first_marks : Image → List Mark
first_marks image = map (λ (p : Process). record { release = 0; begun = false }) image.processes

-- the state before the start events of tick t
unfoldable pub state_at : Image → Script → ℕ → Marked
state_at image script zero = record { state = at_start image; marks = first_marks image }
state_at image script (suc t) = (tick image script t (state_at image script t)).state

-- the events of n ticks from tick t on
unfoldable pub events_from : Image → Script → ℕ → ℕ → Marked → List Event
events_from image script zero t s = []
events_from image script (suc n) t s = (tick image script t s).events ++ events_from image script n (t + 1) (tick image script t s).state

-- the events of the run
unfoldable pub events : Image → Script → List Event
events image script = events_from image script script.end_tick 0 (record { state = at_start image; marks = first_marks image })
