-- A whole run of the machine under a script: the states, and the events of the ticks before the
-- script's end.
use Rattle.std.specs.Prelude.{◌+◌, ◌++◌, ℕ, zero, suc, pos, List, [], ◌∷◌, map, Bool}
use Rattle.base.specs.declared.event.Event.{Event}
use Rattle.machine_semantics.specs.Image.{Image, Process, Monitor, Script}
use Rattle.machine_semantics.specs.State.{Idle, State, zeros}
use Rattle.machine_semantics.specs.Tick.{tick}

-- the words of all monitors
abbrev pub words_of : List Monitor → ℕ
words_of [] = 0
words_of (m ∷ ms) = m.words + words_of ms

-- all processes idle, so all monitors free; all words 0, all queues empty, no device set
unfoldable pub at_start : Image → State
at_start image = record {
  threads = map (λ (p : Process). Idle) image.processes;
  owned = map (λ (p : Process). zeros p.words) image.processes;
  shared = zeros (words_of image.monitors);
  queues = map (λ (c : ℕ). []) image.conditions;
  devices = map (λ (d : Bool). pos 0) image.devices;
}

-- the state before the start events of tick t
unfoldable pub state_at : Image → Script → ℕ → State
state_at image script zero = at_start image
state_at image script (suc t) = (tick image script t (state_at image script t)).state

-- the events of n ticks from tick t on
unfoldable pub events_from : Image → Script → ℕ → ℕ → State → List Event
events_from image script zero t s = []
events_from image script (suc n) t s = (tick image script t s).events ++ events_from image script n (t + 1) (tick image script t s).state

-- the events of the run: those of the ticks 0, 1 and so on, as many as the script's end
unfoldable pub events : Image → Script → List Event
events image script = events_from image script script.end_tick 0 (at_start image)
