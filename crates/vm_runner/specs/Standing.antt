-- Where a machine stands in a run.
use Rattle.std.specs.Prelude.{◌≡◌, ◌≤◌, ◌<◌, ◌+◌, ℕ, List, Some, length}
use Rattle.base.specs.declared.event.Event.{Event}
use Rattle.machine_semantics.specs.Image.{Image, Script}
use Rattle.vm_stretch.specs.StartLawsDue.{HasDue}
use Rattle.vm_stretch.specs.StretchDue.{HasSlots, NoneBefore}
use Rattle.vm_releases.specs.Order.{IsOrderOf}
use Rattle.vm_state.specs.Board.{IsBoardOf, state_of}
use Rattle.vm_runner.specs.Course as whole
use Rattle.vm_runner.specs.Course.{Behaviour, begun, course, started}
use Rattle.vm_runner.specs.Dispatching.{Before, Begun, InRow, Knowing, Phase}
use Rattle.vm_runner.specs.ByRanks.{Knows, by_ranks, ranks}
use Rattle.vm_runner.specs.declared.machine.Machine.{Machine}
use Rattle.vm_runner.specs.declared.ranking.Ranking.{Ranking}

-- the machine stands in the run before its tick, at most at the end, and knows what is due
pub record Stands {D : Type 0} (behaviour : Image → Script → Behaviour) (Knows : Knowing D) (image : Image) (script : Script) (phase : ℕ → Phase) (m : Machine D) : Type 0 where
  pub within : m.tick ≤ script.end_tick
  pub state : state_of m.board ≡ (behaviour image script).state m.tick
  pub board : IsBoardOf image m.board
  pub due : HasDue image script m.tick m.agenda.done (state_of m.board) m.agenda.slots
  pub done : m.agenda.done ≤ length script.lines
  pub order : IsOrderOf image m.agenda.order
  pub knows : Knows image script (phase m.tick) m.dispatch

-- the machine has begun a turn before the end: the start events of its tick are done, it has their
-- events, and knows what is due after the tick
pub record Begins {D : Type 0} (behaviour : Image → Script → Behaviour) (Knows : Knowing D) (image : Image) (script : Script) (m : Machine D) : Type 0 where
  pub before : m.tick < script.end_tick
  pub state : state_of m.board ≡ begun (course behaviour image script) m.tick
  pub board : IsBoardOf image m.board
  pub slots : HasSlots image script m.tick m.agenda.done (state_of m.board) m.agenda.slots
  pub later : NoneBefore (m.tick + 1) m.agenda.slots
  pub done : m.agenda.done ≤ length script.lines
  pub order : IsOrderOf image m.agenda.order
  pub few : length m.fired.items < 65
  pub fell : m.fired.items ≡ started (course behaviour image script) m.tick
  pub knows : Knows image script (Begun m.tick) m.dispatch

-- the machine has chosen process `who` at its tick, whose start events are done, has room for one
-- more event, and knows what is due after the tick
pub record HasChosen {D : Type 0} (behaviour : Image → Script → Behaviour) (Knows : Knowing D) (image : Image) (script : Script) (who : ℕ) (m : Machine D) : Type 0 where
  pub state : state_of m.board ≡ begun (course behaviour image script) m.tick
  pub board : IsBoardOf image m.board
  pub chosen : (behaviour image script).chosen m.tick ≡ Some who
  pub slots : HasSlots image script m.tick m.agenda.done (state_of m.board) m.agenda.slots
  pub done : m.agenda.done ≤ length script.lines
  pub order : IsOrderOf image m.agenda.order
  pub few : length m.fired.items < 65
  pub knows : Knows image script (InRow m.tick) m.dispatch

-- ---- by ranks

abbrev pub StandsIn : Image → Script → Machine Ranking → Type 0
StandsIn image script m = Stands ranks Knows image script Before m

abbrev pub HasBegun : Image → Script → Machine Ranking → Type 0
HasBegun image script m = Begins ranks Knows image script m

-- the events of the run from one tick up to before another
abbrev pub events_between : Image → Script → ℕ → ℕ → List Event
events_between image script from to = whole.events_between (by_ranks image script) from to
