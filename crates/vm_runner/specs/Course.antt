-- A run by some dispatch, and the ticks of it that may be taken at once.
use Rattle.std.specs.Prelude.{◌≡◌, ◌≤◌, ◌<◌, ◌+◌, ◌-◌, ◌++◌, ◌^◌, ◌⊎◌, ℕ, false, List, [], Option, Some, slice_get}
use Rattle.base.specs.declared.event.Event.{Event}
use Rattle.machine_isa.specs.declared.instr.Instr.{Instr}
use Rattle.machine_isa.specs.Ticks.{ticks}
use Rattle.machine_semantics.specs.Image.{Image, Process, Script}
use Rattle.machine_semantics.specs.State.{Job, Thread, Ready, State}
use Rattle.machine_semantics.specs.Effect.{Own}
use Rattle.machine_semantics.specs.Starts.{starts}
use Rattle.machine_semantics.specs.Tick.{Ticked}
use Rattle.machine_semantics.specs.Run.{at_start}
use Rattle.machine_semantics.specs.Queues.{AreQueued}
use Rattle.vm_stretch.specs.Stretch.{FitsIn, left, pass}
use Rattle.vm_stretch.specs.Quiet.{AreQuiet}
use Rattle.vm_stretch.specs.RowLaws.{IsInStack}
use Rattle.vm_stretch.specs.Silent.{IsSafeFor, Leads, with_process}
use Rattle.vm_stretch.specs.StartLawsDue.{HasOwnRanks}
use Rattle.vm_stretch.specs.StretchDue.{AreInOrder}
use Rattle.vm_releases.specs.Begin.{NextFits}

-- how a run goes: the state before each tick, the process that is chosen after its start events, if
-- one is, and the events of n ticks from tick t on
pub record Behaviour : Type 0 where
  pub state : ℕ → State
  pub chosen : ℕ → Option ℕ
  pub events : (n t : ℕ) → List Event

-- the run of an image under a script
pub record Course : Type 0 where
  pub image : Image
  pub script : Script
  pub state : ℕ → State
  pub chosen : ℕ → Option ℕ
  pub events : (n t : ℕ) → List Event

-- that which goes so
abbrev pub course : (Image → Script → Behaviour) → Image → Script → Course
course behaviour image script = record {
  image = image;
  script = script;
  state = (behaviour image script).state;
  chosen = (behaviour image script).chosen;
  events = (behaviour image script).events;
}

-- the state after the start events of tick t, and these
abbrev pub begun : Course → ℕ → State
begun c t = (starts c.image c.script t (c.state t)).state

abbrev pub started : Course → ℕ → List Event
started c t = (starts c.image c.script t (c.state t)).events

-- the events from one tick up to before another
abbrev pub events_between : Course → ℕ → ℕ → List Event
events_between c from to = c.events (to - from) from

-- where the start events of tick t stand last, the events up to before tick u have been told after
-- all that stood before them
abbrev pub AreTold : Course → (t u : ℕ) → (before after : List Event) → Type 0
AreTold c t u before after = (front : List Event) → before ≡ front ++ started c t → after ≡ front ++ events_between c t u

-- ---- ticks at once

-- n ticks from tick t on are a turn: no more than are left of what the process is at that is chosen,
-- and nothing starts after the first of them
pub record IsTurn (c : Course) (t n : ℕ) : Type 0 where
  pub some : 1 ≤ n
  pub fits : FitsIn c.image n (begun c t) (c.chosen t)
  pub quiet : AreQuiet c.image c.script t n (begun c t)

-- what they come to at once
abbrev pub turn : Course → ℕ → ℕ → Ticked
turn c t n = pass c.image t n (begun c t) (c.chosen t)

-- after the start events of tick t, process k is chosen, and stands so; and for the ticks before t
-- + budget nothing more starts
pub record IsChosen (c : Course) (t budget k : ℕ) (first : Own) : Type 0 where
  pub p : Process
  pub process : slice_get c.image.processes k ≡ Some p
  pub chosen : c.chosen t ≡ Some k
  pub ready : slice_get (begun c t).threads k ≡ Some (Ready first.job)
  pub owned : slice_get (begun c t).owned k ≡ Some first.owned
  pub shared : (begun c t).shared ≡ first.shared
  pub quiet : AreQuiet c.image c.script t budget (begun c t)

-- n ticks from tick t on are a row: so many that lead the process that is chosen over instructions
-- that nobody sees, and then m more, no more than are left of what it is at
pub record IsRow (c : Course) (t n : ℕ) : Type 0 where
  pub budget : ℕ
  pub k : ℕ
  pub first : Own
  pub chosen : IsChosen c t budget k first
  pub led : ℕ
  pub o : Own
  pub leads : Leads c.image first led o
  pub m : ℕ
  pub some : 1 ≤ m
  pub fits : m ≤ left c.image o.job
  pub all : led + m ≡ n
  pub within : n ≤ budget

-- what they come to at once
abbrev pub row : (c : Course) (t n : ℕ) → IsRow c t n → Ticked
row c t n is = pass c.image (t + is.led) is.m (with_process is.k is.o (begun c t)) (Some is.k)

abbrev pub IsStep : Course → (t n : ℕ) → Type 0
IsStep c t n = IsTurn c t n ⊎ IsRow c t n

-- n ticks of the run from tick t on come to this
pub record ComeTo (c : Course) (t n : ℕ) (all : Ticked) : Type 0 where
  pub free : all.stuck ≡ false
  pub state : c.state (t + n) ≡ all.state
  pub events : c.events n t ≡ started c t ++ all.events

-- ---- what a machine asks of a run

-- process k is there, and ready
pub record IsThere (image : Image) (s : State) (k : ℕ) : Type 0 where
  pub p : Process
  pub process : slice_get image.processes k ≡ Some p
  pub job : Job
  pub ready : slice_get s.threads k ≡ Some (Ready job)

-- turns and rows come to the same at once as one by one, and a process that is chosen can take them;
-- no release finds its process unfinished, the queues hold those who wait, and ticks are numbers of
-- 64 bits
pub record GoesBySteps (c : Course) : Type 0 where
  pub first : c.state 0 ≡ at_start c.image
  pub chosen : (t k : ℕ) → c.chosen t ≡ Some k → IsThere c.image (begun c t) k
  pub turns : (t n : ℕ) → IsTurn c t n → ComeTo c t n (turn c t n)
  pub rows : (t n : ℕ) (is : IsRow c t n) → ComeTo c t n (row c t n is)
  pub none : (t : ℕ) → c.events 0 t ≡ []
  pub cut : (n m t : ℕ) → c.events (n + m) t ≡ c.events n t ++ c.events m (t + n)
  pub safe : (t budget k : ℕ) (first : Own) (is : IsChosen c t budget k first) → first.job.dispatch_ticks ≡ 0 → IsSafeFor c.image is.p.stack first budget
  pub stack : (t k : ℕ) (p : Process) (th : Thread) → slice_get c.image.processes k ≡ Some p → slice_get (c.state t).threads k ≡ Some th → IsInStack p th
  pub early : (t k : ℕ) (job : Job) (instr : Instr) → slice_get (begun c t).threads k ≡ Some (Ready job) → slice_get c.image.code job.place ≡ Some instr → job.done < ticks instr
  pub calm : (t : ℕ) → t < c.script.end_tick → (starts c.image c.script t (c.state t)).overrun ≡ false
  pub queued : (t : ℕ) → AreQueued (c.state t)
  pub still_queued : (t : ℕ) → AreQueued (begun c t)
  pub ranks : HasOwnRanks c.image
  pub order : AreInOrder c.script.lines
  pub fits : (t : ℕ) → t < c.script.end_tick → NextFits c.image t
  pub short : c.script.end_tick < 2 ^ 63
