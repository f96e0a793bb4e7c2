-- A valid image, as far as its activations end in time; and the law.
use Rattle.std.specs.Prelude.{◌≡◌, ◌≤◌, ◌<◌, ◌+◌, ◌-◌, ◌⊎◌, ℕ, Bool, true, false, List, Contains, Some, length, slice_get}
use Rattle.base.specs.declared.event.Event.{Event}
use Rattle.base.specs.declared.event.Act.TheVariants as act
use Rattle.base.specs.Capped.{cap}
use Rattle.sched_response.specs.Demand.{IsTask, Solves}
use Rattle.machine_semantics.specs.Image.{Image, Monitor, Process, Script, Occurs}
use Rattle.machine_semantics.specs.Tick.{tick}
use Rattle.machine_semantics.specs.State.{State}
use Rattle.machine_semantics.specs.Run.{state_at, events}
use Rattle.source_semantics.specs.Source.{EndsWithin}
use Rattle.machine_semantics.specs.Walk.{Where, WalkCost}
use Rattle.machine_semantics.specs.Safe.{Parts, ImageFits, part_of}
use Rattle.machine_semantics.specs.Work.{worst_of, activation}
use Rattle.machine_semantics.specs.Waits.{IsRanked}
use Rattle.valid_image.specs.Tasks.{task_of, tasks_of}
use Rattle.sched_timing.specs.Views.{during, is_due, is_idle}

-- ---- the premise

-- the declared numbers of a process cover what an activation takes, where numbers above the limit
-- count as one above it
pub record IsCovered (over : ℕ) (c : WalkCost) (p : Process) : Type 0 where
  pub run : cap (activation over c) ≤ p.run
  pub susp : cap c.susp ≤ p.susp
  pub waits : cap c.waits ≤ p.waits

-- The premise: what a valid image is, as far as its activations end in time.
pub record ImageIsTimed (e : Where) (ps : ℕ → Parts) : Type 0 where
  -- there are 1 to 64 processes, with frames, deadlines and declared numbers in their limits
  pub some : 0 < length e.image.processes
  pub few : length e.image.processes ≤ 64
  pub limits : (k : ℕ) (p : Process) → slice_get e.image.processes k ≡ Some p → IsTask (task_of (Some p))
  -- each process has one of the ranks from 1 to their number, and no two have the same
  pub ranked : IsRanked e.image
  pub one_each : (j k : ℕ) (p q : Process) → slice_get e.image.processes j ≡ Some p → slice_get e.image.processes k ≡ Some q → p.rank ≡ q.rank → j ≡ k
  -- the declared costs cover what an activation takes
  pub covered : (k : ℕ) (p : Process) → slice_get e.image.processes k ≡ Some p → IsCovered e.image.over (worst_of (ps k)) p
  -- the declared block covers each stay of a process that ranks below, in a monitor whose ceiling
  -- is the rank or a higher one
  pub blocks : (j k m : ℕ) (p q : Process) (monitor : Monitor) (h : Bool)
      → slice_get e.image.processes j ≡ Some p → slice_get e.image.processes k ≡ Some q → slice_get e.image.monitors m ≡ Some monitor
      → p.rank < q.rank → monitor.ceiling ≤ p.rank → cap ((part_of (ps k) h).stays m) ≤ p.block
  -- the declared bound solves the recurrence within the deadline
  pub solved : (k : ℕ) (p : Process) → slice_get e.image.processes k ≡ Some p → Solves (tasks_of e.image) (p.rank - 1) p.bound

-- ---- the script

-- two occurrences of an event stand at least the frame of its process apart
abbrev pub RespectsFrames : Image → Script → Type 0
RespectsFrames image script = (k : ℕ) (p : Process) → slice_get image.processes k ≡ Some p → p.kind ≡ 1
    → (i j t u : ℕ) → (i ≡ j → ⊥) → slice_get script.lines i ≡ Some (Occurs t p.event) → slice_get script.lines j ≡ Some (Occurs u p.event)
    → (t + p.frame ≤ u) ⊎ (u + p.frame ≤ t)

-- ---- the law

-- the events of a tick of the run
abbrev pub told_at : Image → Script → ℕ → List Event
told_at image script t = (tick image script t (state_at image script t)).events

-- the release of process k at the tick is told, and within so many ticks, of which the first is
-- that of the release, the end
pub record ReleasedAndEnds (image : Image) (script : Script) (k release bound : ℕ) : Type 0 where
  pub begins : Contains (told_at image script release) (record { tick = release; proc = k; act = act.Release })
  pub tick : ℕ
  pub since : release ≤ tick
  pub soon : tick < release + bound
  pub ends : Contains (told_at image script tick) (record { tick = tick; proc = k; act = act.End })

-- no process of the rank or a higher one, or some such, has an activation
abbrev pub NoneUnfinished : Image → ℕ → State → Type 0
NoneUnfinished image rank s = (k : ℕ) (p : Process) → slice_get image.processes k ≡ Some p → p.rank ≤ rank → is_idle (slice_get s.threads k) ≡ true

abbrev pub SomeUnfinished : Image → ℕ → State → Type 0
SomeUnfinished image rank s = (k : ℕ) × (p : Process) × (slice_get image.processes k ≡ Some p) × (p.rank ≤ rank) × (is_idle (slice_get s.threads k) ≡ false)

-- so many ticks from a start are of one stretch of the rank: before the start events of the first
-- nobody of the rank or a higher one is unfinished, after them somebody is, and so it is before
-- those of each later one
pub record IsStretch (image : Image) (script : Script) (rank start ticks : ℕ) : Type 0 where
  pub some : 0 < ticks
  pub clear : NoneUnfinished image rank (state_at image script start)
  pub busy : SomeUnfinished image rank (during image script start)
  pub goes_on : (i : ℕ) → 0 < i → i < ticks → SomeUnfinished image rank (state_at image script (start + i))

-- a run is in time
pub record IsInTime (image : Image) (script : Script) : Type 0 where
  -- each declared bound is within the deadline of its process, and that within the frame
  pub bounds : (k : ℕ) (p : Process) → slice_get image.processes k ≡ Some p
      → (p.bound ≤ p.deadline) × (p.deadline ≤ p.frame)
  -- no release finds its process unfinished
  pub no_overrun : (t : ℕ) → t < script.end_tick → (tick image script t (state_at image script t)).overrun ≡ false
  -- no stretch of a rank is longer than the declared bound of its process
  pub stretches : (k : ℕ) (p : Process) (start ticks : ℕ) → slice_get image.processes k ≡ Some p → IsStretch image script p.rank start ticks → start + ticks ≤ script.end_tick → ticks ≤ p.bound
  -- each activation whose release is due begins, and ends within the declared bound, where that is
  -- not past the end
  pub ends : (k : ℕ) (p : Process) (t : ℕ) → slice_get image.processes k ≡ Some p → is_due script t p ≡ true → t + p.bound ≤ script.end_tick → ReleasedAndEnds image script k t p.bound
  -- and so it is in the log: each release is followed by an end of the process within its declared
  -- bound, where that is not past the end
  pub log : (k : ℕ) (p : Process) → slice_get image.processes k ≡ Some p → EndsWithin k p.bound script.end_tick (events image script)

-- The law: each run of a valid image whose script respects the frames is in time.
abbrev pub EveryRunIsInTime : Type 0
EveryRunIsInTime = (e : Where) (ps : ℕ → Parts) (script : Script) → ImageFits e ps → ImageIsTimed e ps → RespectsFrames e.image script → IsInTime e.image script
