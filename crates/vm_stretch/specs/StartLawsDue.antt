-- Slots before the start events of a tick and after them.
use Rattle.std.specs.Prelude.{◌≡◌, ◌≤◌, ◌<◌, ◌+◌, ◌*◌, ℕ, true, false, List, Option, Some, None, length, slice_get, drop, nat_eq, if◌then◌else◌}
use Rattle.machine_semantics.specs.Image.{Image, Process, Script, Line}
use Rattle.machine_semantics.specs.State.{Thread, State}
use Rattle.machine_semantics.specs.Starts.{is_periodic_due}
use Rattle.vm_stretch.specs.Quiet.{line_tick}
use Rattle.vm_stretch.specs.StretchDue.{AreInOrder, NoneBefore, first_tick, time_out_of}

-- the tick is the first from t on at which the process is released; none where it never is
abbrev pub IsReleaseFrom : ℕ → Process → Option ℕ → Type 0
IsReleaseFrom t p (Some r) = (is_periodic_due r p ≡ true) × (t ≤ r) × ((u : ℕ) → t ≤ u → u < r → is_periodic_due u p ≡ false)
IsReleaseFrom t p None = (u : ℕ) → t ≤ u → is_periodic_due u p ≡ false

-- before the start events of tick t: slot k has the release of process k that comes next, t counted
-- in, slot n + k its time-out, and slot 2 n the next line, of which so many are done, all before t;
-- nothing is late
pub record HasDue (image : Image) (script : Script) (t done : ℕ) (s : State) (slots : List (Option ℕ)) : Type 0 where
  pub count : length slots ≡ 2 * length image.processes + 1
  pub releases : (k : ℕ) (p : Process) (tick : Option ℕ) → slice_get image.processes k ≡ Some p → slice_get slots k ≡ Some tick → IsReleaseFrom t p tick
  pub waits : (k : ℕ) (tick : Option ℕ) → k < length image.processes → slice_get slots (length image.processes + k) ≡ Some tick → tick ≡ time_out_of (slice_get s.threads k)
  pub line : slice_get slots (2 * length image.processes) ≡ Some (first_tick (drop done script.lines))
  pub order : AreInOrder script.lines
  pub past : (i : ℕ) (l : Line) → slice_get script.lines i ≡ Some l → i < done → line_tick l < t
  pub threads : (k : ℕ) (x : Thread) → slice_get s.threads k ≡ Some x → k < length image.processes
  pub none_late : NoneBefore t slots

-- what a slot has once what was due in it at tick t is done: the next tick if it was due, else what
-- it had
abbrev pub moved_on : ℕ → Option ℕ → Option ℕ → Option ℕ
moved_on t next None = None
moved_on t next (Some r) = if nat_eq r t then next else Some r

-- each slot has been moved on, of a release to a frame later, of a time-out to none, and the slot
-- of the lines to the first that is not done
pub record AreMoved (image : Image) (script : Script) (t done : ℕ) (slots slots' : List (Option ℕ)) : Type 0 where
  pub count : length slots' ≡ length slots
  pub releases : (k : ℕ) (p : Process) (tick : Option ℕ) → slice_get image.processes k ≡ Some p → slice_get slots k ≡ Some tick → slice_get slots' k ≡ Some (moved_on t (Some (t + p.frame)) tick)
  pub waits : (k : ℕ) (tick : Option ℕ) → k < length image.processes → slice_get slots (length image.processes + k) ≡ Some tick → slice_get slots' (length image.processes + k) ≡ Some (moved_on t None tick)
  pub line : slice_get slots' (2 * length image.processes) ≡ Some (first_tick (drop done script.lines))

-- the lines up to tick t are done, and no other
pub record AreDone (t done : ℕ) (lines : List Line) : Type 0 where
  pub past : (i : ℕ) (l : Line) → slice_get lines i ≡ Some l → i < done → line_tick l ≤ t
  pub coming : (i : ℕ) (l : Line) → slice_get lines i ≡ Some l → done ≤ i → t < line_tick l

-- each process that is released by the clock has a frame
abbrev pub HasFrames : Image → Type 0
HasFrames image = (k : ℕ) (p : Process) → slice_get image.processes k ≡ Some p → p.kind ≡ 0 → 0 < p.frame

-- each process has a rank of its own, from 1 to the number of processes
pub record HasOwnRanks (image : Image) : Type 0 where
  pub from : (k : ℕ) (p : Process) → slice_get image.processes k ≡ Some p → 0 < p.rank
  pub to : (k : ℕ) (p : Process) → slice_get image.processes k ≡ Some p → p.rank ≤ length image.processes
  pub own : (j k : ℕ) (p q : Process) → slice_get image.processes j ≡ Some p → slice_get image.processes k ≡ Some q → p.rank ≡ q.rank → j ≡ k
