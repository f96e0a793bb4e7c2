-- The start events in code.
use Rattle.std.specs.Prelude.{◌≡◌, ◌≢◌, ◌<◌, ◌≤◌, ◌+◌, ◌*◌, ◌^◌, ℕ, true, false, List, Option, Some, None, if◌then◌else◌, length, map, nat_eq, slice_get}
use Rattle.machine_semantics.specs.Image.{Image, Process, Script, Line, Sets, Occurs}
use Rattle.machine_semantics.specs.State.{Job, Waiting, State}
use Rattle.machine_semantics.specs.Starts.{Started, is_periodic_due, release, time_out, unchanged}
use Rattle.script.specs.declared.script.ScriptLine.{ScriptLine}
use Rattle.script.specs.declared.script.ScriptLine.TheVariants.{Set, Occur}
use Rattle.script.specs.declared.script.Script.{Script as Read}
use Rattle.vm_stretch.specs.Quiet.{line_tick}
use Rattle.vm_stretch.specs.StretchDue.{AreInOrder, first_tick, time_out_of}
use Rattle.vm_state.specs.Cells.{OthersStay}
use Rattle.vm_stretch.specs.StartLawsDue.{moved_on}
use Rattle.vm_stretch.specs.Steps.{release_of}

-- a line, and a script, as the machine's meaning has them
abbrev pub line_of : ScriptLine → Line
line_of (Set tick dev value) = Sets tick dev value
line_of (Occur tick event) = Occurs tick event

abbrev pub lines_of : List ScriptLine → List Line
lines_of = map line_of

abbrev pub script_of : Read → Script
script_of s = record { lines = lines_of s.lines; end_tick = s.end }

-- the first lines, so many, are of ticks before t, and the others are not, in order
pub record AreToCome (t done : ℕ) (lines : List Line) : Type 0 where
  pub within : done ≤ length lines
  pub order : AreInOrder lines
  pub past : (i : ℕ) (l : Line) → slice_get lines i ≡ Some l → i < done → line_tick l < t
  pub coming : (i : ℕ) (l : Line) → slice_get lines i ≡ Some l → done ≤ i → t ≤ line_tick l

-- each process that waits does so on a condition that has a queue
abbrev pub HaveQueues : State → Type 0
HaveQueues s = (k c due e : ℕ) (job : Job) → slice_get s.threads k ≡ Some (Waiting c due e job) → c < length s.queues

-- a frame after tick t is a tick that 64 bits hold
abbrev pub NextFits : Image → ℕ → Type 0
NextFits image t = (k : ℕ) (p : Process) → slice_get image.processes k ≡ Some p → p.kind ≡ 0 → t + p.frame < 2 ^ 64

-- the release of process k
abbrev pub release_at : Image → ℕ → ℕ → State → Started
release_at image t k s = release_of image t k (slice_get image.processes k) s

-- the release of a process by the clock, if it is due
abbrev pub clock_of : Image → ℕ → ℕ → Option Process → State → Started
clock_of image t k None s = unchanged s
clock_of image t k (Some p) s = if is_periodic_due t p then release image t k p s else unchanged s

-- that of process k
abbrev pub clock_at : Image → ℕ → ℕ → State → Started
clock_at image t k s = clock_of image t k (slice_get image.processes k) s

-- the time-out of a process, if it is due
abbrev pub expiry_of : Image → ℕ → ℕ → Option Process → State → Started
expiry_of image t k None s = unchanged s
expiry_of image t k (Some p) s = time_out image t k p s (slice_get s.threads k)

-- that of process k
abbrev pub expiry_at : Image → ℕ → ℕ → State → Started
expiry_at image t k s = expiry_of image t k (slice_get image.processes k) s

-- the slot of process k tells whether the clock brings it at tick t
abbrev pub TellAt : Image → ℕ → ℕ → List (Option ℕ) → Type 0
TellAt image t k slots = (p : Process) (tick : Option ℕ) → slice_get image.processes k ≡ Some p → slice_get slots k ≡ Some tick → (tick ≡ Some t → is_periodic_due t p ≡ true) × (tick ≢ Some t → is_periodic_due t p ≡ false)

-- the slots of all do
abbrev pub TellReleases : Image → ℕ → List (Option ℕ) → Type 0
TellReleases image t slots = (k : ℕ) → TellAt image t k slots

-- the slot of process k has been moved on, and the others are as they were
pub record MovedAt (image : Image) (t k : ℕ) (slots slots' : List (Option ℕ)) : Type 0 where
  pub count : length slots' ≡ length slots
  pub moved : (p : Process) (tick : Option ℕ) → slice_get image.processes k ≡ Some p → slice_get slots k ≡ Some tick → slice_get slots' k ≡ Some (moved_on t (Some (t + p.frame)) tick)
  pub others : OthersStay k slots slots'

-- the slots of the first n processes have been moved on, and the others are as they were
pub record MovedBelow (image : Image) (t n : ℕ) (slots slots' : List (Option ℕ)) : Type 0 where
  pub count : length slots' ≡ length slots
  pub moved : (k : ℕ) (p : Process) (tick : Option ℕ) → k < n → slice_get image.processes k ≡ Some p → slice_get slots k ≡ Some tick → slice_get slots' k ≡ Some (moved_on t (Some (t + p.frame)) tick)
  pub others : (k : ℕ) → n ≤ k → slice_get slots' k ≡ slice_get slots k

-- only slots of time-outs have changed
pub record WaitsAlone (n : ℕ) (slots slots' : List (Option ℕ)) : Type 0 where
  pub count : length slots' ≡ length slots
  pub releases : (k : ℕ) → k < n → slice_get slots' k ≡ slice_get slots k
  pub line : slice_get slots' (2 * n) ≡ slice_get slots (2 * n)

-- each is the number of one of n processes
abbrev pub AreBelow : ℕ → List ℕ → Type 0
AreBelow n ks = (i k : ℕ) → slice_get ks i ≡ Some k → k < n

-- the wait of process k times out at tick t
abbrev pub IsExpired : ℕ → ℕ → State → Type 0
IsExpired t k s = time_out_of (slice_get s.threads k) ≡ Some t

-- the tick of the first release of a process by the clock
abbrev pub first_release : Process → Option ℕ
first_release p = if nat_eq p.kind 0 then Some p.first else None

-- before the first tick: first releases, no time-out, and the first line
pub record AreFirst (image : Image) (lines : List Line) (slots : List (Option ℕ)) : Type 0 where
  pub count : length slots ≡ 2 * length image.processes + 1
  pub releases : (k : ℕ) (p : Process) → slice_get image.processes k ≡ Some p → slice_get slots k ≡ Some (first_release p)
  pub waits : (k : ℕ) → k < length image.processes → slice_get slots (length image.processes + k) ≡ Some None
  pub line : slice_get slots (2 * length image.processes) ≡ Some (first_tick lines)
