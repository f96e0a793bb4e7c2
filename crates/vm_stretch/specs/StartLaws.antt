-- What the slots tell of the start events of a tick, and that they are right again after them.
use Rattle.std.specs.Prelude.{◌+◌, ◌≡◌, ◌≢◌, ◌≤◌, ◌<◌, ℕ, true, false, List, Option, Some, length, slice_get, slice_set}
use Rattle.machine_semantics.specs.Image.{Image, Process, Script}
use Rattle.machine_semantics.specs.State.{State, Thread}
use Rattle.machine_semantics.specs.Starts.{is_periodic_due, starts}
use Rattle.vm_stretch.specs.StretchDue.{HasSlots, NoneBefore, time_out_of}
use Rattle.vm_stretch.specs.StartLawsDue.{AreDone, AreMoved, HasDue, HasFrames, HasOwnRanks}

-- The law: up to the least of the slots they are right before each tick.
abbrev pub SlotsAreDue : Type 0
SlotsAreDue = (image : Image) (script : Script) (t v done : ℕ) (s : State) (slots : List (Option ℕ)) → HasSlots image script t done s slots → t < v → NoneBefore v slots → HasDue image script v done s slots

-- The law: the clock releases exactly those processes whose slot is due.
abbrev pub DueAreReleased : Type 0
DueAreReleased = (image : Image) (script : Script) (t done k : ℕ) (s : State) (slots : List (Option ℕ)) (p : Process) (tick : Option ℕ) → HasDue image script t done s slots → slice_get image.processes k ≡ Some p → slice_get slots k ≡ Some tick
    → (tick ≡ Some t → is_periodic_due t p ≡ true) × (tick ≢ Some t → is_periodic_due t p ≡ false)

-- The law: once what was due is moved on, the slots are right after the start events.
abbrev pub MovedAreSlots : Type 0
MovedAreSlots = (image : Image) (script : Script) (t done done' : ℕ) (s : State) (slots slots' : List (Option ℕ)) → HasFrames image → HasOwnRanks image → HasDue image script t done s slots → AreMoved image script t done' slots slots' → AreDone t done' script.lines
    → HasSlots image script t done' (starts image script t s).state slots'

-- The law: no more start events fall than there are processes.
abbrev pub StartsAreFew : Type 0
StartsAreFew = (image : Image) (script : Script) (t : ℕ) (s : State) → length (starts image script t s).events ≤ length s.threads

-- The law: as a process begins to wait, or waits no more, its slot alone is set, and the slots are
-- right again.
abbrev pub WaitKeepsSlots : Type 0
WaitKeepsSlots = (image : Image) (script : Script) (t done k : ℕ) (s s' : State) (slots : List (Option ℕ)) → HasSlots image script t done s slots → k < length image.processes
    → ((j : ℕ) → j ≢ k → time_out_of (slice_get s'.threads j) ≡ time_out_of (slice_get s.threads j)) → ((j : ℕ) (x : Thread) → slice_get s'.threads j ≡ Some x → j < length image.processes)
    → HasSlots image script t done s' (slice_set slots (length image.processes + k) (time_out_of (slice_get s'.threads k)))
