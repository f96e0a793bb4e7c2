-- When things are due, by slot, and runs that jump from one due tick to the next.
use Rattle.std.specs.Prelude.{◌≡◌, ◌≢◌, ◌≤◌, ◌<◌, ◌+◌, ◌*◌, ◌++◌, ℕ, zero, suc, true, false, List, [], ◌∷◌, Option, Some, None, length, slice_get, drop}
use Rattle.base.specs.declared.event.Event.{Event}
use Rattle.machine_semantics.specs.Image.{Image, Process, Script, Line}
use Rattle.machine_semantics.specs.State.{Job, Thread, Waiting, State}
use Rattle.machine_semantics.specs.Starts.{is_periodic_due, starts}
use Rattle.machine_semantics.specs.Run.{at_start, events}
use Rattle.vm_stretch.specs.Quiet.{IsQuiet, AreQuiet, line_tick}
use Rattle.vm_stretch.specs.StretchLaws.{IsTurn, turn, turned, turn_events}

-- the tick is the next after t at which the process is released; none where it never is
abbrev pub IsNextRelease : ℕ → Process → Option ℕ → Type 0
IsNextRelease t p (Some r) = (is_periodic_due r p ≡ true) × (t < r) × ((u : ℕ) → t < u → u < r → is_periodic_due u p ≡ false)
IsNextRelease t p None = (u : ℕ) → t < u → is_periodic_due u p ≡ false

-- the tick at which the process's wait times out, if it waits
abbrev pub time_out_of : Option Thread → Option ℕ
time_out_of (Some (Waiting c due e job)) = Some due
time_out_of thread = None

-- the tick of the first line, if there is one
abbrev pub first_tick : List Line → Option ℕ
first_tick [] = None
first_tick (l ∷ ls) = Some (line_tick l)

abbrev pub AreInOrder : List Line → Type 0
AreInOrder ls = (i j : ℕ) (l m : Line) → slice_get ls i ≡ Some l → slice_get ls j ≡ Some m → i ≤ j → line_tick l ≤ line_tick m

-- after the start events of tick t: slot p has the next release of process p, slot n + p its
-- time-out, and slot 2 n the next line, of which so many are done
pub record HasSlots (image : Image) (script : Script) (t done : ℕ) (s : State) (slots : List (Option ℕ)) : Type 0 where
  pub count : length slots ≡ 2 * length image.processes + 1
  pub releases : (k : ℕ) (p : Process) (tick : Option ℕ) → slice_get image.processes k ≡ Some p → slice_get slots k ≡ Some tick → IsNextRelease t p tick
  pub waits : (k : ℕ) (tick : Option ℕ) → k < length image.processes → slice_get slots (length image.processes + k) ≡ Some tick → tick ≡ time_out_of (slice_get s.threads k)
  pub line : slice_get slots (2 * length image.processes) ≡ Some (first_tick (drop done script.lines))
  pub order : AreInOrder script.lines
  pub past : (i : ℕ) (l : Line) → slice_get script.lines i ≡ Some l → i < done → line_tick l ≤ t
  pub threads : (k : ℕ) (x : Thread) → slice_get s.threads k ≡ Some x → k < length image.processes

-- no slot is due before tick v
abbrev pub NoneBefore : ℕ → List (Option ℕ) → Type 0
NoneBefore v slots = (i r : ℕ) → slice_get slots i ≡ Some (Some r) → v ≤ r

-- The law: between tick t and the least of the slots nothing starts.
abbrev pub SlotsAreQuiet : Type 0
SlotsAreQuiet = (image : Image) (script : Script) (t n done : ℕ) (s : State) (slots : List (Option ℕ)) → HasSlots image script t done s slots → NoneBefore (t + n) slots → AreQuiet image script t n s

-- The law: where a release is due, the next of the process is a frame later, and none is between.
abbrev pub NextIsAFrameLater : Type 0
NextIsAFrameLater = (t : ℕ) (p : Process) → 0 < p.frame → is_periodic_due t p ≡ true → IsNextRelease t p (Some (t + p.frame))

-- a row of turns from tick t to the script's end, with their events; none of them is stuck
pub data ByTurns (image : Image) (script : Script) : ℕ → State → List Event → Type 0 where
  Ends : (s : State) → ByTurns image script script.end_tick s []
  Turns : (t n : ℕ) (s : State) (es : List Event) → IsTurn image script t n s → t + n ≤ script.end_tick → (turn image script t n s).stuck ≡ false → ByTurns image script (t + n) (turned image script t n s) es
      → ByTurns image script t s (turn_events image script t n s ++ es)

-- The law: turns from the start to the end, however long each of them is, have the events of the
-- run.
abbrev pub TurnsAreTheRun : Type 0
TurnsAreTheRun = (image : Image) (script : Script) (es : List Event) → ByTurns image script 0 (at_start image) es → es ≡ events image script
