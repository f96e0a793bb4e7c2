-- How long a process may still wait in its activation, and how often.
use Rattle.std.specs.Prelude.{◌≡◌, ◌≤◌, ◌+◌, ◌-◌, ◌⊎◌, ℕ, Bool, true, false, length, Option, Some, None, slice_get}
use Rattle.machine_semantics.specs.Image.{Image, Process, Script}
use Rattle.machine_semantics.specs.State.{Thread, Idle, Ready, Waiting, State}
use Rattle.machine_semantics.specs.Starts.{release, starts}
use Rattle.machine_semantics.specs.Tick.{owned_of, tick}
use Rattle.machine_semantics.specs.Walk.{Where, WalkCost}
use Rattle.machine_semantics.specs.Safe.{Parts, ImageFits}
use Rattle.machine_semantics.specs.Whole.{StateFits}
use Rattle.machine_semantics.specs.Work.{HasLeft, worst_of, IsBusy}

-- each process has one of the ranks from 1 to the number of processes, so its time-outs come
abbrev pub IsRanked : Image → Type 0
IsRanked image = (k : ℕ) (p : Process) → slice_get image.processes k ≡ Some p → (1 ≤ p.rank) × (p.rank ≤ length image.processes)

-- before tick t, the ticks in which the process may still wait: the rest of a wait that has begun,
-- and the waits to come
abbrev pub suspension_of : ℕ → Thread → WalkCost → ℕ
suspension_of t Idle left = 0
suspension_of t (Ready job) left = left.susp
suspension_of t (Waiting condition due number job) left = due - t + left.susp

-- the waits to come
abbrev pub waits_of : Thread → WalkCost → ℕ
waits_of Idle left = 0
waits_of (Ready job) left = left.waits
waits_of (Waiting condition due number job) left = left.waits

-- a time-out is not due before tick t
abbrev pub IsDueFrom : ℕ → Thread → Type 0
IsDueFrom t Idle = Unit {0}
IsDueFrom t (Ready job) = Unit {0}
IsDueFrom t (Waiting condition due number job) = t ≤ due

-- the process waits
abbrev pub is_waiting : Option Thread → Bool
is_waiting (Some (Waiting condition due number job)) = true
is_waiting (Some (Ready job)) = false
is_waiting (Some Idle) = false
is_waiting None = false

-- before tick t process k may still wait in at most n ticks of this activation, and begin at most w
-- waits
pub record Suspends (e : Where) (ps : ℕ → Parts) (s : State) (t k n w : ℕ) : Type 0 where
  pub p : Process
  pub thread : Thread
  pub left : WalkCost
  pub process : slice_get e.image.processes k ≡ Some p
  pub there : slice_get s.threads k ≡ Some thread
  pub has : HasLeft e p (ps k) thread (owned_of (slice_get s.owned k)) s.shared left
  pub due : IsDueFrom t thread
  pub suspension : suspension_of t thread left ≤ n
  pub waits : waits_of thread left ≤ w

-- what tick t does to that; during is the state after its start events, after the state after it
pub record Spends (e : Where) (ps : ℕ → Parts) (during after : State) (t k n w : ℕ) : Type 0 where
  -- a process that waits after the start events waits in the tick: it has one tick less
  pub waited : is_waiting (slice_get during.threads k) ≡ true → (m : ℕ) × (n ≡ m + 1) × Suspends e ps after (t + 1) k m w
  -- one that begins a wait in the tick has one wait less
  pub began : is_waiting (slice_get during.threads k) ≡ false → is_waiting (slice_get after.threads k) ≡ true → (v : ℕ) × (w ≡ v + 1) × Suspends e ps after (t + 1) k n v
  -- any other has no more
  pub ran : is_waiting (slice_get during.threads k) ≡ false → is_waiting (slice_get after.threads k) ≡ false → Suspends e ps after (t + 1) k n w

-- The law: what is left of the suspension of an unfinished process, and of its waits, falls so.
abbrev pub SuspensionFalls : Type 0
SuspensionFalls = (e : Where) (ps : ℕ → Parts) (script : Script) (t : ℕ) (s : State) (k n w : ℕ) → ImageFits e ps → IsRanked e.image → StateFits e ps s
    → (before : Suspends e ps s t k n w) → IsBusy before.thread → Spends e ps (starts e.image script t s).state (tick e.image script t s).state t k n w

-- The law: a process that is released may wait as long and as often as its body.
abbrev pub ReleaseSuspends : Type 0
ReleaseSuspends = (e : Where) (ps : ℕ → Parts) (t k : ℕ) (p : Process) (s : State) → ImageFits e ps → StateFits e ps s
    → slice_get e.image.processes k ≡ Some p → slice_get s.threads k ≡ Some Idle
    → Suspends e ps (release e.image t k p s).state t k (worst_of (ps k)).susp (worst_of (ps k)).waits

-- The law: a process that is idle before a tick is idle after it, or was released in it, and then
-- it may wait as its body may.
abbrev pub SuspensionBegins : Type 0
SuspensionBegins = (e : Where) (ps : ℕ → Parts) (script : Script) (t : ℕ) (s : State) (k : ℕ) → ImageFits e ps → IsRanked e.image → StateFits e ps s → slice_get s.threads k ≡ Some Idle
    → (slice_get (tick e.image script t s).state.threads k ≡ Some Idle)
    ⊎ Spends e ps (starts e.image script t s).state (tick e.image script t s).state t k (worst_of (ps k)).susp (worst_of (ps k)).waits
