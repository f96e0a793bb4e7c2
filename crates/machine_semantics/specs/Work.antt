-- How long a process may still run in its activation, with the ticks of dispatch.
use Rattle.std.specs.Prelude.{◌≡◌, ◌≤◌, ◌+◌, ◌*◌, ◌⊎◌, ℕ, Bool, true, false, ℤ, List, Option, Some, None, slice_get, nat_eq}
use Rattle.machine_semantics.specs.Image.{Image, Process, Script}
use Rattle.machine_semantics.specs.State.{Thread, Idle, Ready, Waiting, State}
use Rattle.machine_semantics.specs.Starts.{release, starts}
use Rattle.machine_semantics.specs.Tick.{Candidate, pick, owned_of, tick}
use Rattle.machine_semantics.specs.Walk.{Where, WalkCost}
use Rattle.machine_semantics.specs.Safe.{Parts, ImageFits, ReadyFits, WaitingFits}
use Rattle.machine_semantics.specs.Whole.{StateFits}

-- the ticks that are left; each wait to come burns two dispatches more, and so does one that has
-- begun
abbrev pub work_of : ℕ → Thread → WalkCost → ℕ
work_of over Idle left = 0
work_of over (Ready job) left = left.run + job.dispatch_ticks + 2 * over * left.waits
work_of over (Waiting condition due number job) left = left.run + 2 * over * (left.waits + 1)

-- the process fits its trees with so much left to do
abbrev pub HasLeft : Where → Process → Parts → Thread → (owned shared : List ℤ) → WalkCost → Type 0
HasLeft e p ps Idle owned shared left = Unit {0}
HasLeft e p ps (Ready job) owned shared left = ReadyFits e p ps job owned shared left
HasLeft e p ps (Waiting condition due number job) owned shared left = WaitingFits e p ps job owned shared left

-- process k may still run for at most n ticks in this activation
pub record Owes (e : Where) (ps : ℕ → Parts) (s : State) (k n : ℕ) : Type 0 where
  pub p : Process
  pub thread : Thread
  pub left : WalkCost
  pub process : slice_get e.image.processes k ≡ Some p
  pub there : slice_get s.threads k ≡ Some thread
  pub has : HasLeft e p (ps k) thread (owned_of (slice_get s.owned k)) s.shared left
  pub work : work_of e.image.over thread left ≤ n

-- the cost of a whole activation: body, handler and END
abbrev pub worst_of : Parts → WalkCost
worst_of ps = record {
  run = ps.body_cost.run + ps.handler_cost.run + 4;
  susp = ps.body_cost.susp;
  waits = ps.body_cost.waits;
  leave = ps.body_cost.leave + ps.handler_cost.leave + 4;
}

-- with the burn ticks of its release and of each wait
abbrev pub activation : ℕ → WalkCost → ℕ
activation over c = c.run + 2 * over * (1 + c.waits)

-- the process is not idle
abbrev pub IsBusy : Thread → Type 0
IsBusy Idle = ⊥
IsBusy (Ready job) = Unit {0}
IsBusy (Waiting condition due number job) = Unit {0}

-- the process that was picked is process k
abbrev pub is_chosen : ℕ → Option Candidate → Bool
is_chosen k None = false
is_chosen k (Some c) = nat_eq c.place k

-- process k runs in the tick
abbrev pub runs : Image → Script → ℕ → State → ℕ → Bool
runs image script t s k = is_chosen k (pick image (starts image script t s).state.threads)

-- a process that may still run for n ticks and runs in tick t may run for one tick less after it,
-- any other for no more
abbrev pub Works : Where → (ℕ → Parts) → Script → (t : ℕ) → State → (k n : ℕ) → Type 0
Works e ps script t s k n =
    (runs e.image script t s k ≡ true → (m : ℕ) × (n ≡ m + 1) × Owes e ps (tick e.image script t s).state k m)
    × (runs e.image script t s k ≡ false → Owes e ps (tick e.image script t s).state k n)

-- The law: in a tick that it runs in, a process that is not idle owes one tick less after it; in
-- any other no more.
abbrev pub WorkFalls : Type 0
WorkFalls = (e : Where) (ps : ℕ → Parts) (script : Script) (t : ℕ) (s : State) (k n : ℕ) → ImageFits e ps → StateFits e ps s → (owes : Owes e ps s k n) → IsBusy owes.thread
    → Works e ps script t s k n

-- The law: a process that is idle before a tick is idle after it, or was released in it, and then
-- it owed a whole activation.
abbrev pub WorkBegins : Type 0
WorkBegins = (e : Where) (ps : ℕ → Parts) (script : Script) (t : ℕ) (s : State) (k : ℕ) → ImageFits e ps → StateFits e ps s → slice_get s.threads k ≡ Some Idle
    → (slice_get (tick e.image script t s).state.threads k ≡ Some Idle) ⊎ Works e ps script t s k (activation e.image.over (worst_of (ps k)))

-- The law: right after its release a process owes a whole activation.
abbrev pub ReleaseOwes : Type 0
ReleaseOwes = (e : Where) (ps : ℕ → Parts) (t k : ℕ) (p : Process) (s : State) → ImageFits e ps → StateFits e ps s
    → slice_get e.image.processes k ≡ Some p → slice_get s.threads k ≡ Some Idle
    → Owes e ps (release e.image t k p s).state k (activation e.image.over (worst_of (ps k)))
