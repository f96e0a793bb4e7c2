-- The whole state: what every tick of a valid image keeps.
use Rattle.std.specs.Prelude.{◌≡◌, ◌≤◌, ◌<◌, ◌⊎◌, ℕ, false, ℤ, List, length, Option, Some, None, slice_get}
use Rattle.machine_semantics.specs.Image.{Image, Process, Script}
use Rattle.machine_semantics.specs.State.{Job, Thread, Idle, Ready, Waiting, State, stack_of}
use Rattle.machine_semantics.specs.Tick.{ceiling, owned_of, tick}
use Rattle.machine_semantics.specs.Run.{state_at}
use Rattle.machine_semantics.specs.Part.{IsSized}
use Rattle.machine_semantics.specs.Walk.{Where, WalkCost}
use Rattle.machine_semantics.specs.Safe.{Parts, ImageFits, ReadyFits, WaitingFits}

-- an idle process has its words; any other fits its trees
abbrev pub ThreadFits : Where → Process → Parts → Thread → (owned shared : List ℤ) → Type 0
ThreadFits e p ps Idle owned shared = p.words ≤ length owned
ThreadFits e p ps (Ready job) owned shared = (left : WalkCost) × ReadyFits e p ps job owned shared left
ThreadFits e p ps (Waiting condition due number job) owned shared = (left : WalkCost) × WaitingFits e p ps job owned shared left

-- the ceiling of a monitor, by its number
abbrev pub ceiling_of : Image → ℕ → ℕ
ceiling_of image m = ceiling (slice_get image.monitors m)

-- process k is ready and inside monitor m
pub record IsInside (image : Image) (threads : List Thread) (k m : ℕ) (p : Process) : Type 0 where
  pub process : slice_get image.processes k ≡ Some p
  pub job : Job
  pub ready : slice_get threads k ≡ Some (Ready job)
  pub inside : job.inside ≡ Some m

-- of two processes that are inside monitors one has a rank below, as a number, the ceiling of the
-- other's monitor
abbrev pub Apart : Image → List Thread → Type 0
Apart image threads = (j k m n : ℕ) (p q : Process) → (j ≡ k → ⊥) → IsInside image threads j m p → IsInside image threads k n q
    → (p.rank < ceiling_of image n) ⊎ (q.rank < ceiling_of image m)

-- the monitor that a process that stands so is inside, if it is inside one
abbrev pub held_by : Thread → Option ℕ
held_by Idle = None
held_by (Ready job) = job.inside
held_by (Waiting condition due number job) = job.inside

-- a process that is inside a monitor is ready: it is not idle, and does not wait
abbrev pub InsideIsReady : List Thread → Type 0
InsideIsReady threads = (k m : ℕ) (thread : Thread) → slice_get threads k ≡ Some thread → held_by thread ≡ Some m → (job : Job) × (thread ≡ Ready job)

-- The invariant: what each tick keeps. Each process fits its trees, and the ceilings keep processes
-- apart. Who waits is inside no monitor, so whoever is inside one is ready.
pub record StateFits (e : Where) (ps : ℕ → Parts) (s : State) : Type 0 where
  pub sized : IsSized e.image s s.shared
  pub many : length s.threads ≡ length e.image.processes
  pub threads : (k : ℕ) (p : Process) (t : Thread) → slice_get e.image.processes k ≡ Some p → slice_get s.threads k ≡ Some t
      → ThreadFits e p (ps k) t (owned_of (slice_get s.owned k)) s.shared
  pub apart : Apart e.image s.threads

-- the words of the stack of an activation are within those that its process declares
abbrev pub StackFits : Process → Thread → Type 0
StackFits p Idle = Unit {0}
StackFits p (Ready job) = stack_of job ≤ p.stack
StackFits p (Waiting condition due number job) = stack_of job ≤ p.stack

-- no release finds its process unfinished
abbrev pub HasNoOverrun : Image → Script → Type 0
HasNoOverrun image script = (t : ℕ) → t < script.end_tick → (tick image script t (state_at image script t)).overrun ≡ false

-- The law: a tick of a valid image is not stuck, and keeps the state so.
abbrev pub EveryTickIsSafe : Type 0
EveryTickIsSafe = (e : Where) (ps : ℕ → Parts) (script : Script) (t : ℕ) (s : State) → ImageFits e ps → StateFits e ps s
    → ((tick e.image script t s).stuck ≡ false) × StateFits e ps (tick e.image script t s).state

-- The law: in a whole run of a valid image, before each tick, the state fits.
abbrev pub RunFits : Type 0
RunFits = (e : Where) (ps : ℕ → Parts) (script : Script) (t : ℕ) → ImageFits e ps → StateFits e ps (state_at e.image script t)

-- The law: in a whole run of a valid image no tick is stuck, each process is within its stack, the
-- ceilings keep the processes that are inside monitors apart, and each of these is ready.
abbrev pub EveryRunIsSafe : Type 0
EveryRunIsSafe = (e : Where) (ps : ℕ → Parts) (script : Script) (t : ℕ) → ImageFits e ps
    → ((tick e.image script t (state_at e.image script t)).stuck ≡ false)
    × ((k : ℕ) (p : Process) (th : Thread) → slice_get e.image.processes k ≡ Some p → slice_get (state_at e.image script t).threads k ≡ Some th → StackFits p th)
    × Apart e.image (state_at e.image script t).threads
    × InsideIsReady (state_at e.image script t).threads

-- each process keeps as many words as it declares
abbrev pub WordsFit : Image → State → Type 0
WordsFit image s = (k : ℕ) (p : Process) → slice_get image.processes k ≡ Some p → length (owned_of (slice_get s.owned k)) ≡ p.words

-- The law: in a whole run of a valid image each process keeps as many words as it declares.
abbrev pub RunKeepsWords : Type 0
RunKeepsWords = (e : Where) (ps : ℕ → Parts) (script : Script) (t : ℕ) → ImageFits e ps → WordsFit e.image (state_at e.image script t)
