-- Who waits on a condition stands in its queue, once, and nobody else does.
use Rattle.std.specs.Prelude.{◌≡◌, ℕ, suc, List, [], ◌∷◌, Option, Some, None, if◌then◌else◌, slice_get, nat_eq}
use Rattle.machine_semantics.specs.Image.{Script}
use Rattle.machine_semantics.specs.State.{Thread, Idle, Ready, Waiting, State}
use Rattle.machine_semantics.specs.Starts.{queue_of, starts}
use Rattle.machine_semantics.specs.Tick.{tick}
use Rattle.machine_semantics.specs.Run.{state_at}
use Rattle.machine_semantics.specs.Walk.{Where}
use Rattle.machine_semantics.specs.Safe.{Parts, ImageFits}
use Rattle.machine_semantics.specs.Whole.{StateFits}

-- how often process k stands in a queue
abbrev pub times : ℕ → List ℕ → ℕ
times k [] = 0
times k (j ∷ js) = if nat_eq j k then suc (times k js) else times k js

-- 1 where the process waits on condition c, else 0
abbrev pub waits_on : ℕ → Option Thread → ℕ
waits_on c (Some (Waiting condition due number job)) = if nat_eq condition c then 1 else 0
waits_on c (Some (Ready job)) = 0
waits_on c (Some Idle) = 0
waits_on c None = 0

-- process k stands in the queue of condition c once if it waits on c, and not at all if it does not
abbrev pub QueuesFit : List Thread → List (List ℕ) → Type 0
QueuesFit threads queues = (c k : ℕ) → times k (queue_of queues c) ≡ waits_on c (slice_get threads k)

-- the queues of the state hold those who wait
abbrev pub AreQueued : State → Type 0
AreQueued s = QueuesFit s.threads s.queues

-- The law: a tick of a valid image keeps the queues so, and so do its start events.
abbrev pub TickKeepsQueues : Type 0
TickKeepsQueues = (e : Where) (ps : ℕ → Parts) (script : Script) (t : ℕ) (s : State) → ImageFits e ps → StateFits e ps s → AreQueued s
    → AreQueued (starts e.image script t s).state × AreQueued (tick e.image script t s).state

-- The law: in a whole run of a valid image the queues are so before every tick.
abbrev pub RunKeepsQueues : Type 0
RunKeepsQueues = (e : Where) (ps : ℕ → Parts) (script : Script) (t : ℕ) → ImageFits e ps → AreQueued (state_at e.image script t)
