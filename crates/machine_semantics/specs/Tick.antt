-- One tick of the machine: its start events, then one tick of the process that comes first among
-- those that are ready.
use Rattle.std.specs.Prelude.{◌+◌, ◌*◌, ◌++◌, ◌&&◌, ◌||◌, ℕ, zero, suc, Bool, true, false, ℤ, List, [], ◌∷◌, Option, Some, None, if◌then◌else◌, slice_get, slice_set, nat_lt, nat_eq, length}
use Rattle.base.specs.declared.event.Event.{Event}
use Rattle.machine_isa.specs.declared.instr.Instr.{Instr}
use Rattle.base.specs.declared.event.Act.{Act}
use Rattle.base.specs.declared.event.Act.TheVariants as act
use Rattle.machine_semantics.specs.Image.{Image, Process, Monitor, Script}
use Rattle.machine_semantics.specs.State.{Job, Thread, Idle, Ready, Waiting, State}
use Rattle.machine_semantics.specs.Effect.{Own, Outcome, Goes, Does, Signals, Broadcasts, Waits, Raises, Ends, Stuck, effect}
use Rattle.machine_isa.specs.Ticks.{ticks}
use Rattle.machine_semantics.specs.Starts.{starts, raised, queue_of}

-- ---- which process runs

-- the ceiling of a monitor; 0 where there is none
abbrev pub ceiling : Option Monitor → ℕ
ceiling (Some m) = m.ceiling
ceiling None = 0

-- the active rank: the ceiling of the monitor that the process is inside, else its rank
abbrev pub active_rank : Image → Process → Option ℕ → ℕ
active_rank image p None = p.rank
active_rank image p (Some m) = ceiling (slice_get image.monitors m)

-- 0 inside a monitor, 1 outside
abbrev pub outside : Option ℕ → ℕ
outside None = 1
outside (Some m) = 0

-- a ready process: its number, and what it is chosen by
pub record Candidate : Type 0 where
  pub place : ℕ
  pub rank : ℕ
  pub outside : ℕ

-- the less active rank comes before; of two alike one inside a monitor before one outside
abbrev pub is_before : Candidate → Candidate → Bool
is_before a b = nat_lt a.rank b.rank || (nat_eq a.rank b.rank && nat_lt a.outside b.outside)

-- the one that comes before; of two that are alike in both the less number
abbrev pub first_of_two : Candidate → Option Candidate → Option Candidate
first_of_two a None = Some a
first_of_two a (Some b) = if is_before b a then Some b else Some a

-- the first of those that are ready, from process k on
abbrev pub least : Image → ℕ → List Process → List Thread → Option Candidate
least image k [] ts = None
least image k (p ∷ ps) [] = None
least image k (p ∷ ps) (Ready job ∷ ts) = first_of_two (record { place = k; rank = active_rank image p job.inside; outside = outside job.inside }) (least image (k + 1) ps ts)
least image k (p ∷ ps) (Idle ∷ ts) = least image (k + 1) ps ts
least image k (p ∷ ps) (Waiting condition due number job ∷ ts) = least image (k + 1) ps ts

-- the process that runs, if any is ready
unfoldable pub pick : Image → List Thread → Option Candidate
pick image ts = least image 0 image.processes ts

-- ---- the tick of the process that runs

-- the state after the tick of the process that runs, its event if it has one, and whether its
-- instruction was stuck
pub record Ticked : Type 0 where
  pub state : State
  pub events : List Event
  pub stuck : Bool

-- a process that was taken out of a queue is ready, with a dispatch in and one out to burn
abbrev pub woken : Image → Option Thread → Thread
woken image (Some (Waiting condition due number job)) = Ready (record job { dispatch_ticks = 2 * image.over })
woken image (Some (Ready job)) = Ready job
woken image (Some Idle) = Idle
woken image None = Idle

-- process j is taken out of a queue
abbrev pub wake : Image → ℕ → List Thread → List Thread
wake image j ts = slice_set ts j (woken image (slice_get ts j))

-- all of these are taken out
abbrev pub wake_all : Image → List ℕ → List Thread → List Thread
wake_all image [] ts = ts
wake_all image (j ∷ js) ts = wake_all image js (wake image j ts)

-- the first of a queue, if anybody stands in it
abbrev pub first : List ℕ → Option ℕ
first [] = None
first (j ∷ js) = Some j

-- the others of a queue
abbrev pub rest : List ℕ → List ℕ
rest [] = []
rest (j ∷ js) = js

-- this process is taken out, if there is one
abbrev pub wake_first : Image → Option ℕ → List Thread → List Thread
wake_first image None ts = ts
wake_first image (Some j) ts = wake image j ts

-- the state with what the instruction of process k changed
abbrev pub with_own : ℕ → Own → State → State
with_own k o s = record s { threads = slice_set s.threads k (Ready o.job); owned = slice_set s.owned k o.owned; shared = o.shared }

-- an event of process k
abbrev pub tell : ℕ → ℕ → Act → State → Ticked
tell t k a s = record { state = s; events = record { tick = t; proc = k; act = a } ∷ []; stuck = false }

-- the state after an outcome of process k; the job is the activation as it was before
abbrev pub settle : Image → ℕ → ℕ → Process → Job → State → Outcome → Ticked
settle image t k p job s (Goes o) = record { state = with_own k o s; events = []; stuck = false }
settle image t k p job s (Does a o) = tell t k a (with_own k o s)
settle image t k p job s (Signals c o) =
    let q = queue_of s.queues c in
    let after = with_own k o s in
    tell t k (act.Signal c (first q)) (record after { queues = slice_set s.queues c (rest q); threads = wake_first image (first q) after.threads })
settle image t k p job s (Broadcasts c o) =
    let q = queue_of s.queues c in
    let after = with_own k o s in
    tell t k (act.Broadcast c (length q)) (record after { queues = slice_set s.queues c []; threads = wake_all image q after.threads })
settle image t k p job s (Waits c limit e o) =
    tell t k (act.Wait c) (record (with_own k o s) { queues = slice_set s.queues c (queue_of s.queues c ++ k ∷ []); threads = slice_set s.threads k (Waiting c (t + limit + 1) e o.job) })
settle image t k p job s (Raises e) = tell t k (act.Raise e) (record s { threads = slice_set s.threads k (Ready (raised p e job)) })
settle image t k p job s Ends = tell t k act.End (record s { threads = slice_set s.threads k Idle })
settle image t k p job s Stuck = record { state = s; events = []; stuck = true }

-- the activation at the next instruction
abbrev pub at_next : Job → Job
at_next job = record job { place = job.place + 1; done = 0 }

-- one tick of its instruction, whose effect comes in the last of its ticks; stuck where there is no
-- instruction
abbrev pub outcome_at : Image → State → Job → List ℤ → Option Instr → Outcome
outcome_at image s job owned None = Stuck
outcome_at image s job owned (Some instr) =
    if nat_lt (job.done + 1) (ticks instr)
    then Goes (record { job = record job { done = job.done + 1 }; owned = owned; shared = s.shared })
    else effect image s instr (record { job = at_next job; owned = owned; shared = s.shared })

-- a tick of dispatch while there is one to burn, else a tick of its instruction
abbrev pub outcome : Image → State → Job → List ℤ → ℕ → Outcome
outcome image s job owned (suc n) = Goes (record { job = record job { dispatch_ticks = n }; owned = owned; shared = s.shared })
outcome image s job owned zero = outcome_at image s job owned (slice_get image.code job.place)

-- the words that a process keeps
abbrev pub owned_of : Option (List ℤ) → List ℤ
owned_of (Some words) = words
owned_of None = []

-- one tick of process k, which is ready
abbrev pub run_thread : Image → ℕ → ℕ → State → Option Process → Option Thread → Ticked
run_thread image t k s (Some p) (Some (Ready job)) = settle image t k p job s (outcome image s job (owned_of (slice_get s.owned k)) job.dispatch_ticks)
run_thread image t k s p thread = record { state = s; events = []; stuck = false }

-- one tick of the process that was picked; where none was, the tick is idle
abbrev pub run_picked : Image → ℕ → State → Option Candidate → Ticked
run_picked image t s None = record { state = s; events = []; stuck = false }
run_picked image t s (Some c) = run_thread image t c.place s (slice_get image.processes c.place) (slice_get s.threads c.place)

-- the state after a tick, its events in order, whether its instruction was stuck, and whether there
-- was an overrun
pub record Passed : Type 0 where
  pub state : State
  pub events : List Event
  pub stuck : Bool
  pub overrun : Bool

-- tick t
unfoldable pub tick : Image → Script → ℕ → State → Passed
tick image script t s =
    let started = starts image script t s in
    let after = run_picked image t started.state (pick image started.state.threads) in
    record { state = after.state; events = started.events ++ after.events; stuck = after.stuck; overrun = started.overrun }
