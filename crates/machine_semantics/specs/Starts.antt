-- What comes at the start of a tick, before a process runs: the script's lines in their order, so
-- what devices are set to and the releases by events; the periodic releases in the order of the
-- text; the time-outs in the order of ranks.
use Rattle.std.specs.Prelude.{◌+◌, ◌-◌, ◌*◌, ◌%◌, ◌++◌, ◌&&◌, ℕ, zero, suc, Bool, true, false, not, List, [], ◌∷◌, Option, Some, None, if◌then◌else◌, slice_get, slice_set, nat_le, nat_eq, length}
use Rattle.base.specs.declared.event.Event.{Event}
use Rattle.base.specs.declared.event.Act.{Act}
use Rattle.base.specs.declared.event.Act.TheVariants as act
use Rattle.machine_semantics.specs.Image.{Image, Process, Script, Line, Sets, Occurs, end_of}
use Rattle.machine_semantics.specs.State.{Job, Thread, Idle, Ready, Waiting, State, zeros, own_locals}

-- the state after some start events, these events, and whether there was an overrun: a release that
-- found its process unfinished
pub record Started : Type 0 where
  pub state : State
  pub events : List Event
  pub overrun : Bool

-- no start event
abbrev pub unchanged : State → Started
unchanged s = record { state = s; events = []; overrun = false }

-- an event of process k, which stands anew
abbrev pub told : ℕ → ℕ → Act → State → Thread → Started
told t k a s new = record { state = record s { threads = slice_set s.threads k new }; events = record { tick = t; proc = k; act = a } ∷ []; overrun = false }

-- one after the other
abbrev pub followed : Started → (State → Started) → Started
followed first go =
    let second = go first.state in
    record { state = second.state; events = first.events ++ second.events; overrun = elim first.overrun [ true ↦ true | false ↦ second.overrun ] }

-- an activation at the start of its process: locals that are 0, no operands, no calls, and a
-- dispatch in and one out to burn
abbrev pub released : Image → Process → Job
released image p = record { place = p.start; done = 0; dispatch_ticks = 2 * image.over; locals = zeros p.locals; operands = []; callers = []; handling = false; inside = None }

-- the process begins an activation if it is idle; if it is not, that is an overrun, and nothing
-- changes
abbrev pub release_thread : Image → ℕ → ℕ → Process → State → Option Thread → Started
release_thread image t k p s (Some Idle) = told t k act.Release s (Ready (released image p))
release_thread image t k p s (Some (Ready job)) = record { state = s; events = []; overrun = true }
release_thread image t k p s (Some (Waiting condition due number job)) = record { state = s; events = []; overrun = true }
release_thread image t k p s None = unchanged s

-- the release of process k
abbrev pub release : Image → ℕ → ℕ → Process → State → Started
release image t k p s = release_thread image t k p s (slice_get s.threads k)

-- an event releases each process of kind 1 that names it; those from process k on
abbrev pub occurs : Image → ℕ → ℕ → ℕ → List Process → State → Started
occurs image t e k [] s = unchanged s
occurs image t e k (p ∷ ps) s =
    followed (if nat_eq p.kind 1 && nat_eq p.event e then release image t k p s else unchanged s) (occurs image t e (k + 1) ps)

-- a line of the script, at its tick
abbrev pub line : Image → ℕ → Line → State → Started
line image t (Sets u d v) s = if nat_eq u t then unchanged (record s { devices = slice_set s.devices d v }) else unchanged s
line image t (Occurs u e) s = if nat_eq u t then occurs image t e 0 image.processes s else unchanged s

-- the lines of this tick, one after the other
abbrev pub lines : Image → ℕ → List Line → State → Started
lines image t [] s = unchanged s
lines image t (l ∷ ls) s = followed (line image t l s) (lines image t ls)

-- the tick is first, first + frame, first + 2 frames and so on
abbrev pub is_periodic_due : ℕ → Process → Bool
is_periodic_due t p = nat_eq p.kind 0 && nat_le p.first t && nat_eq ((t - p.first) % p.frame) 0

-- the periodic releases, in the order of the text; those from process k on
abbrev pub periodic : Image → ℕ → ℕ → List Process → State → Started
periodic image t k [] s = unchanged s
periodic image t k (p ∷ ps) s = followed (if is_periodic_due t p then release image t k p s else unchanged s) (periodic image t (k + 1) ps)

-- the exception number is one of these
abbrev pub lists : List ℕ → ℕ → Bool
lists [] e = false
lists (n ∷ ns) e = if nat_eq n e then true else lists ns e

-- after a raise: the handler is next if it lists the number and the process is not in it, else the
-- END of the part that the process is in; no call is in progress, its own frame has its locals and
-- no operand, and the process is inside no monitor
abbrev pub raised : Process → ℕ → Job → Job
raised p e job =
    let handled = not job.handling && lists p.numbers e in
    record job { place = if handled then p.handler else end_of p job.handling; done = 0; locals = own_locals job.locals job.callers; operands = []; callers = []; handling = if handled then true else job.handling; inside = None }

-- the queue without the process
abbrev pub without : ℕ → List ℕ → List ℕ
without k [] = []
without k (j ∷ js) = if nat_eq j k then without k js else j ∷ without k js

-- the queue of the condition
abbrev pub queue_of : List (List ℕ) → ℕ → List ℕ
queue_of [] c = []
queue_of (q ∷ qs) zero = q
queue_of (q ∷ qs) (suc c) = queue_of qs c

-- a wait that ends at this tick: the process leaves the queue, its number is raised, and it has a
-- dispatch in and one out to burn
abbrev pub time_out : Image → ℕ → ℕ → Process → State → Option Thread → Started
time_out image t k p s (Some (Waiting c due e job)) =
    if nat_eq due t
    then told t k (act.TimeOut c e) (record s { queues = slice_set s.queues c (without k (queue_of s.queues c)) }) (Ready (record (raised p e job) { dispatch_ticks = 2 * image.over }))
    else unchanged s
time_out image t k p s (Some (Ready job)) = unchanged s
time_out image t k p s (Some Idle) = unchanged s
time_out image t k p s None = unchanged s

-- the time-out of the process of this rank, if it has one due; the processes from k on
abbrev pub at_rank : Image → ℕ → ℕ → ℕ → List Process → State → Started
at_rank image t rank k [] s = unchanged s
at_rank image t rank k (p ∷ ps) s = followed (if nat_eq p.rank rank then time_out image t k p s (slice_get s.threads k) else unchanged s) (at_rank image t rank (k + 1) ps)

-- the time-outs of so many ranks, from this one on
abbrev pub time_outs : Image → ℕ → ℕ → ℕ → State → Started
time_outs image t rank zero s = unchanged s
time_outs image t rank (suc n) s = followed (at_rank image t rank 0 image.processes s) (time_outs image t (rank + 1) n)

-- all start events of tick t
unfoldable pub starts : Image → Script → ℕ → State → Started
starts image script t s = followed (lines image t script.lines s) (λ a. followed (periodic image t 0 image.processes a) (time_outs image t 1 (length image.processes)))
