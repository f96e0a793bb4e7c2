-- What the timing argument sees of a run of the machine: by tick and process what is left of the
-- activation, and of the stay in a monitor.
--
-- What is left is counted down from what the image declares: a process that runs in a tick has a
-- tick of execution less after it, one that waits in it a tick of suspension less, one that begins
-- to wait a wait less. So the views are functions of the run alone.
use Rattle.std.specs.Prelude.{◌-◌, ◌&&◌, ◌||◌, ℕ, zero, suc, Bool, true, false, not, cond, List, [], ◌∷◌, Option, Some, None, nat_eq, slice_get}
use Rattle.machine_semantics.specs.Image.{Image, Process, Script, Line, Sets, Occurs}
use Rattle.machine_semantics.specs.State.{Thread, Idle, Ready, Waiting, State}
use Rattle.machine_semantics.specs.Starts.{is_periodic_due, starts}
use Rattle.machine_semantics.specs.Tick.{Candidate, pick}
use Rattle.machine_semantics.specs.Run.{state_at}
use Rattle.machine_semantics.specs.Safe.{Parts, part_of}
use Rattle.machine_semantics.specs.Whole.{ceiling_of}
use Rattle.machine_semantics.specs.Work.{runs}
use Rattle.machine_semantics.specs.Waits.{is_waiting}
use Rattle.valid_image.specs.Tasks.{process_at}
use Rattle.sched_theorem.specs.Stretches.{Life, Trace, flag}
use Rattle.sched_theorem.specs.Dispatched.{Stay, Dispatch}

-- ---- releases

-- the event occurs at the tick, by one of these lines
abbrev pub occurs_at : List Line → (t event : ℕ) → Bool
occurs_at [] t event = false
occurs_at (Sets u d v ∷ ls) t event = occurs_at ls t event
occurs_at (Occurs u n ∷ ls) t event = (nat_eq u t && nat_eq event n) || occurs_at ls t event

-- a release of the process is due at the tick, by its event
abbrev pub is_event_due : Script → ℕ → Process → Bool
is_event_due script t p = nat_eq p.kind 1 && occurs_at script.lines t p.event

-- a release of the process is due at the tick
abbrev pub is_due : Script → ℕ → Process → Bool
is_due script t p = is_event_due script t p || is_periodic_due t p

abbrev pub is_some_due : Script → ℕ → Option Process → Bool
is_some_due script t None = false
is_some_due script t (Some p) = is_due script t p

-- ---- states

-- the state after the start events of tick t, when the process that runs is picked
abbrev pub during : Image → Script → ℕ → State
during image script t = (starts image script t (state_at image script t)).state

abbrev pub is_idle : Option Thread → Bool
is_idle (Some Idle) = true
is_idle (Some (Ready job)) = false
is_idle (Some (Waiting condition due number job)) = false
is_idle None = true

-- the monitor that the process is inside
abbrev pub inside_of : Option Thread → Option ℕ
inside_of (Some (Ready job)) = job.inside
inside_of (Some Idle) = None
inside_of (Some (Waiting condition due number job)) = None
inside_of None = None

-- ---- what is left of an activation

abbrev pub nothing_left : Life
nothing_left = record { run_left = 0; suspension_left = 0; waits_left = 0; waiting = 0 }

-- a whole activation, as it is declared
abbrev pub declared : Option Process → Life
declared None = nothing_left
declared (Some p) = record { run_left = p.run; suspension_left = p.susp; waits_left = p.waits; waiting = 0 }

-- after the start events: old is the thread before them, new after them
abbrev pub opened : Option Process → (old new : Option Thread) → Life → Life
opened p old new a = cond (is_idle new) nothing_left (cond (is_idle old) (declared p)
    (record { run_left = a.run_left; suspension_left = a.suspension_left; waits_left = a.waits_left; waiting = flag (is_waiting new) }))

-- after the rest of the tick, in which the process runs or does not
abbrev pub spent : (ran : Bool) → (old new : Option Thread) → Life → Life
spent ran old new a = cond (is_idle new) nothing_left (record {
  run_left = a.run_left - flag ran;
  suspension_left = a.suspension_left - flag (is_waiting old);
  waits_left = a.waits_left - flag (not (is_waiting old) && is_waiting new);
  waiting = flag (is_waiting new);
})

-- process k before tick t, and after its start events
unfoldable pub life_before : Image → Script → (t k : ℕ) → Life
life_before image script zero k = nothing_left
life_before image script (suc t) k =
    spent (runs image script t (state_at image script t) k) (slice_get (during image script t).threads k) (slice_get (state_at image script (suc t)).threads k)
    (opened (slice_get image.processes k) (slice_get (state_at image script t).threads k) (slice_get (during image script t).threads k) (life_before image script t k))

abbrev pub life_after : Image → Script → (t k : ℕ) → Life
life_after image script t k =
    opened (slice_get image.processes k) (slice_get (state_at image script t).threads k) (slice_get (during image script t).threads k) (life_before image script t k)

abbrev pub trace_of : Image → Script → Trace
trace_of image script = record {
  before = life_before image script;
  after = life_after image script;
  released = λ t k. is_some_due script t (slice_get image.processes k);
}

-- ---- what is left of a stay

-- what the part of a process tells of a stay that begins
abbrev pub whole_stay : Parts → Option Thread → ℕ → ℕ
whole_stay ps (Some (Ready job)) m = (part_of ps job.handling).stays m
whole_stay ps (Some Idle) m = 0
whole_stay ps (Some (Waiting condition due number job)) m = 0
whole_stay ps None m = 0

-- after a tick in which the process runs or does not: it was inside old, with so much left, and is
-- inside new
abbrev pub stayed : Parts → (ran : Bool) → Option Thread → (old new : Option ℕ) → ℕ → ℕ
stayed ps ran thread None None left = 0
stayed ps ran thread (Some m) None left = 0
stayed ps ran thread None (Some n) left = whole_stay ps thread n
stayed ps ran thread (Some m) (Some n) left = left - flag ran

-- process k before tick t
unfoldable pub stay_left : Image → (ℕ → Parts) → Script → (t k : ℕ) → ℕ
stay_left image ps script zero k = 0
stay_left image ps script (suc t) k =
    stayed (ps k) (runs image script t (state_at image script t) k) (slice_get (during image script t).threads k)
    (inside_of (slice_get (state_at image script t).threads k)) (inside_of (slice_get (state_at image script (suc t)).threads k)) (stay_left image ps script t k)

-- ranks count from 0 there
abbrev pub stay_of : Image → Option ℕ → ℕ → Option Stay
stay_of image None left = None
stay_of image (Some m) left = Some (record { ceiling = ceiling_of image m - 1; left = left })

abbrev pub place_of : Option Candidate → Option ℕ
place_of None = None
place_of (Some c) = Some c.place

abbrev pub dispatch_of : Image → (ℕ → Parts) → Script → Dispatch
dispatch_of image ps script = record {
  picked = λ t. place_of (pick image (during image script t).threads);
  inside = λ t k. stay_of image (inside_of (slice_get (state_at image script t).threads k)) (stay_left image ps script t k);
}

-- ---- ranks and bounds

abbrev pub rank_of_some : Option Process → ℕ
rank_of_some None = 0
rank_of_some (Some p) = p.rank - 1

-- the rank of a process, from 0
abbrev pub rank_at : Image → ℕ → ℕ
rank_at image k = rank_of_some (slice_get image.processes k)

-- the declared bound of the process of a rank
abbrev pub bound_of_some : Option Process → ℕ
bound_of_some None = 0
bound_of_some (Some p) = p.bound

abbrev pub bound_at : Image → ℕ → ℕ
bound_at image j = bound_of_some (slice_get image.processes (process_at image j))
