-- The configuration: what each process is doing, each monitor, and each condition's queue.
use Rattle.std.specs.Prelude.{ℕ, zero, suc, Bool, true, false, List, [], ◌∷◌, Option, Some, None, map, slice_get, position, nat_eq, unwrap_or, replicate, filter_map}
use Rattle.syntax_tree.specs.Plain.{Monitor, Process, Program}
use Rattle.source_semantics.specs.Names.{monitors, processes, condition_count, variable_in}
use Rattle.source_semantics.specs.Store.{Vars, fresh}
use Rattle.source_semantics.specs.Run.{Call}

-- idle, at work since its release, or in a condition's queue since the tick of its wait
pub data Doing : Type 0 where
  idle : Doing
  active : (released : ℕ) → Doing
  waiting : (released cond since limit number : ℕ) → Doing

-- a process: its variables, what it is doing, its calls in progress, innermost first, and whether
-- its handler runs
pub record Job : Type 0 where
  pub vars : Vars
  pub doing : Doing
  pub calls : List Call
  pub handling : Bool

-- a monitor: its variables, and the process inside it
pub record Hold : Type 0 where
  pub vars : Vars
  pub occupant : Option ℕ

-- the tick reached, whether somebody has acted in it, and what stands by number
pub record Config : Type 0 where
  pub tick : ℕ
  pub acted : Bool
  pub jobs : List Job
  pub holds : List Hold
  pub queues : List (List ℕ)

abbrev pub idle_job : Program → Process → Job
idle_job g p = record { vars = map (fresh g) p.vars; doing = idle; calls = []; handling = false }

abbrev pub free_hold : Program → Monitor → Hold
free_hold g m = record { vars = map (fresh g) (filter_map variable_in m.members); occupant = None }

-- At the start all processes are idle, all variables 0 or false, all monitors free and all queues
-- empty.
abbrev pub start : Program → Config
start g = record {
  tick = 0;
  acted = false;
  jobs = map (idle_job g) (processes g);
  holds = map (free_hold g) (monitors g);
  queues = replicate (condition_count (monitors g)) [];
}

abbrev pub is_ready : Doing → Bool
is_ready (active released) = true
is_ready _ = false

abbrev pub is_process : ℕ → Option ℕ → Bool
is_process k None = false
is_process k (Some j) = nat_eq j k

-- the monitor that a process is inside
abbrev pub inside : Config → ℕ → Option ℕ
inside c k = position (λ h. is_process k h.occupant) c.holds

abbrev pub hold_vars : Option Hold → Vars
hold_vars None = []
hold_vars (Some h) = h.vars

-- the variables of the monitor that a process is inside
abbrev pub vars_of : Config → Option ℕ → Vars
vars_of c None = []
vars_of c (Some m) = hold_vars (slice_get c.holds m)

-- the thing at place k is changed
abbrev pub changed : {A : Type 0} → (A → A) → ℕ → List A → List A
changed f k [] = []
changed f zero (x ∷ xs) = f x ∷ xs
changed f (suc k) (x ∷ xs) = x ∷ changed f k xs

abbrev pub with_jobs : Config → List Job → Config
with_jobs c js = record { tick = c.tick; acted = c.acted; jobs = js; holds = c.holds; queues = c.queues }

abbrev pub with_holds : Config → List Hold → Config
with_holds c hs = record { tick = c.tick; acted = c.acted; jobs = c.jobs; holds = hs; queues = c.queues }

abbrev pub with_queues : Config → List (List ℕ) → Config
with_queues c qs = record { tick = c.tick; acted = c.acted; jobs = c.jobs; holds = c.holds; queues = qs }

abbrev pub at_tick : Config → ℕ → Bool → Config
at_tick c t acted = record { tick = t; acted = acted; jobs = c.jobs; holds = c.holds; queues = c.queues }

abbrev pub queue : Config → ℕ → List ℕ
queue c x = unwrap_or (slice_get c.queues x) []

abbrev pub occupied : Option ℕ → Hold → Hold
occupied k h = record { vars = h.vars; occupant = k }

-- process k goes into monitor m
abbrev pub enter : Config → ℕ → ℕ → Config
enter c k m = with_holds c (changed (occupied (Some k)) m c.holds)

abbrev pub vacate : Option ℕ → Config → Config
vacate None c = c
vacate (Some m) c = with_holds c (changed (occupied None) m c.holds)

-- process k leaves the monitor that it is inside, if any
abbrev pub leave : Config → ℕ → Config
leave c k = vacate (inside c k) c

abbrev pub job_doing : Doing → Job → Job
job_doing d j = record { vars = j.vars; doing = d; calls = j.calls; handling = j.handling }

abbrev pub job_calls : List Call → Job → Job
job_calls cs j = record { vars = j.vars; doing = j.doing; calls = cs; handling = j.handling }

abbrev pub released_of : Doing → ℕ
released_of idle = 0
released_of (active r) = r
released_of (waiting r x since limit number) = r

-- a process taken out of a queue is ready again
abbrev pub woken : Job → Job
woken j = job_doing (active (released_of j.doing)) j

abbrev pub wake_all : List ℕ → List Job → List Job
wake_all [] js = js
wake_all (k ∷ ks) js = wake_all ks (changed woken k js)
