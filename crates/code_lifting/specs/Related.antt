-- The state of the machine and a configuration of the source meaning say the same.
use Rattle.std.specs.Prelude.{◌≡◌, ◌+◌, ℕ, true, ℤ, List, [], Option, Some, None, length, slice_get}
use Rattle.syntax_tree.specs.Plain.{Program}
use Rattle.syntax_tree.specs.Plain as tree
use Rattle.source_semantics.specs.Names.{processes}
use Rattle.source_semantics.specs.Store.{Vars}
use Rattle.source_semantics.specs.Config.{idle, active, waiting, Job, Hold, Config, hold_vars}
use Rattle.source_semantics.specs.Ranks.{monitors_of, includes}
use Rattle.machine_semantics.specs.Image.{Image, Process}
use Rattle.machine_semantics.specs.State.{Thread, Idle, Ready, Waiting, State}
use Rattle.machine_semantics.specs.State as target
use Rattle.machine_semantics.specs.Effect.{Own}
use Rattle.machine_semantics.specs.Starts.{raised}
use Rattle.machine_semantics.specs.Tick.{owned_of}
use Rattle.code_spec.specs.Boundary.{View, view, view_raised}

-- the image and the program
pub record Whole : Type 0 where
  pub image : Image
  pub program : Program

-- the relations that the code of the processes is proved with: the process with this number stands
-- for a view; the words of the monitor with this number hold its variables; the words of the
-- process with this number hold its variables
pub record Relations : Type 1 where
  pub stands : ℕ → Own → View → Type 0
  pub free : ℕ → List ℤ → Vars → Type 0
  pub rests : ℕ → List ℤ → Vars → Type 0

-- an activation with its words
abbrev pub own : target.Job → List ℤ → List ℤ → Own
own job owned shared = record { job = job; owned = owned; shared = shared }

-- the monitor that a process is inside
abbrev pub inside_of : Option Thread → Option ℕ
inside_of None = None
inside_of (Some Idle) = None
inside_of (Some (Ready job)) = job.inside
inside_of (Some (Waiting condition due number job)) = job.inside

-- the variables of the monitor
abbrev pub monitor_vars : List Hold → Option ℕ → Vars
monitor_vars holds None = []
monitor_vars holds (Some m) = hold_vars (slice_get holds m)

-- what the source meaning has of the process that is inside this monitor or none
abbrev pub view_of : List Hold → Job → Option ℕ → View
view_of holds j inside = view j.calls j.vars (monitor_vars holds inside) j.handling

-- both wait on the condition, until the same tick and for the same number; a process that is woken
-- stands for its calls, and one whose time is out for what remains after a raise
pub record Waits (w : Whole) (r : Relations) (k : ℕ) (owned shared : List ℤ) (condition due number : ℕ) (job : target.Job) (j : Job) : Type 0 where
  pub released : ℕ
  pub since : ℕ
  pub limit : ℕ
  pub doing : j.doing ≡ waiting released condition since limit number
  pub due_at : due ≡ since + limit + 1
  pub outside : job.inside ≡ None
  pub stands : r.stands k (own job owned shared) (view j.calls j.vars [] j.handling)
  pub late : (p : Process) (text : tree.Process) → slice_get w.image.processes k ≡ Some p → slice_get (processes w.program) k ≡ Some text
      → r.stands k (own (raised p number job) owned shared) (view_raised w.program text number j.vars j.handling)

-- process k is idle, active or waiting on both sides, and stands for its calls
abbrev pub Same : Whole → Relations → ℕ → List Hold → (owned shared : List ℤ) → Option Thread → Option Job → Type 0
Same w r k holds owned shared None None = Unit {0}
Same w r k holds owned shared (Some Idle) (Some j) = (j.doing ≡ idle) × r.rests k owned j.vars
Same w r k holds owned shared (Some (Ready job)) (Some j) = (released : ℕ) × (j.doing ≡ active released) × r.stands k (own job owned shared) (view_of holds j job.inside)
Same w r k holds owned shared (Some (Waiting condition due number job)) (Some j) = Waits w r k owned shared condition due number job j
Same w r k holds owned shared (Some t) None = ⊥
Same w r k holds owned shared None (Some j) = ⊥

-- The processes and monitors are the same on both sides. The variables of an occupied monitor
-- belong to its occupant.
pub record Related (w : Whole) (r : Relations) (threads : List Thread) (owned : List (List ℤ)) (shared : List ℤ) (jobs : List Job) (holds : List Hold) : Type 0 where
  pub same : (k : ℕ) → Same w r k holds (owned_of (slice_get owned k)) shared (slice_get threads k) (slice_get jobs k)
  pub inside : (k m : ℕ) → inside_of (slice_get threads k) ≡ Some m → (h : Hold) × (slice_get holds m ≡ Some h) × (h.occupant ≡ Some k)
  pub occupants : (m k : ℕ) (h : Hold) → slice_get holds m ≡ Some h → h.occupant ≡ Some k → inside_of (slice_get threads k) ≡ Some m
  pub free : (m : ℕ) (h : Hold) → slice_get holds m ≡ Some h → h.occupant ≡ None → r.free m shared h.vars
  pub reaches : (k m : ℕ) (text : tree.Process) → inside_of (slice_get threads k) ≡ Some m → slice_get (processes w.program) k ≡ Some text → includes m (monitors_of w.program text) ≡ true
  pub many_threads : length threads ≡ length w.image.processes
  pub many_holds : length holds ≡ length w.image.monitors
  pub many_owned : length owned ≡ length w.image.processes

-- the whole state and the whole configuration, but for the devices and the tick
pub record IsSame (w : Whole) (r : Relations) (s : State) (c : Config) : Type 0 where
  pub related : Related w r s.threads s.owned s.shared c.jobs c.holds
  pub queues : s.queues ≡ c.queues
