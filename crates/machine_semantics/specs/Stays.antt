-- How long a process may still run inside the monitor that it is inside.
use Rattle.std.specs.Prelude.{◌≡◌, ◌≤◌, ◌+◌, ℕ, true, false, Some, None, slice_get}
use Rattle.machine_semantics.specs.Image.{Process, Monitor, Script}
use Rattle.machine_semantics.specs.Starts.{starts}
use Rattle.machine_semantics.specs.State.{Job, Ready, State, is_free}
use Rattle.machine_semantics.specs.Tick.{Candidate, pick, owned_of, tick}
use Rattle.machine_semantics.specs.Walk.{Where, WalkCost, Reaches, within}
use Rattle.machine_semantics.specs.Safe.{Parts, ImageFits, ReadyFits, part_of}
use Rattle.machine_semantics.specs.Whole.{StateFits}
use Rattle.machine_semantics.specs.Work.{runs}

-- process k is inside monitor m, with no dispatch to burn, and leaves it within n of its ticks
pub record StaysIn (e : Where) (ps : ℕ → Parts) (s : State) (k m n : ℕ) : Type 0 where
  pub p : Process
  pub job : Job
  pub left : WalkCost
  pub process : slice_get e.image.processes k ≡ Some p
  pub there : slice_get s.threads k ≡ Some (Ready job)
  pub inside : job.inside ≡ Some m
  pub no_burn : job.dispatch_ticks ≡ 0
  pub has : ReadyFits e p (ps k) job (owned_of (slice_get s.owned k)) s.shared left
  pub short : left.leave ≤ n

-- The law: a process that is inside a monitor and runs is one tick nearer to leaving it, if it has
-- not left; one that does not run is as it was.
abbrev pub StayFalls : Type 0
StayFalls = (e : Where) (ps : ℕ → Parts) (script : Script) (t : ℕ) (s : State) (k m n : ℕ) → ImageFits e ps → StateFits e ps s → StaysIn e ps s k m n
    → (runs e.image script t s k ≡ true → (job : Job) → slice_get (tick e.image script t s).state.threads k ≡ Some (Ready job) → job.inside ≡ Some m
    → (l : ℕ) × (n ≡ l + 1) × StaysIn e ps (tick e.image script t s).state k m l)
    × (runs e.image script t s k ≡ false → StaysIn e ps (tick e.image script t s).state k m n)

-- The law: a process that is inside no monitor after the start events of a tick, and inside one
-- after the tick, has entered it, and leaves it within the stay that its part tells of that
-- monitor, which its part may enter.
abbrev pub StayBegins : Type 0
StayBegins = (e : Where) (ps : ℕ → Parts) (script : Script) (t : ℕ) (s : State) (k m : ℕ) (job new : Job) → ImageFits e ps → StateFits e ps s
    → slice_get (starts e.image script t s).state.threads k ≡ Some (Ready job) → job.inside ≡ None
    → slice_get (tick e.image script t s).state.threads k ≡ Some (Ready new) → new.inside ≡ Some m
    → StaysIn e ps (tick e.image script t s).state k m ((part_of (ps k) job.handling).stays m) × Reaches (within e (part_of (ps k) job.handling)) m

-- The law: when a process is picked that is inside no monitor, each monitor whose ceiling is not
-- above its rank, as a number, is free: so it finds free whatever it enters.
abbrev pub EntersFree : Type 0
EntersFree = (e : Where) (ps : ℕ → Parts) (script : Script) (t : ℕ) (s : State) (c : Candidate) (p : Process) (job : Job) (m : ℕ) (monitor : Monitor) → ImageFits e ps → StateFits e ps s
    → let threads = (starts e.image script t s).state.threads in
    pick e.image threads ≡ Some c → slice_get e.image.processes c.place ≡ Some p → slice_get threads c.place ≡ Some (Ready job) → job.inside ≡ None
    → slice_get e.image.monitors m ≡ Some monitor → monitor.ceiling ≤ p.rank → is_free m threads ≡ true
