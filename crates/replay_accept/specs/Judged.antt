-- What an event is by its tick, and which process is to act.
use Rattle.std.specs.Prelude.{◌≡◌, ◌⊎◌, ◌≤◌, ◌<◌, ℕ, Bool, true, false, ◌&&◌, [], Option, Some, None, nat_eq, slice_get}
use Rattle.base.specs.declared.event.Event.{Event}
use Rattle.syntax_tree.specs.Plain.{Process, Program}
use Rattle.source_semantics.specs.Names.{processes}
use Rattle.source_semantics.specs.Config.{Config, Job, is_ready}
use Rattle.source_semantics.specs.Next.{Next}
use Rattle.source_semantics.specs.Starts.{NoneMissing, Script, due}
use Rattle.source_semantics.specs.Source.{IsFirst, MayStart, Step, after_start, job_next}
use Rattle.replay_accept.specs.declared.begin.Begun.{Begun}
use Rattle.replay_accept.specs.declared.begin.Begun.TheVariants as begun_is

-- the event's tick is neither past nor at the script's end, and no start event due before it is
-- missing
pub record IsInTime (g : Program) (s : Script) (c : Config) (e : Event) : Type 0 where
  pub before_end : e.tick < s.end_tick
  pub reached : c.tick ≤ e.tick
  pub none_missing : NoneMissing g s c e.tick

-- a start event that is due comes where its process may start; else nothing changes
abbrev pub Comes : Program → Config → Event → Bool → Config → Type 0
Comes g old e true new = MayStart e.act (slice_get old.jobs e.proc) × (new ≡ after_start g old e)
Comes g old e false new = (MayStart e.act (slice_get old.jobs e.proc) → ⊥) × (new ≡ old)

-- the same, told by what the event is by its tick
abbrev pub ComesAs : Program → Config → Event → Begun → Config → Type 0
ComesAs g old e begun_is.Started new = Comes g old e true new
ComesAs g old e begun_is.Refused new = Comes g old e false new
ComesAs g old e begun_is.Open new = ⊥

-- no start event is due up to the event's tick
pub record IsOpen (g : Program) (s : Script) (c : Config) (e : Event) : Type 0 where
  pub in_time : IsInTime g s c e
  pub none_due : due g s c e.tick ≡ []

-- refused: the event is allowed in no way, and nothing changes; started: it has come; open: it can
-- be an act alone, and nothing changes
abbrev pub Begins : Program → Script → Config → Event → Begun → Config → Type 0
Begins g s old e begun_is.Refused new = ((c : Config) → Step g s old e c → ⊥) × (new ≡ old)
Begins g s old e begun_is.Started new = Step g s old e new
Begins g s old e begun_is.Open new = IsOpen g s old e × (new ≡ old)

-- process k is ready
pub record IsReady (c : Config) (k : ℕ) : Type 0 where
  pub job : Job
  pub state : slice_get c.jobs k ≡ Some job
  pub ready : is_ready job.doing ≡ true

-- nobody has acted at the event's tick, and its process is ready and the first of those that are
pub record IsToAct (g : Program) (c : Config) (e : Event) : Type 0 where
  pub nobody_acted : c.acted && nat_eq c.tick e.tick ≡ false
  pub ready : IsReady c e.proc
  pub first : IsFirst g c e.proc

-- the next action of process k, if there is such a process
abbrev pub IsNextOf : Program → Config → ℕ → Option Next → Type 0
IsNextOf g c k None = (slice_get (processes g) k ≡ None) ⊎ (slice_get c.jobs k ≡ None)
IsNextOf g c k (Some n) =
    (p : Process) × (j : Job) × (slice_get (processes g) k ≡ Some p) × (slice_get c.jobs k ≡ Some j) × (n ≡ job_next c k p j g)
