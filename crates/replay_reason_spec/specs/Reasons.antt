-- Why the events from a configuration on are no run: the first reason that applies.
use Rattle.std.specs.Prelude.{◌≡◌, ◌≢◌, ℕ, suc, ◌≤◌, ◌<◌, true, false, ◌&&◌, List, [], ◌∷◌, Option, Some, None, nat_eq, slice_get}
use Rattle.base.specs.declared.event.Event.{Event}
use Rattle.syntax_tree.specs.Plain.{Process, Program}
use Rattle.source_semantics.specs.Names.{processes}
use Rattle.source_semantics.specs.Config.{Config, Job, is_ready}
use Rattle.source_semantics.specs.Starts.{NoneMissing, Script}
use Rattle.source_semantics.specs.Source.{IsFirst, acts, job_next, ready_from}
use Rattle.replay_reason_spec.specs.Events.{event_of, events_of}
use Rattle.replay_reason_spec.specs.Missing.{AreMissing, IsNextStart, MayCome, is_start}
use Rattle.replay_reason_spec.specs.declared.event.SourceEvent.{SourceEvent}
use Rattle.replay_reason_spec.specs.declared.reason.Reason.{Reason}
use Rattle.replay_reason_spec.specs.declared.reason.Reason.TheVariants as reason

-- so many start events that are missing are listed
abbrev pub most : ℕ
most = 9

-- the event's tick is neither at the script's end nor behind it, and not past
pub record IsInReach (s : Script) (c : Config) (e : Event) : Type 0 where
  pub before_end : e.tick < s.end_tick
  pub reached : c.tick ≤ e.tick

-- the event is the start event that comes next, and may not come
pub record IsHeld (g : Program) (s : Script) (c : Config) (e : Event) : Type 0 where
  pub in_reach : IsInReach s c e
  pub next : IsNextStart g s c (suc e.tick) e
  pub held : MayCome c e → ⊥

-- these start events are missing up to the event's tick, and it is not the first of them
pub record ComesLate (g : Program) (s : Script) (c : Config) (e : Event) (missing : List Event) : Type 0 where
  pub in_reach : IsInReach s c e
  pub missing_are : AreMissing g s (suc e.tick) most c missing
  pub first : Event
  pub later : List Event
  pub some : missing ≡ first ∷ later
  pub other : e ≢ first

-- all start events that are due up to the event's tick have come
pub record StartsHaveCome (g : Program) (s : Script) (c : Config) (e : Event) : Type 0 where
  pub in_reach : IsInReach s c e
  pub none : NoneMissing g s c (suc e.tick)

-- the start event that is due next below the script's end, if there is one
abbrev pub IsNext : Program → Script → Config → Option SourceEvent → Type 0
IsNext g s c None = NoneMissing g s c s.end_tick
IsNext g s c (Some next) = IsNextStart g s c s.end_tick (event_of next)

-- the event is one of starting, where none is due
pub record IsUndue (g : Program) (s : Script) (c : Config) (e : Event) (next : Option SourceEvent) : Type 0 where
  pub have_come : StartsHaveCome g s c e
  pub starts : is_start e.act ≡ true
  pub next_is : IsNext g s c next

-- the event is an act in a tick in which somebody has acted
pub record IsSecond (g : Program) (s : Script) (c : Config) (e : Event) : Type 0 where
  pub have_come : StartsHaveCome g s c e
  pub acts : is_start e.act ≡ false
  pub acted : c.acted && nat_eq c.tick e.tick ≡ true

-- process k is ready, and no ready process is taken before it
pub record ActsNext (g : Program) (c : Config) (k : ℕ) : Type 0 where
  pub job : Job
  pub state : slice_get c.jobs k ≡ Some job
  pub ready : is_ready job.doing ≡ true
  pub first : IsFirst g c k

-- the event is the next action, at tick t, of the process that is to act
pub record IsNextAct (g : Program) (s : Script) (c : Config) (t : ℕ) (e : Event) : Type 0 where
  pub tick_is : e.tick ≡ t
  pub to_act : ActsNext g c e.proc
  pub process : Process
  pub text : slice_get (processes g) e.proc ≡ Some process
  pub told : e.act ≡ (acts g s c t e.proc (job_next c e.proc process to_act.job g)).act

-- what is allowed at tick t, if a process is ready
abbrev pub IsAllowed : Program → Script → Config → (t : ℕ) → Option SourceEvent → Type 0
IsAllowed g s c t None = ready_from 0 c.jobs ≡ []
IsAllowed g s c t (Some it) = IsNextAct g s c t (event_of it)

-- the event is an act, but not the one that is allowed
pub record IsOther (g : Program) (s : Script) (c : Config) (e : Event) (allowed : Option SourceEvent) : Type 0 where
  pub have_come : StartsHaveCome g s c e
  pub acts : is_start e.act ≡ false
  pub nobody_acted : c.acted && nat_eq c.tick e.tick ≡ false
  pub allowed_is : IsAllowed g s c e.tick allowed

-- why an event is not allowed
abbrev pub IsEventReason : Program → Script → Config → Event → Reason → Type 0
IsEventReason g s c e (reason.Ended missing) = ⊥
IsEventReason g s c e (reason.BeyondEnd tick end) = (tick ≡ e.tick) × (end ≡ s.end_tick) × (s.end_tick ≤ e.tick)
IsEventReason g s c e (reason.Past tick reached) = (tick ≡ e.tick) × (reached ≡ c.tick) × (e.tick < s.end_tick) × (e.tick < c.tick)
IsEventReason g s c e (reason.Unfinished process) = (process ≡ e.proc) × IsHeld g s c e
IsEventReason g s c e (reason.Missing missing) = ComesLate g s c e (events_of missing.items)
IsEventReason g s c e (reason.NoneDue tick next) = (tick ≡ e.tick) × IsUndue g s c e next
IsEventReason g s c e (reason.Acted tick) = (tick ≡ e.tick) × IsSecond g s c e
IsEventReason g s c e (reason.Other allowed) = IsOther g s c e allowed

-- why no run ends here
abbrev pub IsEndReason : Program → Script → Config → Reason → Type 0
IsEndReason g s c (reason.Ended missing) = AreMissing g s s.end_tick most c (events_of missing.items)
IsEndReason g s c other = ⊥

-- why the events from a configuration on are no run
abbrev pub IsReason : Program → Script → Config → List Event → Reason → Type 0
IsReason g s c [] why = IsEndReason g s c why
IsReason g s c (e ∷ es) why = IsEventReason g s c e why
