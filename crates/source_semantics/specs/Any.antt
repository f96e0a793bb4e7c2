-- Which lists of events are runs of a program over a script, whoever of the ready processes acts.
use Rattle.std.specs.Prelude.{◌≡◌, ℕ, ◌≤◌, ◌<◌, true, false, ◌&&◌, ◌⊎◌, List, [], ◌∷◌, Some, nat_eq, slice_get}
use Rattle.base.specs.declared.event.Event.{Event}
use Rattle.syntax_tree.specs.Plain.{Process, Program}
use Rattle.source_semantics.specs.Names.{processes}
use Rattle.source_semantics.specs.Config.{Job, Config, start, is_ready}
use Rattle.source_semantics.specs.Source.{Starts, acts, job_next, may_act}
use Rattle.source_semantics.specs.Starts.{Script, due, NoneMissing}

-- the event is the next action of a process that is ready
pub record ActsAny (g : Program) (s : Script) (c : Config) (e : Event) (new : Config) : Type 0 where
  pub none_due : due g s c e.tick ≡ []
  pub nobody_acted : c.acted && nat_eq c.tick e.tick ≡ false
  pub process : Process
  pub text : slice_get (processes g) e.proc ≡ Some process
  pub job : Job
  pub state : slice_get c.jobs e.proc ≡ Some job
  pub ready : is_ready job.doing ≡ true
  pub free : may_act c (job_next c e.proc process job g).action ≡ true
  pub told : e.act ≡ (acts g s c e.tick e.proc (job_next c e.proc process job g)).act
  pub after : new ≡ (acts g s c e.tick e.proc (job_next c e.proc process job g)).config

-- The event is allowed next, and new is the configuration after it.
pub record StepAny (g : Program) (s : Script) (c : Config) (e : Event) (new : Config) : Type 0 where
  pub before_end : e.tick < s.end_tick
  pub reached : c.tick ≤ e.tick
  pub none_missing : NoneMissing g s c e.tick
  pub comes : Starts g s c e new ⊎ ActsAny g s c e new

-- Each event is allowed in turn, and at the end no start event due before the script's end is
-- missing.
abbrev pub RunAnyFrom : Program → Script → Config → List Event → Type 0
RunAnyFrom g s c [] = NoneMissing g s c s.end_tick
RunAnyFrom g s c (e ∷ es) = (new : Config) × StepAny g s c e new × RunAnyFrom g s new es

abbrev pub IsAnySourceRun : Program → Script → List Event → Type 0
IsAnySourceRun g s es = RunAnyFrom g s (start g) es
