-- Which lists of events are runs of a program over a script.
use Rattle.std.specs.Prelude.{◌≡◌, ℕ, suc, ◌+◌, ◌≤◌, ◌<◌, Bool, true, false, cond, ◌&&◌, ◌⊎◌, not, List, [], ◌∷◌, ◌++◌, Option, Some, None, ℤ, length, nat_eq, slice_get, IsSomeAnd}
use Rattle.base.specs.declared.event.Event.{Event}
use Rattle.base.specs.declared.event.Act.{Act}
use Rattle.base.specs.declared.event.Act.TheVariants as act
use Rattle.syntax_tree.specs.Plain.{Process, Program, Handler, Constant, Stmts}
use Rattle.source_semantics.specs.Names.{processes, count_value}
use Rattle.base.specs.Words.{of_bool}
use Rattle.source_semantics.specs.Store.{Vars}
use Rattle.source_semantics.specs.Run.{of_process, Call, do_all, Action, gets, puts, enters, leaves, waits, signals, broadcasts, asks_empty, raises, ends}
use Rattle.source_semantics.specs.Next.{Next, next_from, given}
use Rattle.source_semantics.specs.Config.{idle, active, waiting, Job, Hold, Config, start, is_ready, inside, vars_of, changed, with_jobs, with_holds, with_queues, at_tick, queue, enter, leave, job_doing, job_calls, released_of, woken, wake_all}
use Rattle.source_semantics.specs.Ranks.{comes_before}
use Rattle.source_semantics.specs.Starts.{Script, device_value, due, NoneMissing}

abbrev pub call_of : Stmts → Call
call_of ss = record { home = of_process; own = []; rest = do_all ss ∷ [] }

-- a released process stands before its body
abbrev pub released : ℕ → Process → Job → Job
released t p j = record { vars = j.vars; doing = active t; calls = call_of p.body ∷ []; handling = false }

-- one of the constants is the number
abbrev pub lists_constant : Program → ℕ → List Constant → Bool
lists_constant g n [] = false
lists_constant g n (c ∷ cs) = cond (nat_eq (count_value g c) n) true (lists_constant g n cs)

-- what remains after a raise: the handler where it lists the number and does not run yet, else the
-- end alone
abbrev pub job_after_raise : Program → ℕ → Option Handler → Job → Job
job_after_raise g n None j = record { vars = j.vars; doing = active (released_of j.doing); calls = []; handling = j.handling }
job_after_raise g n (Some h) j =
    cond (lists_constant g n h.numbers && not j.handling)
    (record { vars = j.vars; doing = active (released_of j.doing); calls = call_of h.body ∷ []; handling = true })
    (record { vars = j.vars; doing = active (released_of j.doing); calls = []; handling = j.handling })

abbrev pub on_text : (Process → Job → Job) → Option Process → ℕ → Config → Config
on_text f None k c = c
on_text f (Some p) k c = with_jobs c (changed (f p) k c.jobs)

-- the job of process k is changed, by its text
abbrev pub on_job : (Process → Job → Job) → Program → ℕ → Config → Config
on_job f g k c = on_text f (slice_get (processes g) k) k c

-- the process after an exception: its calls are dropped, and the monitor is left
abbrev pub after_raise : Program → ℕ → ℕ → Config → Config
after_raise g k n c = on_job (λ p j. job_after_raise g n p.handler j) g k (leave c k)

-- a queue without process k
abbrev pub without : ℕ → List ℕ → List ℕ
without k [] = []
without k (i ∷ is) = cond (nat_eq i k) is (i ∷ without k is)

-- the configuration after a start event
abbrev pub start_effect : Program → ℕ → ℕ → Act → Config → Config
start_effect g t k act.Release c = on_job (λ p j. released t p j) g k c
start_effect g t k (act.TimeOut x n) c = after_raise g k n (with_queues c (changed (without k) x c.queues))
start_effect g t k _ c = c

abbrev pub after_start : Program → Config → Event → Config
after_start g c e = start_effect g e.tick e.proc e.act (at_tick c e.tick false)

-- a release finds its process idle
abbrev pub MayStart : Act → Option Job → Type 0
MayStart act.Release (Some j) = j.doing ≡ idle
MayStart act.Release None = ⊥
MayStart _ j = Unit {0}

-- the monitor has these variables
abbrev pub save_hold : Option ℕ → Vars → Config → Config
save_hold None vs c = c
save_hold (Some m) vs c = with_holds c (changed (λ h. record { vars = vs; occupant = h.occupant }) m c.holds)

abbrev pub save_job : Next → Job → Job
save_job n j = record { vars = n.process; doing = j.doing; calls = n.calls; handling = j.handling }

-- the process's variables and calls, and the variables of the monitor that it is inside, are those
-- of its next action
abbrev pub saved : Config → ℕ → Next → Config
saved c k n = save_hold (inside c k) n.monitor (with_jobs c (changed (save_job n) k c.jobs))

-- process k is given a value that it waits for
abbrev pub give_to : ℕ → ℤ → Config → Config
give_to k v c = with_jobs c (changed (λ j. job_calls (given (Some v) j.calls) j) k c.jobs)

-- what is told of an action, and the configuration after it
pub record Effect : Type 0 where
  pub act : Act
  pub config : Config

abbrev pub is_empty : List ℕ → Bool
is_empty [] = true
is_empty (k ∷ ks) = false

-- the first of a queue is taken out of it
abbrev pub signalled : ℕ → List ℕ → Config → Effect
signalled x [] c = record { act = act.Signal x None; config = c }
signalled x (k ∷ ks) c = record { act = act.Signal x (Some k); config = with_queues (with_jobs c (changed woken k c.jobs)) (changed (λ q. ks) x c.queues) }

-- the effect of an action of process k at tick t
abbrev pub effect : Program → Script → ℕ → ℕ → Action → Config → Effect
effect g s t k (gets d) c = record { act = act.Get d (device_value s t d); config = give_to k (device_value s t d) c }
effect g s t k (puts d v) c = record { act = act.Put d v; config = c }
effect g s t k (enters m) c = record { act = act.Enter m; config = enter c k m }
effect g s t k (leaves m) c = record { act = act.Leave m; config = leave c k }
effect g s t k (waits x limit n) c = record {
  act = act.Wait x;
  config = with_queues (with_jobs (leave c k) (changed (λ j. job_doing (waiting (released_of j.doing) x t limit n) j) k c.jobs)) (changed (λ q. q ++ k ∷ []) x c.queues);
}
effect g s t k (signals x) c = signalled x (queue c x) c
effect g s t k (broadcasts x) c = record {
  act = act.Broadcast x (length (queue c x));
  config = with_queues (with_jobs c (wake_all (queue c x) c.jobs)) (changed (λ q. []) x c.queues);
}
effect g s t k (asks_empty x) c = record { act = act.Empty x (is_empty (queue c x)); config = give_to k (of_bool (is_empty (queue c x))) c }
effect g s t k (raises n) c = record { act = act.Raise n; config = after_raise g k n c }
effect g s t k ends c = record { act = act.End; config = with_jobs c (changed (job_doing idle) k c.jobs) }

-- the next action of process k, whose text and state these are
abbrev pub job_next : Config → ℕ → Process → Job → Program → Next
job_next c k p j g = next_from g p j.calls None j.vars (vars_of c (inside c k))

abbrev pub acts : Program → Script → Config → ℕ → ℕ → Next → Effect
acts g s c t k n = effect g s t k n.action (saved (at_tick c t true) k n)

-- job j is the same or has been woken
abbrev pub Stays : ℕ → List Job → List Job → Type 0
Stays j before after = (slice_get after j ≡ slice_get before j) ⊎ ((b : Job) × (slice_get before j ≡ Some b) × (slice_get after j ≡ Some (woken b)))

-- a monitor that is entered is free
abbrev pub hold_free : Option Hold → Bool
hold_free None = false
hold_free (Some h) = elim h.occupant [ None ↦ true | Some k ↦ false ]

-- an enter finds its monitor free
abbrev pub may_act : Config → Action → Bool
may_act c (enters m) = hold_free (slice_get c.holds m)
may_act c _ = true

-- the numbers of the ready processes
abbrev pub ready_from : ℕ → List Job → List ℕ
ready_from k [] = []
ready_from k (j ∷ js) = cond (is_ready j.doing) (k ∷ ready_from (suc k) js) (ready_from (suc k) js)

-- of these processes, those that are taken before process k
abbrev pub before : Program → Config → ℕ → List ℕ → List ℕ
before g c k [] = []
before g c k (j ∷ js) = cond (comes_before g c j k) (j ∷ before g c k js) (before g c k js)

-- no ready process is taken before process k
abbrev pub IsFirst : Program → Config → ℕ → Type 0
IsFirst g c k = before g c k (ready_from 0 c.jobs) ≡ []

-- the event is the first start event still due
pub record Starts (g : Program) (s : Script) (c : Config) (e : Event) (new : Config) : Type 0 where
  pub later : List Event
  pub first : due g s c e.tick ≡ e ∷ later
  pub may_start : MayStart e.act (slice_get c.jobs e.proc)
  pub after : new ≡ after_start g c e

-- the event is the next action of the process that is to act
pub record Acts (g : Program) (s : Script) (c : Config) (e : Event) (new : Config) : Type 0 where
  pub none_due : due g s c e.tick ≡ []
  pub nobody_acted : c.acted && nat_eq c.tick e.tick ≡ false
  pub process : Process
  pub text : slice_get (processes g) e.proc ≡ Some process
  pub job : Job
  pub state : slice_get c.jobs e.proc ≡ Some job
  pub ready : is_ready job.doing ≡ true
  pub first : IsFirst g c e.proc
  pub free : may_act c (job_next c e.proc process job g).action ≡ true
  pub told : e.act ≡ (acts g s c e.tick e.proc (job_next c e.proc process job g)).act
  pub after : new ≡ (acts g s c e.tick e.proc (job_next c e.proc process job g)).config

-- The event is allowed next, and new is the configuration after it.
pub record Step (g : Program) (s : Script) (c : Config) (e : Event) (new : Config) : Type 0 where
  pub before_end : e.tick < s.end_tick
  pub reached : c.tick ≤ e.tick
  pub none_missing : NoneMissing g s c e.tick
  pub comes : Starts g s c e new ⊎ Acts g s c e new

-- Each event is allowed in turn, and at the end no start event due before the script's end is
-- missing.
abbrev pub RunFrom : Program → Script → Config → List Event → Type 0
RunFrom g s c [] = NoneMissing g s c s.end_tick
RunFrom g s c (e ∷ es) = (new : Config) × Step g s c e new × RunFrom g s new es

abbrev pub IsSourceRun : Program → Script → List Event → Type 0
IsSourceRun g s es = RunFrom g s (start g) es

-- the event is an end of process k
abbrev pub ends_at : ℕ → Event → Bool
ends_at k e = nat_eq e.proc k && is_end e.act
  where
    is_end : Act → Bool
    is_end act.End = true
    is_end _ = false

-- the tick of the first end of process k
abbrev pub first_end : ℕ → List Event → Option ℕ
first_end k [] = None
first_end k (e ∷ es) = cond (ends_at k e) (Some e.tick) (first_end k es)

-- Each activation of process k ends within so many ticks; one that the script's end cuts off is
-- open.
abbrev pub EndsWithin : ℕ → ℕ → ℕ → List Event → Type 0
EndsWithin k bound end_tick es =
    (earlier later : List Event) (t : ℕ) → es ≡ earlier ++ record { tick = t; proc = k; act = act.Release } ∷ later
    → t + bound ≤ end_tick → IsSomeAnd (first_end k later) (λ u. u < t + bound)
