-- What the law of whole runs needs of the code of one process: that it stands, after each of its
-- ticks, for the calls that the source meaning has in progress.
use Rattle.std.specs.Prelude.{◌≡◌, ℕ, Bool, true, false, ℤ, List, [], ◌∷◌, Option, Some, None, pos, map, slice_get}
use Rattle.machine_isa.specs.declared.instr.Instr.{Instr}
use Rattle.base.specs.declared.event.Act.TheVariants as act
use Rattle.base.specs.Words.{of_bool}
use Rattle.syntax_tree.specs.Plain.{Program}
use Rattle.syntax_tree.specs.Plain as tree
use Rattle.source_semantics.specs.Store.{Vars, fresh}
use Rattle.source_semantics.specs.Run.{Call, Action, gets, puts, enters, leaves, waits, signals, broadcasts, asks_empty, raises, ends}
use Rattle.source_semantics.specs.Next.{Next, next_from, given}
use Rattle.source_semantics.specs.Config.{idle}
use Rattle.source_semantics.specs.Config as config
use Rattle.source_semantics.specs.Ranks.{monitors_of, includes}
use Rattle.source_semantics.specs.Source.{call_of, job_after_raise}
use Rattle.machine_semantics.specs.Image.{Image, Process, Monitor}
use Rattle.machine_semantics.specs.State.{State, zeros, is_free}
use Rattle.machine_semantics.specs.Effect.{Own, Outcome, Goes, Does, Signals, Broadcasts, Waits, Raises, Ends, Stuck, effect, is_reached, is_none_waiting}
use Rattle.machine_semantics.specs.Starts.{released, raised}
use Rattle.machine_semantics.specs.Tick.{at_next}

-- ---- what the source meaning has of one process

-- its calls in progress, innermost first; its variables; those of the monitor that it is inside,
-- none where it is inside none; and whether its handler runs
pub record View : Type 0 where
  pub calls : List Call
  pub vars : Vars
  pub monitor : Vars
  pub handling : Bool

abbrev pub view : List Call → Vars → Vars → Bool → View
view calls vars monitor handling = record { calls = calls; vars = vars; monitor = monitor; handling = handling }

-- the next action of a process that is so
abbrev pub next_of : Program → tree.Process → View → Next
next_of g text v = next_from g text v.calls None v.vars v.monitor

-- after a raise of the number, where the process has these variables: in its handler, or before the
-- end alone; it is inside no monitor
abbrev pub job_raised : Program → tree.Process → ℕ → Vars → Bool → config.Job
job_raised g text number vars handling = job_after_raise g number text.handler (record { vars = vars; doing = idle; calls = []; handling = handling })

abbrev pub view_raised : Program → tree.Process → ℕ → Vars → Bool → View
view_raised g text number vars handling =
    view (job_raised g text number vars handling).calls vars [] (job_raised g text number vars handling).handling

-- a process begins an activation
abbrev pub view_released : tree.Process → Vars → View
view_released text vars = view (call_of text.body ∷ []) vars [] false

-- ---- words of monitors

-- the words that a process inside this monitor, or none, reaches are the same
abbrev pub SameInside : Image → Option ℕ → (before after : List ℤ) → Type 0
SameInside image inside before after = (w : ℕ) → is_reached image inside (pos w) ≡ true → slice_get after w ≡ slice_get before w

-- the words that it does not reach are the same
abbrev pub SameOutside : Image → Option ℕ → (before after : List ℤ) → Type 0
SameOutside image inside before after = (w : ℕ) → is_reached image inside (pos w) ≡ false → slice_get after w ≡ slice_get before w

-- ---- one process of a compiled program

-- the image and the program; a process of them, by its number, in the image and in the text
pub record Compiled : Type 0 where
  pub image : Image
  pub program : Program
  pub number : ℕ
  pub process : Process
  pub text : tree.Process

-- The process, with its words and the words of all monitors, stands for a view. It is up to who
-- proves the code.
abbrev pub Standing : Type 1
Standing = Own → View → Type 0

-- the words hold these variables: those of the monitor with this number, in the area of all
-- monitors; or those of the process
abbrev pub Freeing : Type 1
Freeing = (monitor : ℕ) → (shared : List ℤ) → Vars → Type 0

abbrev pub Resting : Type 1
Resting = (owned : List ℤ) → Vars → Type 0

-- the process goes on as q where it was o: for a view, inside the same monitor or none, and no word
-- out of its reach has changed
pub record Stays (image : Image) (Stands : Standing) (o q : Own) (v : View) : Type 0 where
  pub stands : Stands q v
  pub inside : q.job.inside ≡ o.job.inside
  pub words : SameOutside image o.job.inside o.shared q.shared

-- it has entered monitor m, which its text calls, and stands whatever variables the monitor has
pub record Enters (c : Compiled) (Stands : Standing) (Free : Freeing) (o q : Own) (m : ℕ) (n : Next) (handling : Bool) : Type 0 where
  pub monitor : Monitor
  pub there : slice_get c.image.monitors m ≡ Some monitor
  pub reached : includes m (monitors_of c.program c.text) ≡ true
  pub outside : o.job.inside ≡ None
  pub inside : q.job.inside ≡ Some m
  pub words : q.shared ≡ o.shared
  pub stands : (vars : Vars) → Free m o.shared vars → Stands q (view n.calls n.process vars handling)

-- it has left monitor m, whose words hold the monitor's variables
pub record Leaves (c : Compiled) (Stands : Standing) (Free : Freeing) (o q : Own) (m : ℕ) (n : Next) (handling : Bool) : Type 0 where
  pub inside : o.job.inside ≡ Some m
  pub outside : q.job.inside ≡ None
  pub words : SameOutside c.image (Some m) o.shared q.shared
  pub free : Free m q.shared n.monitor
  pub stands : Stands q (view n.calls n.process [] handling)

-- it has left monitor m and waits; a time-out raises the number
pub record Pauses (c : Compiled) (Stands : Standing) (Free : Freeing) (o q : Own) (number : ℕ) (n : Next) (handling : Bool) : Type 0 where
  pub monitor : ℕ
  pub leaves : Leaves c Stands Free o q monitor n handling
  pub late : Stands (record { job = raised c.process number q.job; owned = q.owned; shared = q.shared }) (view_raised c.program c.text number n.process handling)

-- it raises the number: no word changes; it is in its handler or before its end, and the monitor
-- that it was inside has its variables
pub record Fails (c : Compiled) (Stands : Standing) (Free : Freeing) (o : Own) (number : ℕ) (n : Next) (handling : Bool) : Type 0 where
  pub free : (m : ℕ) → o.job.inside ≡ Some m → Free m o.shared n.monitor
  pub stands : Stands (record { job = raised c.process number o.job; owned = o.owned; shared = o.shared }) (view_raised c.program c.text number n.process handling)

-- its activation is over: it is inside no monitor, and its words hold its variables
pub record Finishes (Rests : Resting) (o : Own) (n : Next) : Type 0 where
  pub outside : o.job.inside ≡ None
  pub rests : Rests o.owned n.process

-- the variables of the monitor that the process is inside: none where it is inside none
abbrev pub kept : Option ℕ → Vars → Vars
kept None vars = []
kept (Some m) vars = vars

-- What the last tick of an instruction of process o comes to is what the source meaning has next:
-- n, of which the action is given once more. Nothing is asked of an instruction that is stuck, as
-- where a monitor is not free: other laws say that none is.
abbrev pub Agrees : (c : Compiled) → Standing → Freeing → Resting → State → (o : Own) → View → (n : Next) → Action → Outcome → Type 0
Agrees c Stands Free Rests s o v n a (Goes q) = Stays c.image Stands o q v
Agrees c Stands Free Rests s o v n (gets d) (Does (act.Get e x) q) =
    (e ≡ d) × (slice_get s.devices e ≡ Some x) × Stays c.image Stands o q (view (given (Some x) n.calls) n.process (kept o.job.inside n.monitor) v.handling)
Agrees c Stands Free Rests s o v n (puts d y) (Does (act.Put e x) q) =
    (e ≡ d) × (x ≡ y) × Stays c.image Stands o q (view n.calls n.process (kept o.job.inside n.monitor) v.handling)
Agrees c Stands Free Rests s o v n (enters m) (Does (act.Enter l) q) = (l ≡ m) × (is_free l s.threads ≡ true) × Enters c Stands Free o q l n v.handling
Agrees c Stands Free Rests s o v n (leaves m) (Does (act.Leave l) q) = (l ≡ m) × Leaves c Stands Free o q l n v.handling
Agrees c Stands Free Rests s o v n (asks_empty d) (Does (act.Empty e b) q) =
    (e ≡ d) × (waiting : List ℕ) × (slice_get s.queues e ≡ Some waiting) × (b ≡ is_none_waiting waiting)
    × Stays c.image Stands o q (view (given (Some (of_bool b)) n.calls) n.process (kept o.job.inside n.monitor) v.handling)
Agrees c Stands Free Rests s o v n (signals d) (Signals e q) = (e ≡ d) × Stays c.image Stands o q (view n.calls n.process (kept o.job.inside n.monitor) v.handling)
Agrees c Stands Free Rests s o v n (broadcasts d) (Broadcasts e q) = (e ≡ d) × Stays c.image Stands o q (view n.calls n.process (kept o.job.inside n.monitor) v.handling)
Agrees c Stands Free Rests s o v n (waits d limit number) (Waits e l f q) =
    (e ≡ d) × (l ≡ limit) × (f ≡ number) × Pauses c Stands Free o q f n v.handling
Agrees c Stands Free Rests s o v n (raises number) (Raises e) = (e ≡ number) × Fails c Stands Free o e n v.handling
Agrees c Stands Free Rests s o v n ends Ends = Finishes Rests o n
Agrees c Stands Free Rests s o v n a Stuck = Unit {0}
Agrees c Stands Free Rests s o v n a out = ⊥

-- the activation at the next instruction, with its words
abbrev pub next_own : Own → Own
next_own o = record { job = at_next o.job; owned = o.owned; shared = o.shared }

-- The code of the process is right: its activations begin before its body; what it stands for does
-- not depend on the ticks of its instruction that have passed, on ticks of dispatch, or on words
-- out of its reach; and the last tick of each instruction agrees with the source meaning.
pub record IsFaithful (c : Compiled) (Stands : Standing) (Free : Freeing) (Rests : Resting) : Type 0 where
  pub begins : Rests (zeros c.process.words) (map (fresh c.program) c.text.vars)
  pub starts : (owned shared : List ℤ) (vars : Vars) → Rests owned vars
      → Stands (record { job = released c.image c.process; owned = owned; shared = shared }) (view_released c.text vars)
  pub stable : (o : Own) (v : View) (done dispatch_ticks : ℕ) (shared : List ℤ) → Stands o v → SameInside c.image o.job.inside o.shared shared
      → Stands (record { job = record (o.job) { done = done; dispatch_ticks = dispatch_ticks }; owned = o.owned; shared = shared }) v
  pub ticks : (s : State) (o : Own) (v : View) → s.shared ≡ o.shared → Stands o v
      → (instr : Instr) × (slice_get c.image.code o.job.place ≡ Some instr)
      × Agrees c Stands Free Rests s o v (next_of c.program c.text v) (next_of c.program c.text v).action (effect c.image s instr (next_own o))
