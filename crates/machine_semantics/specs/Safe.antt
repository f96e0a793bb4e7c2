-- A valid image, as far as no process is stuck; a process of it, and one tick of this process.
use Rattle.std.specs.Prelude.{◌≡◌, ◌≤◌, ◌<◌, ◌+◌, ◌⊎◌, ℕ, Bool, true, false, ℤ, List, length, Option, Some, None, slice_get}
use Rattle.machine_isa.specs.declared.instr.Instr.{Instr}
use Rattle.machine_isa.specs.declared.instr.Instr.TheVariants as i
use Rattle.machine_semantics.specs.Trees.{Segs}
use Rattle.machine_semantics.specs.Image.{Monitor, Process, end_of}
use Rattle.machine_semantics.specs.State.{Job, State}
use Rattle.machine_semantics.specs.Effect.{Own, Outcome, Goes, Does, Signals, Broadcasts, Waits, Raises, Ends, Stuck}
use Rattle.machine_isa.specs.Ticks.{ticks}
use Rattle.machine_semantics.specs.Starts.{raised, lists}
use Rattle.machine_semantics.specs.Tick.{outcome_at}
use Rattle.machine_semantics.specs.Run.{words_of}
use Rattle.machine_semantics.specs.Part.{Part, IsSized}
use Rattle.machine_semantics.specs.Walk.{Where, WalkCost, Covers, At, Reaches, Walks, within}
use Rattle.machine_semantics.specs.Job.{Stands, Comes, FindsFree, RoutinesFit}

-- ---- a process of a valid image

-- the parts of a process, and what their trees cost at most, without the END
pub record Parts : Type 0 where
  pub body : Part
  pub handler : Part
  pub body_cost : WalkCost
  pub handler_cost : WalkCost

-- the part is a process's own: it ends with END, has the process's locals, words and stack, and the
-- ceiling of each monitor that it enters is at most, as a number, the process's rank
pub record IsOwn (p : Process) (part : Part) : Type 0 where
  pub last : part.last ≡ i.End
  pub results : part.results ≡ 0
  pub monitor : part.monitor ≡ None
  pub locals : part.locals ≡ p.locals
  pub owned : part.owned ≡ p.words
  pub limit : part.limit ≤ p.rank
  pub stack : part.locals + part.depth ≤ p.stack

-- the code of a handler is of its tree, up to its END
pub record HandlerFits (e : Where) (p : Process) (ps : Parts) (tree : Segs) : Type 0 where
  pub code : Walks (within e ps.handler) None None 0 tree p.handler (end_of p true) 0 0 ps.handler_cost
  pub ends : At e (end_of p true) i.End

-- the code of a process is of its trees, up to the END of each; where it takes a number there is a
-- handler, which waits nowhere
pub record ProcessFits (e : Where) (p : Process) (ps : Parts) : Type 0 where
  pub body : IsOwn p ps.body
  pub code : Walks (within e ps.body) None None 0 p.body p.start (end_of p false) 0 0 ps.body_cost
  pub ends : At e (end_of p false) i.End
  pub handler : IsOwn p ps.handler
  pub handles : (number : ℕ) → lists p.numbers number ≡ true → (tree : Segs) × HandlerFits e p ps tree
  pub no_susp : ps.handler_cost.susp ≡ 0
  pub no_waits : ps.handler_cost.waits ≡ 0

-- The premise of the laws: what a valid image is, as far as no process is stuck. Each routine and
-- process fits its trees, and the monitors' words stand in the area of all of them.
pub record ImageFits (e : Where) (ps : ℕ → Parts) : Type 0 where
  pub routines : RoutinesFit e
  pub bases : (m : ℕ) (monitor : Monitor) → slice_get e.image.monitors m ≡ Some monitor → monitor.base + monitor.words ≤ words_of e.image.monitors
  pub processes : (k : ℕ) (p : Process) → slice_get e.image.processes k ≡ Some p → ProcessFits e p (ps k)

-- the part that a process is in: its handler, or its body
abbrev pub part_of : Parts → Bool → Part
part_of ps false = ps.body
part_of ps true = ps.handler

-- the ticks that a handler which has not run may still take
abbrev pub spare : Parts → Bool → ℕ
spare ps false = ps.handler_cost.run
spare ps true = 0

-- an activation with the words that its instructions change
abbrev pub own_of : Job → List ℤ → List ℤ → Own
own_of job owned shared = record { job = job; owned = owned; shared = shared }

-- ---- a state

-- a ready process fits its trees, with at most so much left to do: the ticks of its instruction
-- that have passed are paid, and a handler that has not run may still come
pub record ReadyFits (e : Where) (p : Process) (ps : Parts) (job : Job) (owned shared : List ℤ) (left : WalkCost) : Type 0 where
  pub cost : WalkCost
  pub fits : (Stands e (part_of ps job.handling) (own_of job owned shared) cost) ⊎ (Comes e (part_of ps job.handling) (own_of job owned shared) cost)
  pub early : (instr : Instr) → At e job.place instr → job.done < ticks instr
  pub ends : At e (end_of p job.handling) i.End
  pub run : cost.run + spare ps job.handling ≤ left.run + job.done
  pub susp : cost.susp ≤ left.susp
  pub waits : cost.waits ≤ left.waits
  pub leave : (m : ℕ) → job.inside ≡ Some m → cost.leave ≤ left.leave + job.done

-- a waiting process, outside its monitor, with at most so much left to do after the wait
pub record WaitingFits (e : Where) (p : Process) (ps : Parts) (job : Job) (owned shared : List ℤ) (left : WalkCost) : Type 0 where
  pub cost : WalkCost
  pub fits : Comes e (part_of ps job.handling) (own_of job owned shared) cost
  pub fresh : job.done ≡ 0
  pub ends : At e (end_of p job.handling) i.End
  pub run : cost.run + spare ps job.handling ≤ left.run
  pub susp : cost.susp ≤ left.susp
  pub waits : cost.waits ≤ left.waits

-- ---- one tick of a process

-- the process is ready again, with one tick less at least; was is the monitor that it was inside,
-- burnt the ticks of dispatch that it had
pub record Ticks (e : Where) (p : Process) (ps : Parts) (own : Part) (was : Option ℕ) (burnt : ℕ) (before words : List ℤ) (left : WalkCost) (q : Own) : Type 0 where
  pub after : WalkCost
  pub fits : ReadyFits e p ps q.job q.owned q.shared after
  pub less : Covers left (after.run + 1) after.susp after.waits 0
  pub inside : (q.job.inside ≡ was) ⊎ ((q.job.inside ≡ None) ⊎ (was ≡ None))
  pub stays : (m : ℕ) → was ≡ Some m → q.job.inside ≡ Some m → after.leave + 1 ≤ left.leave
  pub dispatch_ticks : q.job.dispatch_ticks ≤ burnt
  pub begins : (m : ℕ) → was ≡ None → q.job.inside ≡ Some m → after.leave ≤ own.stays m
  pub reaches : (m : ℕ) → was ≡ None → q.job.inside ≡ Some m → Reaches (within e own) m
  pub owned : length q.owned ≡ length before
  pub shared : length q.shared ≡ length words

-- the process waits, with one tick and the wait less at least
pub record Pausing (e : Where) (p : Process) (ps : Parts) (before words : List ℤ) (left : WalkCost) (condition limit : ℕ) (q : Own) : Type 0 where
  pub monitor : ℕ
  pub of : slice_get e.image.conditions condition ≡ Some monitor
  pub after : WalkCost
  pub fits : WaitingFits e p ps q.job q.owned q.shared after
  pub less : Covers left (after.run + 1) (after.susp + limit) (after.waits + 1) 0
  pub owned : length q.owned ≡ length before
  pub shared : length q.shared ≡ length words

-- what a tick of the process comes to
abbrev pub TickFits : Where → Process → Parts → Job → List ℤ → List ℤ → WalkCost → Outcome → Type 0
TickFits e p ps job owned shared left (Goes q) = Ticks e p ps (part_of ps job.handling) job.inside job.dispatch_ticks owned shared left q
TickFits e p ps job owned shared left (Does a q) = Ticks e p ps (part_of ps job.handling) job.inside job.dispatch_ticks owned shared left q
TickFits e p ps job owned shared left (Signals c q) = Ticks e p ps (part_of ps job.handling) job.inside job.dispatch_ticks owned shared left q
TickFits e p ps job owned shared left (Broadcasts c q) = Ticks e p ps (part_of ps job.handling) job.inside job.dispatch_ticks owned shared left q
TickFits e p ps job owned shared left (Waits c limit number q) = Pausing e p ps owned shared left c limit q
TickFits e p ps job owned shared left (Raises number) = Ticks e p ps (part_of ps job.handling) job.inside job.dispatch_ticks owned shared left (own_of (raised p number job) owned shared)
TickFits e p ps job owned shared left Ends = 1 ≤ left.run
TickFits e p ps job owned shared left Stuck = ⊥

-- The law: a tick of an instruction of a ready process is not stuck; the process fits after it and
-- has less left.
abbrev pub TickIsSafe : Type 0
TickIsSafe = (e : Where) (ps : Parts) (s : State) (p : Process) (job : Job) (owned : List ℤ) (left : WalkCost)
    → RoutinesFit e → ProcessFits e p ps → IsSized e.image s s.shared → ReadyFits e p ps job owned s.shared left
    → FindsFree e s (part_of ps job.handling) (own_of job owned s.shared)
    → TickFits e p ps job owned s.shared left (outcome_at e.image s job owned (slice_get e.image.code job.place))
