-- A process that fits its trees: its innermost frame, and its calls in progress.
use Rattle.std.specs.Prelude.{◌≡◌, ◌≤◌, ◌+◌, ◌⊎◌, ℕ, true, List, [], ◌∷◌, length, Option, Some, None, slice_get}
use Rattle.machine_isa.specs.declared.instr.Instr.{Instr}
use Rattle.machine_isa.specs.declared.instr.Instr.TheVariants as i
use Rattle.machine_semantics.specs.Image.{Monitor, Routine}
use Rattle.machine_semantics.specs.State.{Caller, State, is_free}
use Rattle.machine_semantics.specs.Effect.{Own, Outcome, Goes, Does, Signals, Broadcasts, Waits, Raises, Ends, Stuck, effect}
use Rattle.machine_isa.specs.Ticks.{ticks}
use Rattle.machine_semantics.specs.Part.{Part, kinds, plains, IsSized}
use Rattle.machine_semantics.specs.Walk.{Where, WalkCost, Covers, At, Reaches, Walks, within}
use Rattle.machine_semantics.specs.Path.{Step, under, held, Follows, Frame, Returning, next_own}

-- ---- routines

-- the code of a routine is of its tree and ends in its return, with the operand that this gives;
-- its cost is told with the return
pub record RoutineFits (e : Where) (r : ℕ) (routine : Routine) : Type 0 where
  pub locals : (e.parts r).locals ≡ routine.locals
  pub last : ℕ
  pub inner : WalkCost
  pub tree : Walks (within e (e.parts r)) None None 0 routine.tree routine.start last 0 (e.parts r).results inner
  pub ends : At e last (e.parts r).last
  pub returns : (((e.parts r).results ≡ 0) × ((e.parts r).last ≡ i.Return)) ⊎ (((e.parts r).results ≡ 1) × ((e.parts r).last ≡ i.ReturnValue))
  pub entry : ((e.parts r).monitor ≡ None) ⊎ ((e.parts r).level ≡ 1)
  pub covers : Covers (e.costs r) (inner.run + 4) inner.susp inner.waits (inner.leave + 4)

-- so is each routine of the image
abbrev pub RoutinesFit : Where → Type 0
RoutinesFit e = (r : ℕ) (routine : Routine) → slice_get e.image.routines r ≡ Some routine → RoutineFits e r routine

-- ---- calls in progress

-- the ticks until the monitor is left, from those of a frame and those of its callers: an entry
-- leaves it itself, any other part is followed by its callers
abbrev pub joined : Option ℕ → ℕ → ℕ → ℕ
joined None here later = here + later
joined (Some m) here later = here

-- what is left of the stay that the frame is in is no longer than its part tells
abbrev pub IsShort : Part → List Step → ℕ → Type 0
IsShort part path leave = (m : ℕ) → part.monitor ≡ Some m → held path ≡ Some m → leave ≤ part.stays m

-- The monitor that the process is inside: an entry's own steps tell it, and then no caller is
-- inside one; any other part is inside what its callers are inside. A part that may call entries is
-- inside none.
pub record Inside (part : Part) (path : List Step) (inside below : Option ℕ) : Type 0 where
  pub told : ((part.monitor ≡ None) × (inside ≡ below)) ⊎ ((inside ≡ held path) × (below ≡ None))
  pub outer : part.level ≡ 2 → inside ≡ None

-- The callers of a part, from the innermost out to the process's own part. Each has steps of its
-- own from where it goes on, once the part has left its results; the frames together fit the depth
-- that the outermost part has.
abbrev pub Chain : Where → (own part : Part) → List Caller → (inside : Option ℕ) → WalkCost → Type 0
Chain e own part [] inside c = (part ≡ own) × (inside ≡ None)
Chain e own part (k ∷ ks) inside c = record {
  r : ℕ;
  is_routine : part ≡ e.parts r;
  routine : Routine;
  there : slice_get e.image.routines r ≡ Some routine;
  caller : Part;
  path : List Step;
  out : Option ℕ;
  h : ℕ;
  first : WalkCost;
  later : WalkCost;
  below : Option ℕ;
  follows : Follows (within e caller) out path k.back (part.results + h) first;
  operands : kinds k.operands ≡ plains h (under path);
  locals : length k.locals ≡ caller.locals;
  owned : part.owned ≤ caller.owned;
  limit : part.limit ≤ caller.limit;
  stays : (m : ℕ) → part.stays m ≤ caller.stays m;
  short : IsShort caller path first.leave;
  room : length (plains h (under path)) + 2 + part.locals + part.depth ≤ caller.depth;
  room_after : length (plains (part.results + h) (under path)) ≤ caller.depth;
  inside_is : Inside caller path inside below;
  more : Chain e own caller ks below later;
  covers : Covers c (first.run + later.run) (first.susp + later.susp) (first.waits + later.waits) (joined caller.monitor first.leave later.leave);
}

-- the process stands at an instruction of a part, in a frame with steps to do, above its callers;
-- it has at most this to do
pub record Stands (e : Where) (own : Part) (o : Own) (c : WalkCost) : Type 0 where
  pub part : Part
  pub path : List Step
  pub out : Option ℕ
  pub height : ℕ
  pub here : WalkCost
  pub later : WalkCost
  pub below : Option ℕ
  pub frame : Frame (within e part) path out height here o
  pub inside_is : Inside part path o.job.inside below
  pub short : IsShort part path here.leave
  pub chain : Chain e own part o.job.callers below later
  pub enough : own.owned ≤ length o.owned
  pub covers : Covers c (here.run + later.run) (here.susp + later.susp) (here.waits + later.waits) (joined part.monitor here.leave later.leave)

-- the process stands at the REENT that follows a wait, outside all monitors
pub record Comes (e : Where) (own : Part) (o : Own) (c : WalkCost) : Type 0 where
  pub part : Part
  pub path : List Step
  pub out : Option ℕ
  pub height : ℕ
  pub here : WalkCost
  pub later : WalkCost
  pub back : Returning (within e part) path out height here o
  pub outside : o.job.inside ≡ None
  pub level : (part.level ≡ 2) → ⊥
  pub chain : Chain e own part o.job.callers None later
  pub enough : own.owned ≤ length o.owned
  pub covers : Covers c (here.run + later.run) (here.susp + later.susp) (here.waits + later.waits) (joined part.monitor here.leave later.leave)

-- ---- what an instruction of n ticks comes to

-- the process stands at an instruction again, with at least n ticks less to do
pub record Less (e : Where) (own : Part) (c : WalkCost) (n : ℕ) (o p : Own) : Type 0 where
  pub cost : WalkCost
  pub stands : Stands e own p cost
  pub less : Covers c (cost.run + n) cost.susp cost.waits 0
  -- it stays where it was, or leaves its monitor, or was inside none
  pub inside : (p.job.inside ≡ o.job.inside) ⊎ ((p.job.inside ≡ None) ⊎ (o.job.inside ≡ None))
  -- what is left of a stay falls, and a stay that begins is no longer than the part tells
  pub stays : (m : ℕ) → o.job.inside ≡ Some m → p.job.inside ≡ Some m → cost.leave + n ≤ c.leave
  pub begins : (m : ℕ) → o.job.inside ≡ None → p.job.inside ≡ Some m → cost.leave ≤ own.stays m
  -- the part may enter the monitor that it enters
  pub reaches : (m : ℕ) → o.job.inside ≡ None → p.job.inside ≡ Some m → Reaches (within e own) m
  pub done : p.job.done ≡ 0
  pub dispatch_ticks : p.job.dispatch_ticks ≡ o.job.dispatch_ticks
  pub handling : p.job.handling ≡ o.job.handling
  pub owned : length p.owned ≡ length o.owned
  pub shared : length p.shared ≡ length o.shared

-- the process waits on a condition, for at most limit ticks, with at least n ticks and the wait
-- less to do
pub record Pauses (e : Where) (own : Part) (c : WalkCost) (n condition limit : ℕ) (o p : Own) : Type 0 where
  -- there is such a condition, so it has a queue
  pub monitor : ℕ
  pub of : slice_get e.image.conditions condition ≡ Some monitor
  pub cost : WalkCost
  pub comes : Comes e own p cost
  pub less : Covers c (cost.run + n) (cost.susp + limit) (cost.waits + 1) 0
  pub done : p.job.done ≡ 0
  pub dispatch_ticks : p.job.dispatch_ticks ≡ o.job.dispatch_ticks
  pub handling : p.job.handling ≡ o.job.handling
  pub owned : length p.owned ≡ length o.owned
  pub shared : length p.shared ≡ length o.shared

-- the outcome is not stuck; where it goes on the process fits, and a raise leaves at least the
-- ticks of an END to be paid
abbrev pub Keeps : Where → Part → WalkCost → ℕ → Own → Outcome → Type 0
Keeps e own c n o (Goes p) = Less e own c n o p
Keeps e own c n o (Does a p) = Less e own c n o p
Keeps e own c n o (Signals k p) = Less e own c n o p
Keeps e own c n o (Broadcasts k p) = Less e own c n o p
Keeps e own c n o (Waits k limit number p) = Pauses e own c n k limit o p
Keeps e own c n o (Raises number) = 4 + n ≤ c.run
Keeps e own c n o Ends = n ≤ c.run
Keeps e own c n o Stuck = ⊥

-- if the process is inside no monitor, each one that it may enter is free
abbrev pub FindsFree : Where → State → Part → Own → Type 0
FindsFree e s own o = (m : ℕ) (monitor : Monitor) → slice_get e.image.monitors m ≡ Some monitor → monitor.ceiling ≤ own.limit → o.job.inside ≡ None → is_free m s.threads ≡ true

-- The law: an instruction of a process that fits its trees is not stuck; the process fits them
-- after it, with less to do.
abbrev pub InstructionIsSafe : Type 0
InstructionIsSafe = (e : Where) (s : State) (own : Part) (o : Own) (c : WalkCost) → RoutinesFit e → IsSized e.image s o.shared → own.last ≡ i.End
    → (Stands e own o c) ⊎ (Comes e own o c) → FindsFree e s own o
    → (instr : Instr) × At e o.job.place instr × Keeps e own c (ticks instr) o (effect e.image s instr (next_own o)) × ((m : ℕ) → o.job.inside ≡ Some m → ticks instr ≤ c.leave)
