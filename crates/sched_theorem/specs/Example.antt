-- A run of two processes, given as data, as the timing argument sees it.
use Rattle.std.specs.Prelude.{◌≡◌, ◌<◌, ◌+◌, ℕ, suc, true, false, List, [], slice_index_or, Option, Some, None}
use Rattle.sched_theorem.specs.declared.example.RemainingWork.{RemainingWork}
use Rattle.sched_theorem.specs.declared.example.Visit.{Visit}
use Rattle.sched_theorem.specs.declared.example.Moment.{Moment}
use Rattle.sched_theorem.specs.declared.example.Tick.{Tick}
use Rattle.sched_theorem.specs.declared.example.Run.{Run}
use Rattle.sched_theorem.specs.Stretches.{Life, Trace, flag}
use Rattle.sched_theorem.specs.Dispatched.{Stay, Dispatch, IsReady}
use Rattle.sched_theorem.specs.Ranked.{EndsAt}

-- no activation
abbrev pub idle : RemainingWork
idle = record { run_left = 0; suspension_left = 0; waits_left = 0; waiting = false }

-- the process of a place; any other place has none
abbrev pub moment_at : List Moment → ℕ → Moment
moment_at ms p = slice_index_or ms p (record { released = false; before = idle; after = idle; inside = None })

-- the tick of a number; after the last one all are idle
abbrev pub tick_at : Run → ℕ → Tick
tick_at r k = slice_index_or r.ticks k (record { picked = None; processes = [] })

-- the process of a place in a tick
abbrev pub process_at : Run → ℕ → ℕ → Moment
process_at r k p = moment_at (tick_at r k).processes p

-- an activation as the timing argument sees it
abbrev pub life_of : RemainingWork → Life
life_of a = record { run_left = a.run_left; suspension_left = a.suspension_left; waits_left = a.waits_left; waiting = flag a.waiting }

-- a stay as the timing argument sees it
abbrev pub stay_of : Option Visit → Option Stay
stay_of None = None
stay_of (Some v) = Some (record { ceiling = v.ceiling; left = v.left })

-- the lives and the releases of the run, by tick and place
abbrev pub trace_of : Run → Trace
trace_of r = record {
  before = λ k p. life_of (process_at r k p).before;
  after = λ k p. life_of (process_at r k p).after;
  released = λ k p. (process_at r k p).released;
}

-- who is picked in the run, and who is inside, by tick and place
abbrev pub dispatch_of : Run → Dispatch
dispatch_of r = record { picked = λ k. (tick_at r k).picked; inside = λ k p. stay_of (process_at r k p).inside }

-- the rank of a place
abbrev pub example_rank_of : Run → ℕ → ℕ
example_rank_of r p = slice_index_or r.ranks p 0

-- the place of a rank
abbrev pub place_of : Run → ℕ → ℕ
place_of r j = slice_index_or r.places j 0

-- the bound of a level
abbrev pub bound_of : Run → ℕ → ℕ
bound_of r level = slice_index_or r.bounds level 0

-- a lower process that is inside a monitor runs in a tick in which a higher one is ready
pub record Blocks (r : Run) : Type 0 where
  pub tick : ℕ
  pub lower : ℕ
  pub higher : ℕ
  pub ranked : example_rank_of r higher < example_rank_of r lower
  pub inside : (s : Stay) × ((dispatch_of r).inside tick lower ≡ Some s)
  pub runs : (dispatch_of r).picked tick ≡ Some lower
  pub held_up : IsReady ((trace_of r).after tick higher)

-- a process begins to wait in a tick in which it runs, and its wait ends with the start events of a
-- later tick
pub record Waits (r : Run) : Type 0 where
  pub place : ℕ
  pub begins : ℕ
  pub ends : ℕ
  pub runs : (dispatch_of r).picked begins ≡ Some place
  pub first : ((trace_of r).before (suc begins) place).waiting ≡ 1
  pub last : ((trace_of r).before ends place).waiting ≡ 1
  pub goes_on : IsReady ((trace_of r).after ends place)

-- what the run shows: each process is inside a monitor in some tick, a lower one blocks a higher
-- one, and one waits
pub record ShowsEach (r : Run) : Type 0 where
  pub both : (p : ℕ) → p < 2 → (k : ℕ) × (s : Stay) × ((dispatch_of r).inside k p ≡ Some s)
  pub blocks : Blocks r
  pub waits : Waits r

-- an activation of the place ends in the last tick of its bound
pub record ReachesBound (r : Run) (p : ℕ) : Type 0 where
  pub release : ℕ
  pub tick : ℕ
  pub last : suc tick ≡ release + bound_of r (example_rank_of r p)
  pub released : (trace_of r).released release p ≡ true
  pub ends : EndsAt (trace_of r) p tick

-- so it is for each of the two places
abbrev pub ReachesBounds : Run → Type 0
ReachesBounds r = (p : ℕ) → p < 2 → ReachesBound r p
