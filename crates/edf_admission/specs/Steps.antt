-- What the parts of the call find: the process of a rank, the block of a deadline, and the tasks.
use Rattle.std.specs.Prelude.{◌≡◌, ◌+◌, ◌<◌, ◌≤◌, ℕ, List, Some, length, slice_get}
use Rattle.machine_semantics.specs.Image.{Image, Process}
use Rattle.sched_demand.specs.declared.tasks.DemandTask.{DemandTask}
use Rattle.sched_demand.specs.Demand.{task_at}
use Rattle.command_due.specs.Tasks.{IsLastOfDeadline}

-- process k has the rank
pub record HasRank (m : Image) (rank k : ℕ) : Type 0 where
  pub p : Process
  pub at : slice_get m.processes k ≡ Some p
  pub is : p.rank ≡ rank

abbrev pub SomeHasRank : Image → ℕ → Type 0
SomeHasRank m rank = (k : ℕ) × HasRank m rank k

abbrev pub EachRankIsHad : Image → Type 0
EachRankIsHad m = (level : ℕ) → level < length m.processes → SomeHasRank m (level + 1)

-- the block is that of the last process with the deadline, in the order of ranks
pub record IsLastBlock (m : Image) (deadline block : ℕ) : Type 0 where
  pub k : ℕ
  pub q : Process
  pub at : slice_get m.processes k ≡ Some q
  pub of : q.deadline ≡ deadline
  pub last : IsLastOfDeadline m q
  pub is : q.block ≡ block

-- it is that of the last one with the deadline of process k
abbrev pub IsBlockOfLast : Image → (k block : ℕ) → Type 0
IsBlockOfLast m k block = (p : Process) → slice_get m.processes k ≡ Some p → IsLastBlock m p.deadline block

-- the task has the frame, the deadline and the cost of the process of the rank, and the block of
-- its deadline
pub record IsAsked (m : Image) (rank : ℕ) (t : DemandTask) : Type 0 where
  pub k : ℕ
  pub has : HasRank m rank k
  pub frame : t.frame ≡ has.p.frame
  pub deadline : t.deadline ≡ has.p.deadline
  pub cost : t.cost ≡ has.p.run
  pub block : IsLastBlock m has.p.deadline t.block

-- the task of each rank, in the order of ranks
pub record AreAsked (m : Image) (ts : List DemandTask) : Type 0 where
  pub many : length ts ≡ length m.processes
  pub each : (level : ℕ) → level < length ts → IsAsked m (level + 1) (task_at ts level)

-- ---- the search for the last block

-- of the first n processes none with the deadline has a rank above this, which is that of one with
-- the deadline and the block
pub record IsLastSoFar (m : Image) (deadline n rank block : ℕ) : Type 0 where
  pub k : ℕ
  pub q : Process
  pub at : slice_get m.processes k ≡ Some q
  pub of : q.deadline ≡ deadline
  pub ranks : q.rank ≡ rank
  pub is : q.block ≡ block
  pub last : (j : ℕ) (p : Process) → j < n → slice_get m.processes j ≡ Some p → p.deadline ≡ deadline → p.rank ≤ rank
