-- The table of a program's timing: ranks by deadlines, immediate ceilings, blocks, and the least
-- bounds by the recurrence.
use Rattle.std.specs.Prelude.{◌≡◌, ◌<◌, ◌-◌, ◌↔◌, ℕ, List, length, All, IsSome, Option, Some, None, slice_index, slice_index_or}
use Rattle.sched_response.specs.declared.uses.Use.{Use}
use Rattle.sched_response.specs.Ranked.{use_at, AreRanks, AreCeilings, IsBlocking}
use Rattle.sched_response.specs.declared.tasks.Task.{Task}
use Rattle.sched_response.specs.Demand.{task_at, Solves, IsBound}
use Rattle.sched_table.specs.declared.table.Size.{Size}
use Rattle.sched_table.specs.declared.table.Row.{Row}
use Rattle.sched_table.specs.declared.table.Table.{Table}

abbrev pub size_at : List Size → ℕ → Size
size_at sizes p = slice_index_or sizes p (record { words = 0; stack = 0 })

abbrev pub row_at : List Row → ℕ → Row
row_at rows p = slice_index_or rows p (record { frame = 0; deadline = 0; rank = 0; cost = record { run = 0; susp = 0; waits = 0 }; block = 0; bound = None; size = record { words = 0; stack = 0 } })

-- each process has the blocking of its rank
pub record AreBlocks (us : List Use) (ranks : List ℕ) (ceilings : List (Option ℕ)) (blocks : List ℕ) : Type 0 where
  pub one_each : length blocks ≡ length us
  pub each : (p : ℕ) → p < length us → IsBlocking us ranks ceilings (slice_index ranks p) (slice_index blocks p)

-- what the recurrence asks of a process
abbrev pub task_of : Use → ℕ → Task
task_of u block = record { frame = u.frame; deadline = u.deadline; run = u.cost.run; susp = u.cost.susp; waits = u.cost.waits; block = block }

-- the tasks in the order of the ranks: that of the process of rank 1 stands at level 0
pub record AreInOrder (us : List Use) (ranks blocks : List ℕ) (tasks : List Task) : Type 0 where
  pub one_each : length tasks ≡ length us
  pub each : (p : ℕ) → p < length us → task_at tasks (slice_index ranks p - 1) ≡ task_of (use_at us p) (slice_index blocks p)

-- the least response within the deadline that meets the recurrence of the level, and None exactly
-- where there is none
abbrev pub IsBoundAt : List Task → ℕ → Option ℕ → Type 0
IsBoundAt tasks level None = (r : ℕ) → ¬ Solves tasks level r
IsBoundAt tasks level (Some r) = IsBound tasks level r

-- the row of a process of rank r and block b: what it uses and needs, and the bound of the level of
-- its rank
pub record IsRow (u : Use) (needs : Size) (r b : ℕ) (tasks : List Task) (row : Row) : Type 0 where
  pub frame : row.frame ≡ u.frame
  pub deadline : row.deadline ≡ u.deadline
  pub rank : row.rank ≡ r
  pub cost : row.cost ≡ u.cost
  pub block : row.block ≡ b
  pub bound : IsBoundAt tasks (r - 1) row.bound
  pub size : row.size ≡ needs

-- a row for each process, in the order of the text
pub record AreRows (us : List Use) (sizes : List Size) (ranks blocks : List ℕ) (tasks : List Task) (rows : List Row) : Type 0 where
  pub one_each : length rows ≡ length us
  pub each : (p : ℕ) → p < length us → IsRow (use_at us p) (size_at sizes p) (slice_index ranks p) (slice_index blocks p) tasks (row_at rows p)

-- the rows by the ranks, the blocks and the tasks, and the ceiling of each monitor
pub record IsTable (us : List Use) (monitors : ℕ) (sizes : List Size) (table : Table) : Type 0 where
  pub ranks : List ℕ
  pub blocks : List ℕ
  pub tasks : List Task
  pub ranked : AreRanks us ranks
  pub ceilings : AreCeilings us ranks monitors table.ceilings
  pub blocked : AreBlocks us ranks table.ceilings blocks
  pub ordered : AreInOrder us ranks blocks tasks
  pub rows : AreRows us sizes ranks blocks tasks table.rows

-- each process has a bound
abbrev pub IsTimely : Table → Type 0
IsTimely table = All (λ row. IsSome row.bound) table.rows

-- each process has a response within its deadline that meets the recurrence of its rank
abbrev pub AllRespond : List Use → List ℕ → List Task → Type 0
AllRespond us ranks tasks = (p : ℕ) → p < length us → (r : ℕ) × Solves tasks (slice_index ranks p - 1) r

-- The law: a table is timely exactly where each process has such a response.
abbrev pub TimelyTablesRespond : Type 0
TimelyTablesRespond = (us : List Use) (monitors : ℕ) (sizes : List Size) (table : Table) → (is : IsTable us monitors sizes table) → IsTimely table ↔ AllRespond us is.ranks is.tasks
