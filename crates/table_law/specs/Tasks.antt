-- The tasks of a task table: what each of its lines asks of the processor, and how long it can be
-- held up. All of it is told of the table alone.
use Rattle.std.specs.Prelude.{◌≡◌, ◌≤◌, ◌<◌, ◌+◌, ◌-◌, ◌*◌, ◌==◌, ◌&&◌, ◌||◌, ℕ, Bool, nat_lt, List, length, map, Some, Contains, slice_get, slice_index, unwrap_or}
use Rattle.base.specs.Capped.{cap}
use Rattle.sched_response.specs.declared.tasks.Task.{Task}
use Rattle.sched_response.specs.Counts.{count_below}
use Rattle.sched_response.specs.Demand.{task_at, Solves, IsBound}
use Rattle.sched_response.specs.Ranked.{IsGreatest}
use Rattle.table_format.specs.Spelling.{Word}
use Rattle.table_format.specs.Rules.{monitors_named}
use Rattle.table_format.specs.declared.table.TaskStay.{TaskStay}
use Rattle.table_format.specs.declared.table.TaskLine.{TaskLine}
use Rattle.table_format.specs.declared.table.TaskTable.{TaskTable}

-- ---- ranks

-- an activation of the line has to end within so many ticks: its frame where no deadline is given
abbrev pub deadline_of_line : TaskLine → ℕ
deadline_of_line p = unwrap_or p.deadline p.frame

abbrev pub deadline_at : TaskTable → (k : ℕ) → ℕ
deadline_at t k = slice_index (map deadline_of_line t.tasks) k

-- line j ranks higher than line k: its deadline is shorter, or as long and it stands earlier in the
-- table (Leung and Whitehead)
abbrev pub line_outranks : TaskTable → (j k : ℕ) → Bool
line_outranks t j k = nat_lt (deadline_at t j) (deadline_at t k) || (deadline_at t j == deadline_at t k && nat_lt j k)

-- one more than there are lines that rank higher
abbrev pub rank_of_line : TaskTable → (k : ℕ) → ℕ
rank_of_line t k = 1 + count_below (λ j. line_outranks t j k) (length t.tasks)

-- ---- ceilings

-- a line of this rank has a stay in the monitor
pub record IsRankIn (t : TaskTable) (monitor : Word) (rank : ℕ) : Type 0 where
  pub number : ℕ
  pub line : TaskLine
  pub there : slice_get t.tasks number ≡ Some line
  pub stays : Contains (monitors_named line) monitor
  pub ranked : rank ≡ rank_of_line t number

-- the ceiling of a monitor: the least rank of a line with a stay in it
pub record IsTableCeiling (t : TaskTable) (monitor : Word) (ceiling : ℕ) : Type 0 where
  pub one : IsRankIn t monitor ceiling
  pub least : (rank : ℕ) → IsRankIn t monitor rank → ceiling ≤ rank

-- ---- blocks

-- a stay, for so many ticks, of a line that ranks below this rank, in a monitor with a ceiling of
-- at most this rank
pub record IsStayBelow (t : TaskTable) (held_up ticks : ℕ) : Type 0 where
  pub number : ℕ
  pub line : TaskLine
  pub there : slice_get t.tasks number ≡ Some line
  pub lower : held_up < rank_of_line t number
  pub stay : TaskStay
  pub stays : Contains line.stays stay
  pub ceiling : ℕ
  pub is_ceiling : IsTableCeiling t stay.monitor ceiling
  pub reaches_up : ceiling ≤ held_up
  pub so_long : ticks ≡ stay.ticks

-- the block of a rank: the longest such stay, 0 where there is none
abbrev pub IsTableBlock : TaskTable → (held_up block : ℕ) → Type 0
IsTableBlock t held_up block = IsGreatest (IsStayBelow t held_up) block

-- ---- tasks

-- Line k as a task: two dispatches of so many ticks for each activation, no suspension and no wait.
-- The ticks that it runs are counted up to where numbers are counted.
pub record IsTaskOfLine (t : TaskTable) (over k : ℕ) (p : TaskLine) (task : Task) : Type 0 where
  pub frame : task.frame ≡ p.frame
  pub deadline : task.deadline ≡ deadline_of_line p
  pub run : task.run ≡ cap (p.cost + 2 * over)
  pub susp : task.susp ≡ 0
  pub waits : task.waits ≡ 0
  pub block : IsTableBlock t (rank_of_line t k) task.block

-- The tasks of a table with an overhead: one for each line, in the order of ranks.
pub record AreTableTasks (t : TaskTable) (over : ℕ) (ts : List Task) : Type 0 where
  pub one_each : length ts ≡ length t.tasks
  pub each : (k : ℕ) (p : TaskLine) → slice_get t.tasks k ≡ Some p → IsTaskOfLine t over k p (task_at ts (rank_of_line t k - 1))

-- ---- in time

-- the recurrence of each line (Burns and Wellings) has a solution within its deadline
pub record IsTableInTime (t : TaskTable) (over : ℕ) : Type 0 where
  pub tasks : List Task
  pub are : AreTableTasks t over tasks
  pub each : (level : ℕ) → level < length tasks → (r : ℕ) × Solves tasks level r

-- the bound of line k: the least solution, if there is one
pub record IsBoundOfLine (t : TaskTable) (over k bound : ℕ) : Type 0 where
  pub tasks : List Task
  pub are : AreTableTasks t over tasks
  pub least : IsBound tasks (rank_of_line t k - 1) bound
