-- The tasks of a table are those of its program.
use Rattle.std.specs.Prelude.{◌≡◌, ◌↔◌, ℕ, List, Some}
use Rattle.source_semantics.specs.Names.{monitor_number}
use Rattle.source_semantics.specs.Ranks.{rank, ceiling}
use Rattle.sched_response.specs.declared.tasks.Task.{Task}
use Rattle.sched_program.specs.Tasks.{IsBlock, AreTasksOf, IsInTime, IsBoundOf}
use Rattle.table_format.specs.Spelling.{Word}
use Rattle.table_format.specs.Rules.{IsBegun}
use Rattle.table_format.specs.declared.table.TaskTable.{TaskTable}
use Rattle.table_law.specs.Costs.{table_program}
use Rattle.table_law.specs.Tasks.{rank_of_line, IsTableCeiling, IsTableBlock, AreTableTasks, IsTableInTime, IsBoundOfLine}

-- The law: the process of a line has the rank of the line.
abbrev pub RanksAreOfTheTable : Type 0
RanksAreOfTheTable = (t : TaskTable) (k : ℕ) → rank (table_program t) k ≡ rank_of_line t k

-- The law: a monitor has the ceiling that the table gives it, and none where it gives none.
abbrev pub CeilingsAreOfTheTable : Type 0
CeilingsAreOfTheTable =
    (t : TaskTable) → IsBegun t → (monitor : Word) (c : ℕ)
    → IsTableCeiling t monitor c ↔ (ceiling (table_program t) (monitor_number (table_program t) monitor) ≡ Some c)

-- The law: a rank has the block that the table gives it.
abbrev pub BlocksAreOfTheTable : Type 0
BlocksAreOfTheTable = (t : TaskTable) → IsBegun t → (held_up block : ℕ) → IsTableBlock t held_up block ↔ IsBlock (table_program t) held_up block

-- The law: the tasks of a table are those of its program.
abbrev pub TasksAreOfTheTable : Type 0
TasksAreOfTheTable = (t : TaskTable) → IsBegun t → (over : ℕ) (ts : List Task) → AreTableTasks t over ts ↔ AreTasksOf (table_program t) over ts

-- The law: a table is in time where its program is.
abbrev pub TablesAreInTime : Type 0
TablesAreInTime = (t : TaskTable) → IsBegun t → (over : ℕ) → IsTableInTime t over ↔ IsInTime (table_program t) over

-- The law: a line has the bound of its process.
abbrev pub BoundsAreOfTheTable : Type 0
BoundsAreOfTheTable = (t : TaskTable) → IsBegun t → (over k bound : ℕ) → IsBoundOfLine t over k bound ↔ IsBoundOf (table_program t) over k bound
