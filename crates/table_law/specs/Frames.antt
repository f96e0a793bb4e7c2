-- The frames and the deadlines of a table's program are those of the table.
use Rattle.std.specs.Prelude.{◌≡◌, unwrap_or}
use Rattle.source_semantics.specs.Names.{frame_of, deadline_of}
use Rattle.table_format.specs.declared.table.TaskLine.{TaskLine}
use Rattle.table_format.specs.declared.table.TaskTable.{TaskTable}
use Rattle.table_law.specs.Costs.{table_program, process_of}

abbrev pub HasFrames : Type 0
HasFrames = (t : TaskTable) (line : TaskLine) → frame_of (table_program t) (process_of t line).activation ≡ line.frame

-- the frame where the table has no deadline
abbrev pub HasDeadlines : Type 0
HasDeadlines = (t : TaskTable) (line : TaskLine) → deadline_of (table_program t) (process_of t line).activation ≡ unwrap_or line.deadline line.frame
