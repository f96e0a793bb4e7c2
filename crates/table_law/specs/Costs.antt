-- The costs of a table's program are those of the table, and so are its stays.
use Rattle.std.specs.Prelude.{◌≡◌, ◌≤◌, ◌-◌, ℕ, Some, map, slice_get}
use Rattle.syntax_tree.specs.Plain as plain_of
use Rattle.syntax_tree.specs.Placed.{plain, plain_process, plain_routine}
use Rattle.source_semantics.specs.Names.{processes}
use Rattle.code_spec.specs.Layout.{by_monitor}
use Rattle.code_cost_spec.specs.Costs.{run}
use Rattle.code_cost_spec.specs.Levels.{cost_of_process, stay_of_entry}
use Rattle.table_format.specs.declared.table.TaskLine.{TaskLine}
use Rattle.table_format.specs.declared.table.TaskTable.{TaskTable}
use Rattle.table_format.specs.Rules.{IsBegun}
use Rattle.table_format.specs.Program.{made_tail, stay_entry, table_process, program_of}
use Rattle.table_law.specs.Ticks.{IsMet}

-- the program of a table, without places
abbrev pub table_program : TaskTable → plain_of.Program
table_program t = plain (program_of t)

-- the process of a line
abbrev pub process_of : TaskTable → TaskLine → plain_of.Process
process_of t line = plain_process (table_process (made_tail t) line)

-- the processes are those of the lines, in order
abbrev pub HasProcesses : Type 0
HasProcesses = (t : TaskTable) → processes (table_program t) ≡ map (process_of t) t.tasks

-- the process of a line takes the ticks of its cost, and neither waits nor suspends itself
abbrev pub HasCosts : Type 0
HasCosts =
    (t : TaskTable) → IsBegun t → (k : ℕ) (line : TaskLine) → slice_get t.tasks k ≡ Some line
    → cost_of_process (table_program t) k (process_of t line) ≡ run line.cost

-- an entry stays in its monitor for the ticks that it is made for
abbrev pub HasStays : Type 0
HasStays =
    (t : TaskTable) (monitor ticks : ℕ) → 3 ≤ ticks → ticks ≤ 1000000000 → IsMet (ticks - 3)
    → stay_of_entry (table_program t) (record { owner = by_monitor monitor; routine = plain_routine (stay_entry (made_tail t) ticks) }) ≡ ticks
