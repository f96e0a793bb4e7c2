-- A table's program has not too many instructions, and its stacks are small.
use Rattle.std.specs.Prelude.{◌≡◌, ◌≤◌, ◌+◌, ◌-◌, ℕ, Some, slice_get}
use Rattle.syntax_tree.specs.Placed.{plain_routine}
use Rattle.code_spec.specs.Layout.{by_monitor, routine_words}
use Rattle.code_cost_spec.specs.Heights.{routine_height}
use Rattle.code_cost_spec.specs.Levels.{calls_of, stack_of_process, code_length}
use Rattle.table_format.specs.declared.table.TaskLine.{TaskLine}
use Rattle.table_format.specs.declared.table.TaskTable.{TaskTable}
use Rattle.table_format.specs.Rules.{IsBegun}
use Rattle.table_format.specs.Program.{made_tail, stay_entry}
use Rattle.table_law.specs.Ticks.{IsMet}
use Rattle.table_law.specs.Costs.{table_program, process_of}

-- 32 for each list that spends ticks, 1 for each call, 3 beside its list for each entry, and 1 for
-- each process
abbrev pub IsShortCode : Type 0
IsShortCode = (t : TaskTable) → IsBegun t → code_length (table_program t) ≤ 20544

-- no process takes more than 13 words
abbrev pub HasLowProcesses : Type 0
HasLowProcesses =
    (t : TaskTable) → IsBegun t → (k : ℕ) (line : TaskLine) → slice_get t.tasks k ≡ Some line
    → stack_of_process (table_program t) k (process_of t line) ≤ 13

-- no entry takes more than 8 words
abbrev pub HasLowEntries : Type 0
HasLowEntries =
    (t : TaskTable) (monitor ticks : ℕ) → 3 ≤ ticks → ticks ≤ 1000000000 → IsMet (ticks - 3)
    → routine_words (table_program t) (plain_routine (stay_entry (made_tail t) ticks))
    + routine_height (table_program t) (by_monitor monitor) (calls_of (table_program t)) (plain_routine (stay_entry (made_tail t) ticks)) ≤ 8
