-- The text of a task table is that of one table, and has no fault; another text has one fault at most.
use Rattle.std.specs.Prelude.{◌≡◌, ℕ, List}
use Rattle.table_format.specs.declared.table.TaskTable.{TaskTable}
use Rattle.table_format.specs.Rules.{IsTable}
use Rattle.table_format.specs.Faults.{IsTableFault}

-- The law: a text is that of one table.
abbrev pub TablesAreOne : Type 0
TablesAreOne = (text : List ℕ) (t u : TaskTable) → IsTable text t → IsTable text u → t ≡ u

-- The law: such a text has no fault.
abbrev pub TablesHaveNoFault : Type 0
TablesHaveNoFault = (text : List ℕ) (t : TaskTable) (number line : ℕ) → IsTable text t → IsTableFault text number line → ⊥

-- The law: a text has one fault at most.
abbrev pub FaultsAreOne : Type 0
FaultsAreOne = (text : List ℕ) (number other line place : ℕ) → IsTableFault text number line → IsTableFault text other place → (number ≡ other) × (line ≡ place)
