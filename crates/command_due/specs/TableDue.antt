-- What is due of `table`.
use Rattle.std.specs.Prelude.{◌≡◌, ◌++◌, ℕ, List, codes, decimal}
use Rattle.table_format.specs.declared.table.TaskTable.{TaskTable}
use Rattle.table_format.specs.Rules.{IsTable}
use Rattle.table_format.specs.Faults.{IsTableFault}
use Rattle.table_format.specs.Program.{table_text}
use Rattle.command_due.specs.CommandsDue.{Outcome, told}
use Rattle.command_due.specs.AsmDue.{keeps}

abbrev pub table_fault_line : (number line : ℕ) → List ℕ
table_fault_line number line = codes "T" ++ (decimal number ++ (codes " " ++ (decimal line ++ codes "\n")))

-- `table`: the text of the program of the table is stored; of another text the line of its fault is
-- put
pub data IsTableDue (held : List ℕ) (outcome : Outcome) : Type 0 where
  table_faulty : (number line : ℕ) → IsTableFault held number line → outcome ≡ told 2 (table_fault_line number line) → IsTableDue held outcome
  tabled : (t : TaskTable) → IsTable held t → outcome ≡ keeps (table_text t) → IsTableDue held outcome
