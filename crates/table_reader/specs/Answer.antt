-- What the reader answers.
use Rattle.std.specs.Prelude.{ℕ, List, Result, Ok, Err}
use Rattle.table_format.specs.declared.table.TaskTable.{TaskTable}
use Rattle.table_format.specs.Rules.{IsTable}
use Rattle.table_format.specs.Faults.{IsTableFault}
use Rattle.table_reader.specs.declared.fault.TableFault.{TableFault}
use Rattle.table_reader.specs.declared.fault.TableFault.TheVariants.{Bad, Memory}

-- want of memory says nothing of the text
abbrev pub IsFaultOf : List ℕ → TableFault → Type 0
IsFaultOf text (Bad number line) = IsTableFault text number line
IsFaultOf text (Memory _) = Unit {0}

-- the text is the one spelling of the table, or has the fault
abbrev pub Answers : List ℕ → Result TaskTable TableFault → Type 0
Answers text (Ok t) = IsTable text t
Answers text (Err fault) = IsFaultOf text fault
