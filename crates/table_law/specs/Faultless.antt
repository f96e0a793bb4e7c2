-- The text of a table's program is a program text: no fault comes of it.
use Rattle.std.specs.Prelude.{◌≢◌, ℕ, []}
use Rattle.syntax_tree.specs.declared.place.Place.{Place}
use Rattle.syntax_tree.specs.Placed.{Prog}
use Rattle.front_end.specs.Source.{IsTreeOf}
use Rattle.front_end.specs.Program.{IsProgramOf, IsProgramFault}
use Rattle.table_format.specs.declared.table.TaskTable.{TaskTable}
use Rattle.table_format.specs.Rules.{IsBegun}
use Rattle.table_format.specs.Program.{table_text}

-- each tree of the text is that of a program
abbrev pub IsProgramText : Type 0
IsProgramText = (t : TaskTable) → IsBegun t → t.tasks ≢ [] → (g : Prog Place) → IsTreeOf (table_text t) g → IsProgramOf (table_text t) g

-- no fault of its length, tokens, grammar, names and static rules
abbrev pub IsFaultless : Type 0
IsFaultless = (t : TaskTable) → IsBegun t → t.tasks ≢ [] → (number : ℕ) (place : Place) → ¬ IsProgramFault (table_text t) number place
