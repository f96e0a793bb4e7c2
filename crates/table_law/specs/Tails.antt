-- The names that are made beside those of a table.
use Rattle.std.specs.Prelude.{◌≢◌, ◌≤◌, ◌++◌, length, Contains}
use Rattle.syntax_tree.specs.Plain.{Name}
use Rattle.table_format.specs.declared.table.TaskTable.{TaskTable}
use Rattle.table_format.specs.Rules.{names, IsBegun}
use Rattle.table_format.specs.Program.{made_names, made_tail}

-- no name of the table is a made one
abbrev pub IsFreeTail : Type 0
IsFreeTail =
    (t : TaskTable) → IsBegun t → (name made : Name) → Contains (names t) name → Contains (made_names t) made
    → name ≢ made ++ made_tail t

-- a made name has at most 18 bytes
abbrev pub HasShortNames : Type 0
HasShortNames = (t : TaskTable) → IsBegun t → (made : Name) → Contains (made_names t) made → length (made ++ made_tail t) ≤ 18
