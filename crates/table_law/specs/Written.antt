-- The text of a table's program is a program text in full.
use Rattle.std.specs.Prelude.{◌≡◌, ◌≢◌, []}
use Rattle.syntax_tree.specs.declared.place.Place.{Place}
use Rattle.syntax_tree.specs.Placed.{Prog}
use Rattle.syntax_tree.specs.Bare.{bare}
use Rattle.syntax_printer.specs.Canonical.{canonical}
use Rattle.command_due.specs.Source.{IsWritten}
use Rattle.table_format.specs.declared.table.TaskTable.{TaskTable}
use Rattle.table_format.specs.Rules.{IsBegun}
use Rattle.table_format.specs.Program.{program_of, table_text}

-- the text is that of this tree, which keeps to all rules, is not too large, and is the table's
-- program apart from places; its canonical text, and that of the tree without places, is the text
pub record WrittenTable (t : TaskTable) : Type 0 where
  pub tree : Prog Place
  pub written : IsWritten (table_text t) tree
  pub same : bare tree ≡ program_of t
  pub spelled : canonical tree ≡ table_text t
  pub printed : canonical (bare tree) ≡ table_text t

-- the law, of each table with a process
abbrev pub IsWrittenTable : Type 0
IsWrittenTable = (t : TaskTable) → IsBegun t → t.tasks ≢ [] → WrittenTable t
