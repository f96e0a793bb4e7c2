-- The tree of the text of a table's program.
use Rattle.std.specs.Prelude.{◌≡◌, ◌<◌, ◌≤◌, ℕ, length}
use Rattle.syntax_tree.specs.declared.place.Place.{Place}
use Rattle.syntax_tree.specs.Placed.{Prog}
use Rattle.syntax_tree.specs.Bare.{bare}
use Rattle.syntax_printer.specs.Canonical.{canonical}
use Rattle.front_end.specs.Source.{IsTreeOf}
use Rattle.table_format.specs.declared.table.TaskTable.{TaskTable}
use Rattle.table_format.specs.Rules.{IsBegun}
use Rattle.table_format.specs.Program.{program_of, table_text}

-- the text has fewer than 210,000 bytes
abbrev pub IsShortText : Type 0
IsShortText = (t : TaskTable) → IsBegun t → length (table_text t) < 210000

-- a tree of the text, which is that of the table's program apart from places
pub record TableTree (t : TaskTable) : Type 0 where
  pub tree : Prog Place
  pub grown : IsTreeOf (table_text t) tree
  pub same : bare tree ≡ program_of t

abbrev pub HasTableTree : Type 0
HasTableTree = (t : TaskTable) → IsBegun t → TableTree t

-- no other tree is that of the text
abbrev pub KeepsTableTree : Type 0
KeepsTableTree = (t : TaskTable) → IsBegun t → (g : Prog Place) → IsTreeOf (table_text t) g → bare g ≡ program_of t

-- the text is the canonical text of its tree
abbrev pub IsCanonicalText : Type 0
IsCanonicalText = (t : TaskTable) → IsBegun t → (g : Prog Place) → IsTreeOf (table_text t) g → canonical g ≡ table_text t
