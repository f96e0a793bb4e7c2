-- The program of a table keeps to the rules for names: so does each tree that is that of the program
-- apart from places.
use Rattle.std.specs.Prelude.{◌≡◌}
use Rattle.syntax_tree.specs.declared.place.Place.{Place}
use Rattle.syntax_tree.specs.Placed.{Prog}
use Rattle.syntax_tree.specs.Bare.{bare}
use Rattle.static_names.specs.Resolved.{IsNamed}
use Rattle.table_format.specs.declared.table.TaskTable.{TaskTable}
use Rattle.table_format.specs.Rules.{IsBegun}
use Rattle.table_format.specs.Program.{program_of}

-- each name that is used is declared, once in its reach and of the kind that is wanted, and each
-- closing name is the opening one
abbrev pub KeepsNames : Type 0
KeepsNames = (t : TaskTable) → IsBegun t → (g : Prog Place) → bare g ≡ program_of t → IsNamed g
