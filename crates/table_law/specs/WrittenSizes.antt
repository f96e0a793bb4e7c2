-- The program of a table is not too large: nor is a tree that is that of the program apart from
-- places.
use Rattle.std.specs.Prelude.{◌≡◌, ℕ}
use Rattle.syntax_tree.specs.declared.place.Place.{Place}
use Rattle.syntax_tree.specs.Placed.{Prog}
use Rattle.syntax_tree.specs.Bare.{bare}
use Rattle.code_cost.specs.Rules.{SizeFails}
use Rattle.table_format.specs.declared.table.TaskTable.{TaskTable}
use Rattle.table_format.specs.Rules.{IsBegun}
use Rattle.table_format.specs.Program.{program_of}

-- it has no more than 65,535 instructions, and no routine and no process takes more than 4,096 words
abbrev pub KeepsSizes : Type 0
KeepsSizes =
    (t : TaskTable) → IsBegun t → (g : Prog Place) → bare g ≡ program_of t
    → (number : ℕ) (place : Place) → ¬ SizeFails g number place
