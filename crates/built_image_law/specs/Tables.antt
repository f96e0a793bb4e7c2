-- The table of a shaped image, beside the names of its program.
use Rattle.std.specs.Prelude.{◌≡◌, ℕ, List, Option, length}
use Rattle.syntax_tree.specs.Plain.{Program}
use Rattle.machine_semantics.specs.Image.{Image}
use Rattle.built_image.specs.Built.{IsShaped}
use Rattle.built_image.specs.Named.{names_of}
use Rattle.built_image.specs.Shown.{table_of}
use Rattle.sched_table.specs.Late.{IsNamed}

-- The law: the table of a shaped image has a row for each process and a ceiling for each monitor
-- that is named.
abbrev pub TablesAreNamed : Type 0
TablesAreNamed = (g : Program) (over : ℕ) (m : Image) (bounds : List (Option ℕ)) → IsShaped g over m
    → length bounds ≡ length m.processes → IsNamed (names_of g) (table_of m bounds)
