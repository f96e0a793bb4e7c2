-- With an overhead a program has one image and one table, and it is timely or late.
use Rattle.std.specs.Prelude.{◌≡◌, ℕ}
use Rattle.syntax_tree.specs.Plain.{Program}
use Rattle.image.specs.Named.{NamedImage}
use Rattle.sched_table.specs.declared.table.Table.{Table}
use Rattle.built_image.specs.Built.{IsBuilt, IsLate}
use Rattle.built_image.specs.Shown.{IsTableOf}

-- The law: with its bounds, the image of a program is one.
abbrev pub BuiltImagesAreOne : Type 0
BuiltImagesAreOne = (g : Program) (over : ℕ) (m n : NamedImage) → IsBuilt g over m → IsBuilt g over n → m ≡ n

-- The law: the table of a program is one.
abbrev pub TablesAreOne : Type 0
TablesAreOne = (g : Program) (over : ℕ) (t u : Table) → IsTableOf g over t → IsTableOf g over u → t ≡ u

-- The law: a program that has an image in time is not late.
abbrev pub TimelyOrLate : Type 0
TimelyOrLate = (g : Program) (over : ℕ) (n : NamedImage) → IsBuilt g over n → IsLate g over → ⊥
