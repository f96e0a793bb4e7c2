-- What the answers of `build` mean.
use Rattle.std.specs.Prelude.{◌≡◌, ℕ, Result, Ok, Err}
use Rattle.syntax_tree.specs.declared.place.Place.{Place}
use Rattle.syntax_tree.specs.Placed.{Prog, plain}
use Rattle.static_rule.specs.First.{IsFirst}
use Rattle.code_cost.specs.Rules.{SizeFails}
use Rattle.image.specs.Raw.{image_of, named_of}
use Rattle.sched_table.specs.Late.{IsNamed}
use Rattle.built_image_law.specs.Filled.{declared_bounds}
use Rattle.built_image.specs.Built.{IsBuilt, IsLate}
use Rattle.built_image.specs.Named.{names_of}
use Rattle.built_image.specs.Shown.{IsTableOf, table_of}
use Rattle.compile.specs.declared.built.Built.{Built}
use Rattle.compile.specs.declared.built.LateProgram.{LateProgram}
use Rattle.compile.specs.declared.built.BuildFault.{BuildFault}
use Rattle.compile.specs.declared.built.BuildFault.TheVariants as fault

-- no rule of size fails
abbrev pub KeepsSizes : Prog Place → Type 0
KeepsSizes g = (number : ℕ) (place : Place) → ¬ SizeFails g number place

-- the image is that of the program, and the table shows it with the bounds that it declares
pub record IsBuiltOf (g : Prog Place) (over : ℕ) (b : Built) : Type 0 where
  pub fits : KeepsSizes g
  pub built : IsBuilt (plain g) over (named_of b.image)
  pub table : b.table ≡ table_of (image_of b.image) (declared_bounds (image_of b.image))
  pub named : IsNamed b.image.names b.table

-- the program is late, and the table is its own
pub record IsLateOf (g : Prog Place) (over : ℕ) (l : LateProgram) : Type 0 where
  pub fits : KeepsSizes g
  pub late : IsLate (plain g) over
  pub table : IsTableOf (plain g) over l.table
  pub names : l.names ≡ names_of (plain g)
  pub program : l.program ≡ g.name
  pub named : IsNamed l.names l.table

-- want of memory says nothing of the program
abbrev pub Builds : Prog Place → ℕ → Result Built BuildFault → Type 0
Builds g over (Ok b) = IsBuiltOf g over b
Builds g over (Err (fault.TooLarge number place)) = IsFirst (SizeFails g) (record { number = number; place = place })
Builds g over (Err (fault.Untimely l)) = IsLateOf g over l
Builds g over (Err (fault.Memory _)) = Unit {0}
