-- What each step of building promises.
use Rattle.std.specs.Prelude.{◌≡◌, ◌≤◌, ℕ, List, Option, length}
use Rattle.syntax_tree.specs.declared.place.Place.{Place}
use Rattle.syntax_tree.specs.Placed.{Prog, plain}
use Rattle.static_rule.specs.First.{IsFirst}
use Rattle.code_cost.specs.Rules.{SizeFails}
use Rattle.code_cost.specs.Sizes.{AreDefined}
use Rattle.image.specs.declared.raw.RawImage.{RawImage}
use Rattle.image.specs.Raw.{image_of, named_of}
use Rattle.valid_image.specs.Valid.{HasLimits}
use Rattle.codegen_spec.specs.Parts.{program_made}
use Rattle.codegen_spec.specs.Held.{Holds}
use Rattle.code_measures.specs.Declared.{Declares}
use Rattle.built_image_law.specs.Filled.{declared_bounds}
use Rattle.built_image.specs.Built.{IsShaped}
use Rattle.built_image.specs.Filled.{DiffersInBounds}
use Rattle.built_image.specs.Named.{names_of}
use Rattle.built_image.specs.Shown.{table_of}
use Rattle.compile.specs.declared.built.Built.{Built}
use Rattle.compile.specs.declared.built.LateProgram.{LateProgram}
use Rattle.compile.specs.declared.built.BuildFault.{BuildFault}
use Rattle.compile.specs.declared.built.BuildFault.TheVariants as fault
use Rattle.compile.specs.declared.measured_code.MeasuredCode.{MeasuredCode}
use Rattle.compile.specs.Build.{KeepsSizes}

-- the code of the program, of which no rule of size fails, and its measures
pub record AreParts (g : Prog Place) (p : MeasuredCode) : Type 0 where
  pub fits : KeepsSizes g
  pub code : p.code ≡ program_made (plain g)
  pub defined : AreDefined (plain g) p.measures

-- why a program has none: the rule of size that fails first, or want of memory
abbrev pub IsSizeFault : Prog Place → BuildFault → Type 0
IsSizeFault g (fault.TooLarge number place) = IsFirst (SizeFails g) (record { number = number; place = place })
IsSizeFault g (fault.Untimely l) = ⊥
IsSizeFault g (fault.Memory _) = Unit {0}

-- the parts of the program, put together; nothing is said of ranks, ceilings, blocks and bounds
pub record IsAssembled (g : Prog Place) (over : ℕ) (raw : RawImage) : Type 0 where
  pub program : raw.program ≡ g.name
  pub names : raw.names ≡ names_of (plain g)
  pub overhead : raw.overhead ≡ over
  pub holds : Holds (plain g) (program_made (plain g)) (image_of raw)
  pub declares : Declares (plain g) (image_of raw)

-- the image of the program, in the limits of validity; nothing is said of its bounds but that none
-- is 0
pub record IsRanked (g : Prog Place) (over : ℕ) (raw : RawImage) : Type 0 where
  pub fits : KeepsSizes g
  pub program : raw.program ≡ g.name
  pub names : raw.names ≡ names_of (plain g)
  pub shaped : IsShaped (plain g) over (image_of raw)
  pub limits : HasLimits (image_of raw)
  pub code : length raw.code ≤ 65535

-- the image with these bounds, and its table
pub record IsFilled (before : RawImage) (least : List (Option ℕ)) (b : Built) : Type 0 where
  pub same : DiffersInBounds (named_of before) (named_of b.image)
  pub declared : declared_bounds (image_of b.image) ≡ least
  pub table : b.table ≡ table_of (image_of b.image) least

-- the names of the image, and its table with these bounds
pub record IsReport (image : RawImage) (bounds : List (Option ℕ)) (l : LateProgram) : Type 0 where
  pub names : l.names ≡ image.names
  pub program : l.program ≡ image.program
  pub table : l.table ≡ table_of (image_of image) bounds
