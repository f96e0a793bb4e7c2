-- What is left when ranks and bounds are filled in: the shape of the image, and what it is built
-- of.
use Rattle.std.specs.Prelude.{◌≡◌, ◌↔◌, ℕ, List, Option, Some, None, All, IsSome, slice_get}
use Rattle.syntax_tree.specs.Plain.{Program}
use Rattle.image.specs.Named.{NamedImage}
use Rattle.machine_semantics.specs.Image.{Image}
use Rattle.codegen_spec.specs.Parts.{program_made}
use Rattle.codegen_spec.specs.Held.{Holds}
use Rattle.code_measures.specs.Declared.{Declares}
use Rattle.code_measures.specs.Whole.{HasRanks}
use Rattle.built_image.specs.Named.{names_of}
use Rattle.built_image.specs.Built.{IsShaped, IsBuilt, IsTimely, IsLate}
use Rattle.built_image.specs.Filled.{without_bounds, without_ranks}
use Rattle.built_image.specs.Shown.{AreLeast, IsTableOf, table_of}
use Rattle.built_image_law.specs.Filled.{declared_bounds}

-- The law: with ranks, ceilings and blocks filled in, what holds and declares the code is shaped.
abbrev pub RankedImagesAreShaped : Type 0
RankedImagesAreShaped = (g : Program) (over : ℕ) (m n : Image) → m.over ≡ over → Holds g (program_made g) m
    → Declares g m → without_ranks n ≡ without_ranks m → HasRanks n → IsShaped g over n

-- The law: no shape depends on bounds.
abbrev pub ShapesLeaveBoundsAside : Type 0
ShapesLeaveBoundsAside = (g : Program) (over : ℕ) (m n : Image) → IsShaped g over m
    → without_bounds n ≡ without_bounds m → IsShaped g over n

-- The law: a program and an overhead have one shape.
abbrev pub ShapesAgree : Type 0
ShapesAgree = (g : Program) (over : ℕ) (m n : Image) → IsShaped g over m → IsShaped g over n
    → without_bounds n ≡ without_bounds m

-- The law: with its least bounds filled in, and its names, a shaped image is built.
abbrev pub BoundedImagesAreBuilt : Type 0
BoundedImagesAreBuilt = (g : Program) (over : ℕ) (m : Image) (bounds : List (Option ℕ)) (n : NamedImage)
    → IsShaped g over m → AreLeast m bounds → n.program ≡ g.name → n.names ≡ names_of g
    → without_bounds n.image ≡ without_bounds m → declared_bounds n.image ≡ bounds → IsBuilt g over n

-- The law: a program is timely exactly where the least bounds of its shape are all there.
abbrev pub TimelyWhereAllAreThere : Type 0
TimelyWhereAllAreThere = (g : Program) (over : ℕ) (m : Image) (bounds : List (Option ℕ)) → IsShaped g over m
    → AreLeast m bounds → IsTimely g over ↔ All IsSome bounds

-- The law: it is late exactly where one of them is not.
abbrev pub LateWhereOneIsNone : Type 0
LateWhereOneIsNone = (g : Program) (over : ℕ) (m : Image) (bounds : List (Option ℕ)) → IsShaped g over m
    → AreLeast m bounds → IsLate g over ↔ ((k : ℕ) × (slice_get bounds k ≡ Some None))

-- The law: the table of a built image, with the bounds that it declares, is that of its program.
abbrev pub BuiltImagesHaveTheTable : Type 0
BuiltImagesHaveTheTable = (g : Program) (over : ℕ) (n : NamedImage) → IsBuilt g over n
    → IsTableOf g over (table_of n.image (declared_bounds n.image))
