-- An image with its names.
use Rattle.std.specs.Prelude.{ℕ, List}
use Rattle.image.specs.declared.names.ImageNames.{ImageNames}
use Rattle.machine_semantics.specs.Image.{Image}

-- the program's name, the names of its parts, and what the machine runs
pub record NamedImage : Type 0 where
  pub program : List ℕ
  pub names : ImageNames
  pub image : Image
