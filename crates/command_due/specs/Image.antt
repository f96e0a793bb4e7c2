-- The image of a program under earliest deadline first.
use Rattle.std.specs.Prelude.{◌≡◌, ℕ, Some, slice_get}
use Rattle.syntax_tree.specs.Plain.{Program}
use Rattle.machine_semantics.specs.Image.{Image, Process}
use Rattle.image.specs.Named.{NamedImage}
use Rattle.built_image.specs.Built.{IsShaped}
use Rattle.built_image.specs.Named.{names_of}

-- each process is to end by its deadline
abbrev pub HasDeadlinesAsBounds : Image → Type 0
HasDeadlinesAsBounds m = (k : ℕ) (p : Process) → slice_get m.processes k ≡ Some p → p.bound ≡ p.deadline

-- The image of a program without overhead, with its names.
pub record IsEdfImage (g : Program) (n : NamedImage) : Type 0 where
  pub program : n.program ≡ g.name
  pub names : n.names ≡ names_of g
  pub shaped : IsShaped g 0 n.image
  pub bounds : HasDeadlinesAsBounds n.image
