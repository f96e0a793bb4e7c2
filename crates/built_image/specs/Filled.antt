-- What is filled in last: ranks, ceilings and blocks, and then bounds.
use Rattle.std.specs.Prelude.{◌≡◌, ℕ, map}
use Rattle.machine_semantics.specs.Image.{Image, Monitor, Process}
use Rattle.image.specs.Named.{NamedImage}

abbrev pub without_bound : Process → Process
without_bound p = record p { bound = 0 }

-- an image, its bounds left aside
abbrev pub without_bounds : Image → Image
without_bounds m = record m { processes = map without_bound m.processes }

abbrev pub without_rank : Process → Process
without_rank p = record p { rank = 0; block = 0; bound = 0 }

abbrev pub without_ceiling : Monitor → Monitor
without_ceiling x = record x { ceiling = 0 }

-- an image, its ranks, ceilings, blocks and bounds left aside
abbrev pub without_ranks : Image → Image
without_ranks m = record m { monitors = map without_ceiling m.monitors; processes = map without_rank m.processes }

-- the same but for bounds
pub record DiffersInBounds (before now : NamedImage) : Type 0 where
  pub program : now.program ≡ before.program
  pub names : now.names ≡ before.names
  pub image : without_bounds now.image ≡ without_bounds before.image

-- the same but for ranks, ceilings, blocks and bounds
pub record DiffersInRanks (before now : NamedImage) : Type 0 where
  pub program : now.program ≡ before.program
  pub names : now.names ≡ before.names
  pub image : without_ranks now.image ≡ without_ranks before.image
