-- The law of the generator: what it makes of a well-formed program that is not too large is the
-- code of the program.
use Rattle.source_semantics_law.specs.Example.{signalled_wait}
use Rattle.machine_safety.specs.ValidImages.{meeting}
use Rattle.codegen_spec.specs.Parts.{program_made}
use Rattle.codegen_spec.specs.Held.{Holds}
use Rattle.built_image_law.specs.Generated.{IsSmall}

-- A program with a monitor, a wait, a signal and a handler, and its image, meet the premises.
abbrev pub ExampleIsGenerated : Type 0
ExampleIsGenerated = IsSmall signalled_wait
    × Holds signalled_wait (program_made signalled_wait) meeting
