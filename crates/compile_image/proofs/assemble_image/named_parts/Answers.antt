use Rattle.std.proofs.Common.{◌∙◌}
use Rattle.compile_image.proofs.assemble_image.named_parts.Goals as goal

pub parts_of-requires : goal.parts_of-requires
parts_of-requires c = record { over = c.requires.over; fits = c.requires.fits }

pub image_names-requires : goal.image_names-requires
image_names-requires c = record { few = c.requires.fits.few_monitors }

pub returns : goal.returns
returns c =
    let parts = c.in-Ok-parts_of.ensures in
    record {
      program = c.in-Ok.ensures ∙ c.as_bytes.ensures;
      names = c.in-Ok-image_names.ensures;
      monitors = parts.monitors;
      routines = parts.routines;
      processes = parts.processes;
    }
