use Rattle.std.proofs.Common.{arith}
use Rattle.image_bytes.specs.Fields.{routine_fields}
use Rattle.image_bytes.specs.Kept.{no_routine}
use Rattle.image_bytes.proofs.Same.{as_many}
use Rattle.image_bytes.proofs.image_bytes_image.ImageBytes.routines.Goals as goal

pub overflow_cast-result : goal.overflow_cast-result
overflow_cast-result c =
    let many = as_many no_routine routine_fields c.self.inside.bytes.items c.self.inside.places.routines in
    omega (arith, many, c.self.invariant.written.counts.routines, c.len.ensures)
