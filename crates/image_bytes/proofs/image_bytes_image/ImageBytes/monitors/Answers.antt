use Rattle.std.proofs.Common.{arith}
use Rattle.image_reader.specs.Grammar.{monitor_format}
use Rattle.image_bytes.specs.Kept.{no_monitor}
use Rattle.image_bytes.proofs.Same.{as_many}
use Rattle.image_bytes.proofs.image_bytes_image.ImageBytes.monitors.Goals as goal

pub overflow_cast-result : goal.overflow_cast-result
overflow_cast-result c =
    let many = as_many no_monitor monitor_format c.self.inside.bytes.items c.self.inside.places.monitors in
    omega (arith, many, c.self.invariant.written.counts.monitors, c.len.ensures)
