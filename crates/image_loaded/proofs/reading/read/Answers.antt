use Rattle.std.proofs.Math.Facts.{Fits-lt-pow}
use Rattle.image_loaded.proofs.Loaded.{reads}
use Rattle.image_loaded.proofs.Versions.{all_below}
use Rattle.image_loaded.proofs.reading.read.Goals as goal

pub returns : goal.returns
returns c =
    reads c.args.bytes.now c.images_read_are_in_their_ranges.ensures.limits c.images_read_are_in_their_ranges.ensures.monitors c.images_read_can_be_written.ensures c.images_read_are_held_again.ensures
    (all_below c.args.bytes.now (λ i. Fits-lt-pow (c.type_inv.bytes i))) c.read_image.result c.read_image.ensures
