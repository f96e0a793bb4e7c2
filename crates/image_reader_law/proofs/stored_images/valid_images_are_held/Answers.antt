use Rattle.image_reader_law.proofs.Held.{held}
use Rattle.image_reader_law.proofs.stored_images.valid_images_are_held.Goals as goal

pub returns : goal.returns
returns c = held c.valid_images_are_short.ensures c.images_written_are_read.ensures
