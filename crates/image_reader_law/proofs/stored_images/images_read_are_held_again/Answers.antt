use Rattle.image_reader_law.proofs.Held.{again}
use Rattle.image_reader_law.proofs.stored_images.images_read_are_held_again.Goals as goal

pub returns : goal.returns
returns c = again c.valid_images_are_held.ensures
