use Rattle.image_reader_law.proofs.Whole.{short}
use Rattle.image_reader_law.proofs.stored_images.valid_images_are_short.Goals as goal

pub returns : goal.returns
returns c = short
