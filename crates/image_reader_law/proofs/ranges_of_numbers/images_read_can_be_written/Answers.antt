use Rattle.image_reader_law.proofs.Written.{read_can_be_written}
use Rattle.image_reader_law.proofs.ranges_of_numbers.images_read_can_be_written.Goals as goal

pub returns : goal.returns
returns c = read_can_be_written
