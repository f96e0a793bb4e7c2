use Rattle.image_reader_law.proofs.ImageSoundFiles.{written_are_read}
use Rattle.image_reader_law.proofs.round_trip.images_written_are_read.Goals as goal

pub returns : goal.returns
returns c = written_are_read
