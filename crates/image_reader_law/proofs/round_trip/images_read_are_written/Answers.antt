use Rattle.image_reader_law.proofs.ImageSoundFiles.{read_are_written}
use Rattle.image_reader_law.proofs.round_trip.images_read_are_written.Goals as goal

pub returns : goal.returns
returns c = read_are_written
