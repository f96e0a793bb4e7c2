use Rattle.image_reader_law.proofs.ImageSoundFiles.{cut_ends}
use Rattle.image_reader_law.proofs.round_trip.cut_images_end_inside_a_field.Goals as goal

pub returns : goal.returns
returns c = cut_ends
