use Rattle.image_reader_law.proofs.ImageFaultsWhole.{image_made}
use Rattle.image_reader_law.proofs.faults_of_files.the_format_of_images_is_made.Goals as goal

pub returns : goal.returns
returns c = image_made
