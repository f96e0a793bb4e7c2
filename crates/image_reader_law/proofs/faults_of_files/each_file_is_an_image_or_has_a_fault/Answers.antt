use Rattle.image_reader_law.proofs.Images.{either}
use Rattle.image_reader_law.proofs.faults_of_files.each_file_is_an_image_or_has_a_fault.Goals as goal

pub returns : goal.returns
returns c = either
