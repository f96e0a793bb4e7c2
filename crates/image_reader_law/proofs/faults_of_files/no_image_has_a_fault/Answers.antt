use Rattle.image_reader_law.proofs.Images.{none}
use Rattle.image_reader_law.proofs.faults_of_files.no_image_has_a_fault.Goals as goal

pub returns : goal.returns
returns c = none
