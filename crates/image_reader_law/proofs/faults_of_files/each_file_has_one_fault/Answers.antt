use Rattle.image_reader_law.proofs.ImageFaultsFiles.{one_fault}
use Rattle.image_reader_law.proofs.faults_of_files.each_file_has_one_fault.Goals as goal

pub returns : goal.returns
returns c = one_fault
