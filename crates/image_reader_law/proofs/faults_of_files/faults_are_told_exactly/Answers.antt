use Rattle.image_reader_law.proofs.ImageFaultsFiles.{told_exactly}
use Rattle.image_reader_law.proofs.faults_of_files.faults_are_told_exactly.Goals as goal

pub returns : goal.returns
returns c = told_exactly
