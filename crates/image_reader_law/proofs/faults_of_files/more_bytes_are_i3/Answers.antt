use Rattle.image_reader_law.proofs.Behind.{three}
use Rattle.image_reader_law.proofs.faults_of_files.more_bytes_are_i3.Goals as goal

pub returns : goal.returns
returns c = three
