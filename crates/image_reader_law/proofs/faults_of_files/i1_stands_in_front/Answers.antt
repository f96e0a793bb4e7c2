use Rattle.image_reader_law.proofs.One.{in_front}
use Rattle.image_reader_law.proofs.faults_of_files.i1_stands_in_front.Goals as goal

pub returns : goal.returns
returns c = in_front
