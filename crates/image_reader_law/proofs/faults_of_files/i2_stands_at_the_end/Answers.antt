use Rattle.image_reader_law.proofs.ByNumber.{two}
use Rattle.image_reader_law.proofs.faults_of_files.i2_stands_at_the_end.Goals as goal

pub returns : goal.returns
returns c = two
