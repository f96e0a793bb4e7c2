use Rattle.image_reader_law.proofs.ByNumber.{nine}
use Rattle.image_reader_law.proofs.faults_of_files.too_many_bytes_are_i9.Goals as goal

pub returns : goal.returns
returns c = nine
