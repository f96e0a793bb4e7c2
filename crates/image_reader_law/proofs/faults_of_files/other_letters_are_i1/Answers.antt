use Rattle.image_reader_law.proofs.One.{at_letters}
use Rattle.image_reader_law.proofs.faults_of_files.other_letters_are_i1.Goals as goal

pub returns : goal.returns
returns c = at_letters
