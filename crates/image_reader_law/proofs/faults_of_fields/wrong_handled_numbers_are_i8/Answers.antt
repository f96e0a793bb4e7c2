use Rattle.image_reader_law.proofs.Single.{wrong_handled_numbers_are_i8}
use Rattle.image_reader_law.proofs.faults_of_fields.wrong_handled_numbers_are_i8.Goals as goal

pub returns : goal.returns
returns c = wrong_handled_numbers_are_i8
