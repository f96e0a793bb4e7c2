use Rattle.image_reader_law.proofs.Single.{wrong_names_are_i5}
use Rattle.image_reader_law.proofs.faults_of_fields.wrong_names_are_i5.Goals as goal

pub returns : goal.returns
returns c = wrong_names_are_i5
