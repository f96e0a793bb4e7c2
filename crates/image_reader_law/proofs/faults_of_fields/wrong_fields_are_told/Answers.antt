use Rattle.image_reader_law.proofs.FieldLaws.{wrong_fields_are_told}
use Rattle.image_reader_law.proofs.faults_of_fields.wrong_fields_are_told.Goals as goal

pub returns : goal.returns
returns c = wrong_fields_are_told
