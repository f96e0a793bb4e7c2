use Rattle.image_reader_law.proofs.Single.{wrong_kinds_are_i6}
use Rattle.image_reader_law.proofs.faults_of_fields.wrong_kinds_are_i6.Goals as goal

pub returns : goal.returns
returns c = wrong_kinds_are_i6
