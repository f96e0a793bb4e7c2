use Rattle.image_reader_law.proofs.Single.{numbers_for_nothing_are_i7}
use Rattle.image_reader_law.proofs.faults_of_fields.numbers_for_nothing_are_i7.Goals as goal

pub returns : goal.returns
returns c = numbers_for_nothing_are_i7
