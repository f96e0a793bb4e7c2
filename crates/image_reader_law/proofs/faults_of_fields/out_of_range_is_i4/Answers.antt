use Rattle.image_reader_law.proofs.Single.{out_of_range_is_i4}
use Rattle.image_reader_law.proofs.faults_of_fields.out_of_range_is_i4.Goals as goal

pub returns : goal.returns
returns c = out_of_range_is_i4
