use Rattle.image_reader_law.proofs.FieldLaws.{ends_inside_are_i2}
use Rattle.image_reader_law.proofs.faults_of_fields.ends_inside_are_i2.Goals as goal

pub returns : goal.returns
returns c = ends_inside_are_i2
