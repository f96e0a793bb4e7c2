use Rattle.image_reader_law.proofs.One.{at_version}
use Rattle.image_reader_law.proofs.faults_of_files.other_versions_are_i1.Goals as goal

pub returns : goal.returns
returns c = at_version
