use Rattle.asm_law.proofs.FieldLaws.{no_other_faults}
use Rattle.asm_law.proofs.faults_of_lines.no_other_faults.Goals as goal

pub returns : goal.returns
returns c = no_other_faults
