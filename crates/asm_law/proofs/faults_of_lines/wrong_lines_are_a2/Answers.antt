use Rattle.asm_law.proofs.FieldLaws.{wrong_lines_are_a2}
use Rattle.asm_law.proofs.faults_of_lines.wrong_lines_are_a2.Goals as goal

pub returns : goal.returns
returns c = wrong_lines_are_a2
