use Rattle.asm_law.proofs.FieldLaws.{nothing_stands_for_a_process}
use Rattle.asm_law.proofs.faults_of_lines.nothing_stands_for_a_process.Goals as goal

pub returns : goal.returns
returns c = nothing_stands_for_a_process
