use Rattle.asm_law.proofs.FieldLaws.{long_texts_are_a3}
use Rattle.asm_law.proofs.faults_of_lines.long_texts_are_a3.Goals as goal

pub returns : goal.returns
returns c = long_texts_are_a3
