use Rattle.asm_law.proofs.FieldLaws.{lacks_of_form_are_a1}
use Rattle.asm_law.proofs.faults_of_lines.lacks_of_form_are_a1.Goals as goal

pub returns : goal.returns
returns c = lacks_of_form_are_a1
