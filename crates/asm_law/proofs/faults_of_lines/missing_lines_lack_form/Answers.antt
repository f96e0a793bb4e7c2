use Rattle.asm_law.proofs.FieldLaws.{missing_lines_lack_form}
use Rattle.asm_law.proofs.faults_of_lines.missing_lines_lack_form.Goals as goal

pub returns : goal.returns
returns c = missing_lines_lack_form
