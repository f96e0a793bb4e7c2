use Rattle.asm_law.proofs.Right.{right_texts_have_no_fault}
use Rattle.asm_law.proofs.faults_of_lines.right_texts_have_no_fault.Goals as goal

pub returns : goal.returns
returns c = right_texts_have_no_fault
