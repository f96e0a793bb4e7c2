use Rattle.asm_law.proofs.FieldLaws.{nothing_is_behind_the_end}
use Rattle.asm_law.proofs.faults_of_lines.nothing_is_behind_the_end.Goals as goal

pub returns : goal.returns
returns c = nothing_is_behind_the_end
