use Rattle.asm_law.proofs.FieldLaws.{wrong_notes_are_of_images}
use Rattle.asm_law.proofs.faults_of_lines.wrong_notes_are_of_images.Goals as goal

pub returns : goal.returns
returns c = wrong_notes_are_of_images
