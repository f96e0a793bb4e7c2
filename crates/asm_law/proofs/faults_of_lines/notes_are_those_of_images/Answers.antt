use Rattle.asm_law.proofs.Images.{notes_are_those_of_images}
use Rattle.asm_law.proofs.faults_of_lines.notes_are_those_of_images.Goals as goal

pub returns : goal.returns
returns c = notes_are_those_of_images
