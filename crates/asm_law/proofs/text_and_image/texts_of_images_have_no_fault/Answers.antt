use Rattle.asm_law.proofs.Texts.{no_fault}
use Rattle.asm_law.proofs.text_and_image.texts_of_images_have_no_fault.Goals as goal

pub returns : goal.returns
returns c = no_fault c.texts_written_are_read.ensures
