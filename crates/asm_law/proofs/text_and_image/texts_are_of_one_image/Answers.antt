use Rattle.asm_law.proofs.Texts.{one_image}
use Rattle.asm_law.proofs.text_and_image.texts_are_of_one_image.Goals as goal

pub returns : goal.returns
returns c = one_image c.texts_written_are_read.ensures
