use Rattle.asm_law.proofs.Texts.{read_is}
use Rattle.asm_law.proofs.text_and_image.texts_read_are_of_images.Goals as goal

pub returns : goal.returns
returns c = read_is c.texts_read_are_written.ensures
