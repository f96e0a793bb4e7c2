use Rattle.asm_law.proofs.Texts.{told_is_held}
use Rattle.asm_law.proofs.text_and_image.images_told_are_held.Goals as goal

pub returns : goal.returns
returns c = told_is_held c.texts_hold_their_bytes.ensures c.images_written_are_read.ensures
