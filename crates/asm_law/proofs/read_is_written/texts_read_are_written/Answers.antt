use Rattle.asm_law.proofs.SoundWhole.{text_took}
use Rattle.asm_law.proofs.read_is_written.texts_read_are_written.Goals as goal

pub returns : goal.returns
returns c text parts is = (text_took text).from parts is
