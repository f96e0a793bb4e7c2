use Rattle.asm_law.proofs.ReadsWhole.{written_are_read}
use Rattle.asm_law.proofs.written_is_read.texts_written_are_read.Goals as goal

pub returns : goal.returns
returns c = written_are_read
