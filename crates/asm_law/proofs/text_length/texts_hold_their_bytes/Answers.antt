use Rattle.asm_law.proofs.Whole.{hold}
use Rattle.asm_law.proofs.text_length.texts_hold_their_bytes.Goals as goal

pub returns : goal.returns
returns c = hold
