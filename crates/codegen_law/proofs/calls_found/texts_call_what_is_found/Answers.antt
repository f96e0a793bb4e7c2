use Rattle.codegen_law.proofs.Finding.{text_finds}
use Rattle.codegen_law.proofs.calls_found.texts_call_what_is_found.Goals as goal

pub returns : goal.returns
returns c = text_finds
