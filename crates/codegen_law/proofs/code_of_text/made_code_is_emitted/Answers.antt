use Rattle.codegen_law.proofs.Emitted.{made_is_emitted}
use Rattle.codegen_law.proofs.code_of_text.made_code_is_emitted.Goals as goal

pub returns : goal.returns
returns c = made_is_emitted
