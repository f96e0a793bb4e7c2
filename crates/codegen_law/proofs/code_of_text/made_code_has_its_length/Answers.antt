use Rattle.codegen_law.proofs.Alone.{made_has_its_length}
use Rattle.codegen_law.proofs.code_of_text.made_code_has_its_length.Goals as goal

pub returns : goal.returns
returns c = made_has_its_length
