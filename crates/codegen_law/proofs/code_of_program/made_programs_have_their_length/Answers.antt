use Rattle.codegen_law.proofs.Program.{made_has_its_length}
use Rattle.codegen_law.proofs.code_of_program.made_programs_have_their_length.Goals as goal

pub returns : goal.returns
returns c = made_has_its_length
