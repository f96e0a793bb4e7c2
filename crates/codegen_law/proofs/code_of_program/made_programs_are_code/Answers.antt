use Rattle.codegen_law.proofs.Program.{made_is_code}
use Rattle.codegen_law.proofs.code_of_program.made_programs_are_code.Goals as goal

pub returns : goal.returns
returns c = made_is_code
