use Rattle.front_end.proofs.ProgramPrograms.{one_program}
use Rattle.front_end.proofs.one_program_law.one_program.Goals as goal

pub returns : goal.returns
returns c = one_program c.one_tree.ensures
