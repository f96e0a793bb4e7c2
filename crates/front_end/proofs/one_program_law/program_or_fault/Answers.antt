use Rattle.front_end.proofs.Texts.{tree_or_fault}
use Rattle.front_end.proofs.ProgramPrograms.{program_or_fault}
use Rattle.front_end.proofs.one_program_law.program_or_fault.Goals as goal

pub returns : goal.returns
returns c = program_or_fault c.one_tree.ensures (tree_or_fault c.one_list.ensures c.one_fault.ensures.apart)
