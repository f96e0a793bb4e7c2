use Rattle.front_end.proofs.Texts.{one_tree}
use Rattle.front_end.proofs.one_program_law.one_tree.Goals as goal

pub returns : goal.returns
returns c = one_tree c.one_list.ensures c.one_tree.ensures
