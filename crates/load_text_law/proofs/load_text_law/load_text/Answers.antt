use Rattle.load_text_law.proofs.Short.{short_text}
use Rattle.load_text_law.proofs.Trees.{load_tree, only_tree}
use Rattle.load_text_law.proofs.load_text_law.load_text.Goals as goal

pub returns-clause-short : goal.returns-clause-short
returns-clause-short c key count few = short_text key count few

pub returns-clause-tree : goal.returns-clause-tree
returns-clause-tree c key count few = load_tree key count few

pub returns-clause-only : goal.returns-clause-only
returns-clause-only c key count few g is = only_tree c.one_tree.ensures key count few g is
