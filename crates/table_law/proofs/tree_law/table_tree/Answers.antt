use Rattle.std.proofs.Common.{ap, sym, ◌∙◌}
use Rattle.syntax_printer.specs.Canonical.{canonical}
use Rattle.syntax_printer.proofs.Bare.{canonical_bare}
use Rattle.table_format.specs.Program.{table_text}
use Rattle.table_law.proofs.Trees as trees
use Rattle.table_law.proofs.tree_law.table_tree.Goals as goal

pub returns-clause-short : goal.returns-clause-short
returns-clause-short c t is = trees.short_text t is

pub returns-clause-tree : goal.returns-clause-tree
returns-clause-tree c t is = trees.table_tree t is

pub returns-clause-only : goal.returns-clause-only
returns-clause-only c t is g grown = trees.only_tree c.one_tree.ensures t is g grown

pub returns-clause-canonical : goal.returns-clause-canonical
unfolding table_text
returns-clause-canonical c t is g grown = sym (canonical_bare g) ∙ ap canonical (trees.only_tree c.one_tree.ensures t is g grown)
