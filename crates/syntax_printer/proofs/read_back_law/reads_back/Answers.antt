use Rattle.syntax_printer.proofs.ReadBackLemmas.{canonical_words, canonical_tree}
use Rattle.syntax_printer.proofs.read_back_law.reads_back.Goals as goal

pub returns-clause-tokens : goal.returns-clause-tokens
returns-clause-tokens c g is = let it = canonical_words g is in (it.toks, it.are)

pub returns-clause-tree : goal.returns-clause-tree
returns-clause-tree c g is toks are = canonical_tree g is toks are
