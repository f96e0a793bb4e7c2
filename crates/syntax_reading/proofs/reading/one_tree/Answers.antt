use Rattle.syntax.specs.Grammar.{MOST_LEVELS}
use Rattle.syntax.specs.Words.{toks_of}
use Rattle.syntax_reading.proofs.Again as again
use Rattle.syntax_reading.proofs.reading.one_tree.Goals as goal

pub returns : goal.returns
returns c text toks g h left right = again.one_tree MOST_LEVELS (toks_of text toks) g h left right
