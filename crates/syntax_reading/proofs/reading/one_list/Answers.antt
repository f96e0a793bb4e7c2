use Rattle.syntax.specs.Words.{toks_of}
use Rattle.syntax_reading.proofs.TreeWords as words
use Rattle.syntax_reading.proofs.reading.one_list.Goals as goal

pub returns : goal.returns
returns c text other toks others g h left right same = words.one_list g h (toks_of text toks) (toks_of other others) left right same
