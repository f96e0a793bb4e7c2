use Rattle.syntax.proofs.LawLemmas.{stand_in_order}
use Rattle.syntax_printer.proofs.read_back_law.tokens_are_spelled.Goals as goal

pub returns : goal.returns
returns c text toks are k d below = let there = (stand_in_order text toks are).stand k d below in there.kind
