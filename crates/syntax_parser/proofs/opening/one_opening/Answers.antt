use Rattle.syntax_parser.proofs.Ends as ends
use Rattle.syntax_parser.proofs.opening.one_opening.Goals as goal

pub returns : goal.returns
returns c text toks p q first second = ends.one_opening text toks p q first second
