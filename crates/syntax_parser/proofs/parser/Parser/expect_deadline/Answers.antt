use Rattle.syntax.specs.Words.{DEADLINE}
use Rattle.syntax_parser.proofs.parser.Parser.expect_deadline.Goals as goal

pub returns : goal.returns
returns c = c.pass.ensures DEADLINE c.is_deadline-matches.ensures
