use Rattle.syntax.specs.Words.{keyword}
use Rattle.syntax_parser.proofs.parser.Parser.expect_keyword.Goals as goal

pub returns : goal.returns
returns c = c.pass.ensures (keyword c.args.at) c.is_keyword-matches.ensures
