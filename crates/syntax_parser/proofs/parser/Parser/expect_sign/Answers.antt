use Rattle.syntax.specs.Words.{sign}
use Rattle.syntax_parser.proofs.parser.Parser.expect_sign.Goals as goal

pub returns : goal.returns
returns c = c.pass.ensures (sign c.args.at) c.is_sign-matches.ensures
