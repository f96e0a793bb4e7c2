use Rattle.std.proofs.Common.{arith}
use Rattle.std.proofs.lemmas.Grind.{common_steps}
use Rattle.syntax_tree.proofs.StmtViews.{stmt-Wait}
use Rattle.syntax_parser.proofs.Parts.{wait_parts}
use Rattle.syntax_parser.proofs.parser.Parser.wait_stmt.Goals as goal

pub returns : goal.returns
returns c =
    let e = wait_parts c.args.self.now in
    let v = stmt-Wait c.in-Ok.it c.in-Ok-name.it.0 c.in-Ok-name.it.1 c.in-Ok-wait_bounds.it.0 c.in-Ok-wait_bounds.it.1 in
    grind (arith, common_steps)
