use Rattle.printed_law.proofs.Statements.{statements-stay}
use Rattle.printed_law.proofs.rules_fail_alike.statements_fail_alike.Goals as goal

pub returns : goal.returns
returns c = statements-stay
