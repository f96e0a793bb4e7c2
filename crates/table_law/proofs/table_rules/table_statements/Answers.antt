use Rattle.table_law.proofs.Whole.{statements_kept}
use Rattle.table_law.proofs.table_rules.table_statements.Goals as goal

pub returns : goal.returns
returns c t is g same number place fails = statements_kept t is g same number place fails
