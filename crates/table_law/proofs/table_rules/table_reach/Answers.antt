use Rattle.table_law.proofs.Whole.{reach_kept}
use Rattle.table_law.proofs.table_rules.table_reach.Goals as goal

pub returns : goal.returns
returns c t is g same number place fails = reach_kept t is g same number place fails
