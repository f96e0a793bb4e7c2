use Rattle.table_law.proofs.Whole.{limits_kept}
use Rattle.table_law.proofs.table_rules.table_limits.Goals as goal

pub returns : goal.returns
returns c t is some g same number place fails = limits_kept t is some g same number place fails
