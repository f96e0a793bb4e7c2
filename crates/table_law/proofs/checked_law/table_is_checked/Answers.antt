use Rattle.table_law.proofs.Kept.{keeps_rules}
use Rattle.table_law.proofs.checked_law.table_is_checked.Goals as goal

pub returns : goal.returns
returns c = keeps_rules c.table_names.ensures c.table_statements.ensures c.table_reach.ensures c.table_limits.ensures c.table_events.ensures
