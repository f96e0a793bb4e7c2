use Rattle.calls_law.proofs.Fitting.{migrate_again}
use Rattle.calls_law.proofs.stored_then_read.migrate_after_go.Goals as goal

pub returns : goal.returns
returns c = migrate_again c.migrate_is_one.ensures
