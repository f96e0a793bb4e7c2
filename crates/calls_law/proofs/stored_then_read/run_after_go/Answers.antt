use Rattle.calls_law.proofs.Fitting.{after_go}
use Rattle.calls_law.proofs.stored_then_read.run_after_go.Goals as goal

pub returns : goal.returns
returns c = after_go c.run_is_one.ensures
