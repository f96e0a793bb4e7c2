use Rattle.calls_law.proofs.Fitting.{after_compile}
use Rattle.calls_law.proofs.stored_then_read.run_after_compile.Goals as goal

pub returns : goal.returns
returns c = after_compile c.run_is_one.ensures
