use Rattle.calls_law.proofs.Spared.{spare-ticks-hold}
use Rattle.calls_law.proofs.spare_ticks.spare_ticks_hold.Goals as goal

pub returns : goal.returns
returns c = spare-ticks-hold c.dispatched_runs_are_in_time.ensures
