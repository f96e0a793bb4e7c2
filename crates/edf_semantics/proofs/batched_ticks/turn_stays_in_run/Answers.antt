use Rattle.edf_semantics.proofs.Turning.{turn_stays_in_run}
use Rattle.edf_semantics.proofs.batched_ticks.turn_stays_in_run.Goals as goal

pub returns : goal.returns
returns c = turn_stays_in_run
