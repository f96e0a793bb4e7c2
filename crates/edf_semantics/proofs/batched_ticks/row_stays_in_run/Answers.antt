use Rattle.edf_semantics.proofs.Rowing.{row_stays_in_run}
use Rattle.edf_semantics.proofs.batched_ticks.row_stays_in_run.Goals as goal

pub returns : goal.returns
returns c = row_stays_in_run
