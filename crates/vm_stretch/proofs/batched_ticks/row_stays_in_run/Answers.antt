use Rattle.vm_stretch.proofs.Rowing.{row_stays_in_run}
use Rattle.vm_stretch.proofs.batched_ticks.row_stays_in_run.Goals as goal

pub returns : goal.returns
returns c = row_stays_in_run
