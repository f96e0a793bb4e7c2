use Rattle.vm_stretch.proofs.Runs.{turn_stays_in_run}
use Rattle.vm_stretch.proofs.batched_ticks.turn_stays_in_run.Goals as goal

pub returns : goal.returns
returns c = turn_stays_in_run
