use Rattle.vm_stretch.proofs.Runs.{turn_is_stuck}
use Rattle.vm_stretch.proofs.batched_ticks.turn_is_stuck.Goals as goal

pub returns : goal.returns
returns c = turn_is_stuck
