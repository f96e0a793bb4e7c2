use Rattle.vm_stretch.proofs.Runs.{turn_keeps_state}
use Rattle.vm_stretch.proofs.batched_ticks.turn_keeps_state.Goals as goal

pub returns : goal.returns
returns c = turn_keeps_state
