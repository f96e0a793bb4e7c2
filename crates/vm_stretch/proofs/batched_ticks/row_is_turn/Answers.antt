use Rattle.vm_stretch.proofs.Rowing.{row_is_turn}
use Rattle.vm_stretch.proofs.batched_ticks.row_is_turn.Goals as goal

pub returns : goal.returns
returns c = row_is_turn
