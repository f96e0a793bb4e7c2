use Rattle.vm_stretch.proofs.Rowing.{row_keeps_events}
use Rattle.vm_stretch.proofs.batched_ticks.row_keeps_events.Goals as goal

pub returns : goal.returns
returns c = row_keeps_events
