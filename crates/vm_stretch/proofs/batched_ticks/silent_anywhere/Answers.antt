use Rattle.vm_stretch.proofs.Rowing.{silent_anywhere}
use Rattle.vm_stretch.proofs.batched_ticks.silent_anywhere.Goals as goal

pub returns : goal.returns
returns c = silent_anywhere
