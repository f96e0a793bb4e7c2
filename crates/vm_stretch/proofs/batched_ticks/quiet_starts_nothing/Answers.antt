use Rattle.vm_stretch.proofs.Quiet.{quiet_starts_nothing}
use Rattle.vm_stretch.proofs.batched_ticks.quiet_starts_nothing.Goals as goal

pub returns : goal.returns
returns c = quiet_starts_nothing
