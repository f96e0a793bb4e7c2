use Rattle.vm_stretch.proofs.Jumping.{slots_are_quiet}
use Rattle.vm_stretch.proofs.batched_ticks.slots_are_quiet.Goals as goal

pub returns : goal.returns
returns c = slots_are_quiet
