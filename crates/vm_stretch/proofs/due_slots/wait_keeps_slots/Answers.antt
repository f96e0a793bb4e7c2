use Rattle.vm_stretch.proofs.Setting.{wait_keeps_slots}
use Rattle.vm_stretch.proofs.due_slots.wait_keeps_slots.Goals as goal

pub returns : goal.returns
returns c = wait_keeps_slots
