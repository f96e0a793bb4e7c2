use Rattle.vm_stretch.proofs.StartLawsMoving.{due_are_released}
use Rattle.vm_stretch.proofs.due_slots.due_are_released.Goals as goal

pub returns : goal.returns
returns c = due_are_released
