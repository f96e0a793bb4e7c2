use Rattle.vm_stretch.proofs.StartLawsMoving.{moved_are_slots}
use Rattle.vm_stretch.proofs.due_slots.moved_are_slots.Goals as goal

pub returns : goal.returns
returns c = moved_are_slots
